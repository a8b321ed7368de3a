-- Document 01, "Job text and plan text": the plan's text.
use Rattle.std.specs.Prelude.{List, [], ◌∷◌, ◌++◌, ℕ, suc}
use Rattle.rules.specs.Network.{Job, paths}
use Rattle.rules.specs.Travel.{delay_in}
use Rattle.rules.specs.Counts.{end_of, routing_time, congestion, dilation}
use Rattle.rules.specs.Bytes.{letter_s, letter_t, line_text}

-- a line for each packet, from number k on: packet, start, end
unfoldable pub packet_lines : (ℕ → ℕ) → ℕ → List ℕ → List (List ℕ) → List ℕ
packet_lines delay k [] ps = []
packet_lines delay k (s ∷ ss) [] = []
packet_lines delay k (s ∷ ss) (p ∷ ps) = line_text letter_s (k ∷ s ∷ end_of delay s p ∷ []) ++ packet_lines delay (suc k) ss ps

-- the packets' lines, then routing time, C and D
unfoldable pub text_of_plan : Job → List ℕ → List ℕ
text_of_plan j starts =
    packet_lines (delay_in j) 0 starts (paths j)
    ++ line_text letter_t (routing_time (delay_in j) starts (paths j) ∷ congestion j ∷ dilation j ∷ [])
