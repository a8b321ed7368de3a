-- Document 02, request 3: where 15 stands among the refusals of a job, as text and as lists. Proved by computation, as the sessions are.
use mathlib.Core.Path.{◌≡◌, refl}
use mathlib.Core.List.{List, [], ◌∷◌, ◌++◌}
use Prim.Native.Nat.{ℕ}
use lib.ListN.{replicate}
use Rattle.rules.specs.Network.{Job, link_at, paths_from, paths}
use Rattle.rules.specs.Outcome.{Verdict, fine, refused, onward}
use Rattle.rules.specs.Tables.{link_verdict, walk, packet_verdict, links_verdict, packets_verdict, stops_agree, tables}
use Rattle.rules.specs.Bytes.{letter_p, line_feed, digits, decimal, fields_text, line_text, value_after, number_of, numbers_of, split}
use Rattle.rules.specs.JobText.{line_of, with_line, with_lines, reading}
use Rattle.rules.proofs.Sessions.{AllHold, P, two_way}

-- a job on two nodes that are joined both ways, and what is told of it: its packets' lines, or their sources, stops and hops
pub data Judged : Type 0 where
  text : (packets : List ℕ) (told : Verdict) → Judged
  lists : (sources stops hops : List ℕ) (told : Verdict) → Judged

abbrev pub joined : List ℕ → List ℕ → List ℕ → Job
joined sources stops hops = record { network = record { nodes = 2; origins = 0 ∷ 1 ∷ []; ends = 1 ∷ 0 ∷ [] }; sources = sources; stops = stops; hops = hops }

abbrev pub Holds : Judged → Type 0
Holds (text packets told) = onward (reading (two_way ++ packets)) (λ j. fine) ≡ told
Holds (lists sources stops hops told) = tables (joined sources stops hops) ≡ told

unfoldable pub table : List Judged
table =
    -- a packet without hops, at its line; without a source, and with one that is no node
    text (P 0 []) (refused 15 4)
    ∷ text (letter_p ∷ line_feed ∷ []) (refused 2 4)
    ∷ text (P 2 []) (refused 4 4)
    -- above a line of bad form, a source that is no node and a link that does not exist, and below one; a hop is enough
    ∷ text (P 0 [] ++ line_feed ∷ []) (refused 15 4)
    ∷ text (P 0 [] ++ P 2 (0 ∷ [])) (refused 15 4)
    ∷ text (P 0 (0 ∷ []) ++ P 1 [] ++ P 0 (2 ∷ [])) (refused 15 5)
    ∷ text (P 0 (2 ∷ []) ++ P 1 []) (refused 6 4)
    ∷ text (P 0 (0 ∷ [])) fine
    -- the same in lists, at the packet; above a path that is too long, and behind it a stop that falls
    ∷ lists (0 ∷ []) (0 ∷ []) [] (refused 15 0)
    ∷ lists (2 ∷ []) (0 ∷ []) [] (refused 4 0)
    ∷ lists (0 ∷ 2 ∷ []) (0 ∷ 1 ∷ []) (0 ∷ []) (refused 15 0)
    ∷ lists (0 ∷ 1 ∷ 0 ∷ []) (1 ∷ 1 ∷ 2 ∷ []) (0 ∷ 2 ∷ []) (refused 15 1)
    ∷ lists (0 ∷ 1 ∷ []) (1 ∷ 1 ∷ []) (2 ∷ []) (refused 6 0)
    ∷ lists (0 ∷ []) (1 ∷ []) (0 ∷ []) fine
    ∷ lists (0 ∷ 0 ∷ []) (0 ∷ 256 ∷ []) (replicate 256 0) (refused 15 0)
    ∷ lists (0 ∷ 1 ∷ 0 ∷ []) (1 ∷ 1 ∷ 0 ∷ []) [] (refused 9 0)
    ∷ []

pub no_hops_in_order : AllHold Holds table
unfolding table
    link_at paths_from paths link_verdict walk packet_verdict links_verdict packets_verdict stops_agree tables
    digits decimal fields_text line_text value_after number_of numbers_of split line_of with_line with_lines reading
no_hops_in_order = (refl, (refl, (refl, (refl, (refl, (refl, (refl, (refl, (refl, (refl, (refl, (refl, (refl, (refl, (refl, (refl, tt))))))))))))))))
