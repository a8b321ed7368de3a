-- Document 01, "Job text and plan text" and "Refusals and their order", Text: what a job's text means. The first line is read
-- apart; each later line is judged for its form, its sizes, its nodes, whether a packet has hops, then each hop. A refusal names the line,
-- from 1.
use Rattle.std.specs.Prelude.{List, [], ◌∷◌, ◌++◌, ◌&&◌, ℕ, suc, ◌+◌, eqb, ltb, leb, length}
use Rattle.std.proofs.Math.Option.{Option, none, some}
use Rattle.counting.specs.Count.{pick}
use Rattle.rules.specs.Sizes.{text_most, nodes_most, links_most, packets_most, hops_most}
use Rattle.rules.specs.Network.{Job}
use Rattle.rules.specs.Outcome.{Outcome, is, refused, must, ◌then◌, onward}
use Rattle.rules.specs.Tables.{link_verdict, packet_verdict}
use Rattle.rules.specs.Bytes.{tab, line_feed, letter_l, letter_n, letter_p, numbers_of, split}

-- a line by itself: what it says, or bad form
pub data Line : Type 0 where
  nodes : ℕ → Line
  link : (from to : ℕ) → Line
  packet : (source : ℕ) (path : List ℕ) → Line
  bad : Line

abbrev pub nodes_line : List ℕ → Line
nodes_line [] = bad
nodes_line (n ∷ []) = nodes n
nodes_line (n ∷ m ∷ ns) = bad

abbrev pub link_line : List ℕ → Line
link_line [] = bad
link_line (a ∷ []) = bad
link_line (a ∷ b ∷ []) = link a b
link_line (a ∷ b ∷ n ∷ ns) = bad

abbrev pub packet_line : List ℕ → Line
packet_line [] = bad
packet_line (source ∷ path) = packet source path

-- by the letter
abbrev pub letter_line : ℕ → Option (List ℕ) → Line
letter_line letter none = bad
letter_line letter (some ns) =
    pick (eqb letter letter_n) (nodes_line ns) (pick (eqb letter letter_l) (link_line ns) (pick (eqb letter letter_p) (packet_line ns) bad))

-- by its fields: a letter, and numbers
abbrev pub fields_line : List (List ℕ) → Line
fields_line [] = bad
fields_line ([] ∷ fs) = bad
fields_line ((letter ∷ []) ∷ fs) = letter_line letter (numbers_of fs)
fields_line ((letter ∷ b ∷ bs) ∷ fs) = bad

unfoldable pub line_of : List ℕ → Line
line_of bytes = fields_line (split tab bytes)

-- the job of N's line alone
abbrev pub blank : ℕ → Job
blank n = record { network = record { nodes = n; origins = []; ends = [] }; sources = []; stops = []; hops = [] }

abbrev pub with_link : Job → ℕ → ℕ → Job
with_link j from to =
    record {
      network = record { nodes = j.network.nodes; origins = j.network.origins ++ (from ∷ []); ends = j.network.ends ++ (to ∷ []) };
      sources = j.sources;
      stops = j.stops;
      hops = j.hops;
    }

abbrev pub with_packet : Job → ℕ → List ℕ → Job
with_packet j source path =
    record {
      network = j.network;
      sources = j.sources ++ (source ∷ []);
      stops = j.stops ++ ((length j.hops + length path) ∷ []);
      hops = j.hops ++ path;
    }

-- the job with line n, below the first: there N is bad form, and L below P
unfoldable pub with_line : ℕ → Job → Line → Outcome Job
with_line n j (nodes m) = refused 2 n
with_line n j (link from to) =
    must (eqb (length j.sources) 0) 2 n
    then must (ltb (length j.network.origins) links_most) 3 n
    then link_verdict j.network.nodes n from to
    then is (with_link j from to)
with_line n j (packet source path) =
    must (ltb (length j.sources) packets_most) 3 n
    then must (leb (length j.hops + length path) hops_most) 3 n
    then packet_verdict j.network n source path
    then is (with_packet j source path)
with_line n j bad = refused 2 n

-- the piece p and those after it, from line n on: the last is what follows the last line feed, and is to be empty
unfoldable pub with_lines : ℕ → Job → List ℕ → List (List ℕ) → Outcome Job
with_lines n j p [] = must (eqb (length p) 0) 2 n then is j
with_lines n j p (q ∷ ps) = onward (with_line n j (line_of p)) (λ k. with_lines (suc n) k q ps)

abbrev pub first_line : Line → Outcome Job
first_line (nodes n) = must (leb 1 n && leb n nodes_most) 3 1 then is (blank n)
first_line (link from to) = refused 2 1
first_line (packet source path) = refused 2 1
first_line bad = refused 2 1

abbrev pub all_lines : List (List ℕ) → Outcome Job
all_lines [] = refused 2 1
all_lines (p ∷ []) = refused 2 1
all_lines (p ∷ q ∷ ps) = onward (first_line (line_of p)) (λ j. with_lines 2 j q ps)

-- the job that a text says
unfoldable pub reading : List ℕ → Outcome Job
reading text = must (leb (length text) text_most) 1 0 then all_lines (split line_feed text)
