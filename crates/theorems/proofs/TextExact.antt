-- The text reader accepts exactly the texts of jobs: a job's text, if it is not too long, is read as that job; and an accepted
-- text is the text of the job it says.
use mathlib.Core.Path.{◌≡◌, refl, sym}
use mathlib.Core.Bool.{true}
use mathlib.Core.List.Memᴰ.{head as here}
use mathlib.Core.List.Memᴰ.{tail as there}
use mathlib.Core.List.{List, [], ◌∷◌, ◌++◌, append-nil, append_assoc}
use mathlib.Core.Logic.Iff
use mathlib.Core.Logic.{◌↔◌}
use mathlib.Core.Option.{some}
use Prim.Native.Nat.{ℕ, suc, ◌+◌, ◌≤◌, ◌<◌}
use native.Mathlib.Omega.{arith}
use lib.ListN.{length, take, length-append, take-append-drop}
use lib.Seq.{slice, length-take-le, length-slice, take-take, take-length}
use Rattle.rules.specs.Sizes.{text_most, links_most, packets_most}
use Rattle.rules.specs.Network.{Job, paths_from, paths}
use Rattle.rules.specs.Outcome.{is, onward}
use Rattle.rules.specs.Tables.{stops_agree}
use Rattle.rules.specs.Bytes.{line_feed, letter_l, letter_n, letter_p, line_text, split}
use Rattle.rules.specs.JobText.{letter_line, line_of, with_packet, with_line, with_lines, first_line, all_lines, reading}
use Rattle.rules.specs.JobWritten.{lines_text, text_of_job}
use Rattle.theorems.proofs.Verdicts.{leb_iff, eqb_iff, and_iff}
use Rattle.theorems.proofs.Paths.{path_links_exist}
use Rattle.theorems.specs.Jobs.{AtEach, IsLink, IsPacket, IsJob}
use Rattle.theorems.specs.TextRest.{with_rest}
use Rattle.theorems.proofs.Accepted.{hops_from, job_stops_agree}
use Rattle.theorems.proofs.TextJobs.{reading_job}
use Rattle.theorems.proofs.TextPieces.{split_first}
use Rattle.theorems.proofs.TextLines.{Sayable, line_of-bytes, split_line}
use Rattle.theorems.proofs.TextLinesAccepted.{reading_lines_iff, first_line-iff, link_line-iff, packet_line-iff}
use Rattle.theorems.proofs.TextWritten.{reading_text}

-- ---- the hops up to one stop, and those from there to the next

module _ (a e : ℕ) (hops : List ℕ) (l : a ≤ e) where
  take_slice : take a hops ++ slice a e hops ≡ take e hops
  take_slice = rw (← take-take a e hops l, take-append-drop)

  length-take_slice : e ≤ length hops → length (take a hops) + length (slice a e hops) ≡ e
  length-take_slice m = omega (arith, length-take-le a hops (omega arith), length-slice a e hops m)

-- ---- the lines of a job's text are read one after another

-- from job i the bytes make job j, whatever the number of their first line
abbrev Reads : Job → List ℕ → Job → Type 0
Reads i bs j = (n : ℕ) → with_rest n i (split line_feed bs) ≡ is j

after_line : (n : ℕ) (i : Job) (p bs : List ℕ) → with_lines n i p (split line_feed bs) ≡ onward (with_line n i (line_of p)) (λ k. with_rest (suc n) k (split line_feed bs))
unfolding with_lines
after_line n i p bs = let (q, qs, e) = split_first line_feed bs in rw e

after_first : (p bs : List ℕ) → all_lines (p ∷ split line_feed bs) ≡ onward (first_line (line_of p)) (λ k. with_rest 2 k (split line_feed bs))
after_first p bs = let (q, qs, e) = split_first line_feed bs in rw e

reads_line : (i k j : Job) (letter : ℕ) (ns bs : List ℕ) → line_feed < letter → Sayable ns → ((n : ℕ) → with_line n i (letter_line letter (some ns)) ≡ is k)
    → Reads k bs j → Reads i (line_text letter ns ++ bs) j
reads_line i k j letter ns bs l h a r n = rw (split_line letter ns bs l, after_line, line_of-bytes letter ns l h, a n) (r (suc n))

module _ (j : Job) (job : IsJob j) where
  sayable_nodes : Sayable (j.network.nodes ∷ [])
  sayable_nodes n (here e) = omega (arith, e, job.few_nodes)
  sayable_nodes n (there m) = elim m [ ]

  sayable_link : {from to : ℕ} → IsLink j.network.nodes from to → Sayable (from ∷ to ∷ [])
  sayable_link h n (here e) = omega (arith, e, h.from_node, job.few_nodes)
  sayable_link h n (there (here e)) = omega (arith, e, h.to_node, job.few_nodes)
  sayable_link {from = from} {to = to} h n (there (there m)) = elim m [ ]

  sayable_packet : {source : ℕ} {path : List ℕ} → IsPacket j.network source path → Sayable (source ∷ path)
  sayable_packet h n (here e) = omega (arith, e, h.source_node, job.few_nodes)
  sayable_packet h n (there m) = omega (arith, path_links_exist h.on_path m, job.few_links)

  -- the job's nodes with these links, and no packets
  abbrev linked : List ℕ → List ℕ → Job
  linked origins ends = record { network = record { nodes = j.network.nodes; origins = origins; ends = ends }; sources = []; stops = []; hops = [] }

  -- links that follow others
  reads_links : (origins ends os es bs : List ℕ) (k : Job) → length os ≡ length es → length (origins ++ os) ≤ links_most → AtEach (IsLink j.network.nodes) os es
      → Reads (linked (origins ++ os) (ends ++ es)) bs k → Reads (linked origins ends) (lines_text (λ from to. line_text letter_l (from ∷ to ∷ [])) os es ++ bs) k
  unfolding lines_text
  reads_links origins ends [] [] bs k c m h r = simp append-nil at r
  reads_links origins ends [] (e ∷ es) bs k c m h r = absurd (omega arith)
  reads_links origins ends (o ∷ os) [] bs k c m h r = absurd (omega arith)
  reads_links origins ends (o ∷ os) (e ∷ es) bs k c m h r =
      let new = h 0 o e refl refl in
      let room : length origins < links_most = omega (arith, length-append origins (o ∷ os)) in
      let rest = reads_links (origins ++ (o ∷ [])) (ends ++ (e ∷ [])) os es bs k (omega arith) (simp append_assoc m) (λ i. h (suc i)) (simp append_assoc r) in
      rw append_assoc
      (reads_line (linked origins ends) (linked (origins ++ (o ∷ [])) (ends ++ (e ∷ []))) k letter_l (o ∷ e ∷ []) _ (omega arith) (sayable_link new)
      (λ n. (link_line-iff n (linked origins ends) o e _).1 (refl, (room, (new, refl)))) rest)

  -- the job's links with these packets, and its hops up to a
  abbrev packed : List ℕ → List ℕ → ℕ → Job
  packed sources stops a = record { network = j.network; sources = sources; stops = stops; hops = take a j.hops }

  -- packets that follow others
  reads_packets : (sources stops : List ℕ) (a : ℕ) (ss es : List ℕ) → length ss ≡ length es → length (sources ++ ss) ≤ packets_most → stops_agree a es (length j.hops) ≡ true
      → AtEach (IsPacket j.network) ss (paths_from a es j.hops)
      → Reads (packed sources stops a) (lines_text (λ source path. line_text letter_p (source ∷ path)) ss (paths_from a es j.hops)) (packed (sources ++ ss) (stops ++ es) (length j.hops))
  unfolding lines_text paths_from stops_agree split with_lines
  reads_packets sources stops a [] [] c m t h n = rw ((eqb_iff a (length j.hops)).0 t, append-nil sources, append-nil stops)
  reads_packets sources stops a [] (e ∷ es) c m t h n = absurd (omega arith)
  reads_packets sources stops a (s ∷ ss) [] c m t h n = absurd (omega arith)
  reads_packets sources stops a (s ∷ ss) (e ∷ es) c m t h n =
      let path = slice a e j.hops in
      let (low, agree) = (and_iff (leb_iff a e) Iff.rfl).0 t in
      let high : e ≤ length j.hops = omega (arith, hops_from e es j.hops agree) in
      let new = h 0 s path refl refl in
      let room : length sources < packets_most = omega (arith, length-append sources (s ∷ ss)) in
      let stop = length-take_slice a e j.hops low high in
      let grown : with_packet (packed sources stops a) s path ≡ packed (sources ++ (s ∷ [])) (stops ++ (e ∷ [])) e = rw (stop, take_slice a e j.hops low) in
      let rest = reads_packets (sources ++ (s ∷ [])) (stops ++ (e ∷ [])) e ss es (omega arith) (simp append_assoc m) agree (λ i. h (suc i)) in
      reads_line (packed sources stops a) _ _ letter_p (s ∷ path) _ (omega arith) (sayable_packet new)
      (λ n. (packet_line-iff n (packed sources stops a) s path _).1 (room, (omega (arith, job.few_hops), (new, grown)))) (simp append_assoc at rest) n

  text_lines : all_lines (split line_feed (text_of_job j)) ≡ is j
  unfolding text_of_job paths
  text_lines =
      let packets = reads_packets [] [] 0 j.sources j.stops (sym job.stops_count) job.few_packets (job_stops_agree j job) job.packets in
      let links = reads_links [] [] j.network.origins j.network.ends _ j (sym job.ends_count) job.few_links job.links (simp take-length at packets) in
      rw (
        append_assoc,
        split_line letter_n (j.network.nodes ∷ []) _ (omega arith),
        after_first,
        line_of-bytes letter_n (j.network.nodes ∷ []) (omega arith) sayable_nodes,
        (first_line-iff j.network.nodes _).1 ((job.some_nodes, job.few_nodes), refl),
      ) (links 2)

pub text_reads : (j : Job) → IsJob j → length (text_of_job j) ≤ text_most → reading (text_of_job j) ≡ is j
text_reads j job l = (reading_lines_iff (text_of_job j) j).1 (l, text_lines j job)

-- the one text of each job is accepted, if it is not too long, and no other
pub reading-iff : (text : List ℕ) (j : Job) → (reading text ≡ is j) ↔ (IsJob j × (text ≡ text_of_job j) × (length text ≤ text_most))
reading-iff text j = (
  λ e. (reading_job text j e, reading_text text j e, ((reading_lines_iff text j).0 e).0),
  λ (job, same, l). rw same (text_reads j job (rw same at l)),
)
