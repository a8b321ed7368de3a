-- Document 01, "Refusals and their order", Text: what the reader answers, and what the five lists it is lent hold afterwards.
use Rattle.std.specs.Prelude.{◌≡◌, Bool, ◌&&◌, ◌||◌, List, [], ◌++◌, ℕ, ◌-◌, eqb, leb, length, replicate, Result}
use Rattle.counting.specs.Count.{pick}
use Rattle.rules.specs.Sizes.{text_most, links_most, packets_most, hops_most}
use Rattle.rules.specs.Network.{Job}
use Rattle.rules.specs.Outcome.{Outcome, is, refused, must, ◌then◌, onward}
use Rattle.rules.specs.JobText.{reading}
use Rattle.job.specs.declared.Job.{Job as Counts}
use Rattle.job.specs.declared.Refusal.{Refusal}
use Rattle.job.specs.Told.{outcome_of}
use Rattle.job_text.specs.declared.LentLists.{LentLists}

-- the five lists
pub record Lists : Type 0 where
  pub origins : List ℕ
  pub ends : List ℕ
  pub sources : List ℕ
  pub stops : List ℕ
  pub hops : List ℕ

abbrev pub lists : (origins ends sources stops hops : List ℕ) → Lists
lists origins ends sources stops hops = record { origins = origins; ends = ends; sources = sources; stops = stops; hops = hops }

-- what is in the lists that are lent
abbrev pub lists_in : LentLists → Lists
lists_in l = lists l.origins.now l.ends.now l.sources.now l.stops.now l.hops.now

-- each list is as long as before
pub record SameLengths (lent after : Lists) : Type 0 where
  pub origins : length after.origins ≡ length lent.origins
  pub ends : length after.ends ≡ length lent.ends
  pub sources : length after.sources ≡ length lent.sources
  pub stops : length after.stops ≡ length lent.stops
  pub hops : length after.hops ≡ length lent.hops

-- the same lists are lent after as before, and as long, whatever is in them
pub record SameLists (old new : LentLists) : Type 0 where
  pub origins : new.origins.ghost_name ≡ old.origins.ghost_name
  pub ends : new.ends.ghost_name ≡ old.ends.ghost_name
  pub sources : new.sources.ghost_name ≡ old.sources.ghost_name
  pub stops : new.stops.ghost_name ≡ old.stops.ghost_name
  pub hops : new.hops.ghost_name ≡ old.hops.ghost_name
  pub long : SameLengths (lists_in old) (lists_in new)

-- lists so long are none shorter than its size
abbrev pub room_for : (origins ends sources stops hops : ℕ) → Bool
room_for origins ends sources stops hops =
    leb links_most origins && leb links_most ends && leb packets_most sources && leb packets_most stops && leb hops_most hops

abbrev pub roomy : Lists → Bool
roomy l = room_for (length l.origins) (length l.ends) (length l.sources) (length l.stops) (length l.hops)

-- 1, then 10, then the lines from the top
unfoldable pub read_in : List ℕ → Lists → Outcome Job
read_in text lent = must (leb (length text) text_most) 1 0 then must (roomy lent) 10 0 then reading text

-- a list in the first places of the one that is lent, and zeros in the others
unfoldable pub filled : List ℕ → List ℕ → List ℕ
filled xs lent = xs ++ replicate (length lent - length xs) 0

-- a lent list afterwards: the job's own, then zeros; unchanged after 1 or 10, and all zero after any other refusal
abbrev pub list_after : Outcome Job → (Job → List ℕ) → List ℕ → List ℕ
list_after (is j) own lent = filled (own j) lent
list_after (refused number place) own lent = pick (eqb number 1 || eqb number 10) lent (filled [] lent)

abbrev pub lists_after : Outcome Job → Lists → Lists
lists_after o lent = record {
  origins = list_after o (λ j. j.network.origins) lent.origins;
  ends = list_after o (λ j. j.network.ends) lent.ends;
  sources = list_after o (λ j. j.sources) lent.sources;
  stops = list_after o (λ j. j.stops) lent.stops;
  hops = list_after o (λ j. j.hops) lent.hops;
}

-- how many nodes, links, packets and hops a job has
abbrev pub counts_of : Job → Counts
counts_of j =
    record { nodes = j.network.nodes; links = length j.network.origins; packets = length j.sources; hops = length j.hops }

abbrev pub reading_of : Result Counts Refusal → Outcome Counts
reading_of = outcome_of (λ counts. counts)

-- the answer, and the five lists afterwards
pub record ReadAs (outcome : Outcome Job) (told : Result Counts Refusal) (lent after : Lists) : Type 0 where
  pub answer : reading_of told ≡ onward outcome (λ j. is (counts_of j))
  pub lists : after ≡ lists_after outcome lent
