-- What the reader's own functions promise of the job that stands in the lists so far.
use Rattle.std.specs.Prelude.{◌≡◌, List, ℕ, ◌+◌, ◌≤◌, length, take, Result, Ok, Err}
use Rattle.std.specs.Result.{result_unwrap_or}
use Rattle.rules.specs.Sizes.{links_most, packets_most, hops_most}
use Rattle.rules.specs.Network.{Job}
use Rattle.rules.specs.Outcome.{Outcome}
use Rattle.job.specs.declared.Job.{Job as Counts}
use Rattle.job.specs.declared.Refusal.{Refusal}
use Rattle.job.specs.Lists.{job_of}
use Rattle.job.specs.Told.{outcome_of}
use Rattle.job_text.specs.declared.Line.{Line}
use Rattle.job_text.specs.declared.Line.TheVariants.{Nodes, Link, Packet}
use Rattle.job_text.specs.Told.{Lists, filled}

-- the job that stands in the first places of the lists, as many as are counted
abbrev pub so_far : Counts → Lists → Job
so_far c l =
    job_of c.nodes (take c.links l.origins) (take c.links l.ends) (take c.packets l.sources) (take c.packets l.stops) (take c.hops l.hops)

-- an answer, with the lists it stands beside
abbrev pub job_read : Result Counts Refusal → Lists → Outcome Job
job_read told l = outcome_of (λ counts. so_far counts l) told

-- the counts with one more line that is taken: a link, or a packet with its hops
abbrev pub counted_of : Counts → Line → Counts
counted_of c (Nodes n) = c
counted_of c (Link from to) = record { nodes = c.nodes; links = c.links + 1; packets = c.packets; hops = c.hops }
counted_of c (Packet source count) = record { nodes = c.nodes; links = c.links; packets = c.packets + 1; hops = c.hops + count }

-- counts if nothing was refused, or else the refusal
abbrev pub if_fine : Result Unit Refusal → Counts → Result Counts Refusal
if_fine (Ok tt) counts = Ok counts
if_fine (Err refusal) counts = Err refusal

-- the lists have their sizes
pub record Room (l : Lists) : Type 0 where
  pub origins : links_most ≤ length l.origins
  pub ends : links_most ≤ length l.ends
  pub sources : packets_most ≤ length l.sources
  pub stops : packets_most ≤ length l.stops
  pub hops : hops_most ≤ length l.hops

-- the counts are within theirs
pub record Within (c : Counts) : Type 0 where
  pub links : c.links ≤ links_most
  pub packets : c.packets ≤ packets_most
  pub hops : c.hops ≤ hops_most

abbrev pub KeepsWithin : Result Counts Refusal → Type 0
KeepsWithin (Ok counts) = Within counts
KeepsWithin (Err refusal) = Unit

-- what was to be read stands in the lists, or is refused
pub record Took (outcome : Outcome Job) (told : Result Counts Refusal) (after : Lists) : Type 0 where
  pub read : job_read told after ≡ outcome
  pub within : KeepsWithin told

-- ---- the lists in the end

-- the first n places, and then zeros
abbrev pub front : ℕ → List ℕ → List ℕ
front n xs = filled (take n xs) xs

-- each list keeps as many places as are counted
pub record Fronts (c : Counts) (lent after : Lists) : Type 0 where
  pub origins : after.origins ≡ front c.links lent.origins
  pub ends : after.ends ≡ front c.links lent.ends
  pub sources : after.sources ≡ front c.packets lent.sources
  pub stops : after.stops ≡ front c.packets lent.stops
  pub hops : after.hops ≡ front c.hops lent.hops

-- nothing stays of what is refused
abbrev pub kept_of : Result Counts Refusal → Counts
kept_of told = result_unwrap_or told (record { nodes = 0; links = 0; packets = 0; hops = 0 })
