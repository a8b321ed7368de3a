-- What a line adds to the job so far: of each kind of line, a law for every way out.
use mathlib.Core.Path.{◌≡◌, sym, ◌∙◌}
use mathlib.Core.List.{List, ◌++◌}
use Prim.Native.Nat.{ℕ, ◌+◌, ◌≤◌, ◌<◌}
use native.Mathlib.Numerals.{add-one}
use native.Mathlib.Omega.{arith}
use borrow.Author.Tests.{le-ltb, lt-ltb, le-leb, lt-leb, eq-eqb, ne_eqb}
use lib.ListN.{length, take, drop, set}
use lib.Seq.{length-take-le, take-suc-set, take-add}
use Rattle.std.specs.Prelude.{Ok, Err}
use Rattle.rules.specs.Sizes.{links_most, packets_most, hops_most}
use Rattle.rules.specs.Network.{Network, Job}
use Rattle.rules.specs.Outcome.{Outcome, is, ◌then◌}
use Rattle.rules.specs.Tables.{link_verdict, packet_verdict}
use Rattle.rules.specs.JobText.{link, packet, with_link, with_packet, with_line}
use Rattle.job.specs.declared.Job.{Job as Counts}
use Rattle.job.specs.declared.Refusal.{Refusal}
use Rattle.job.specs.declared.Refusal.TheVariants.{BadForm, Size}
use Rattle.job.specs.Told.{refusal_of}
use Rattle.job.proofs.AfterVerdict.{refusal_stays, after_fine}
use Rattle.job_text.specs.declared.Line.TheVariants.{Link, Packet}
use Rattle.job_text.specs.Told.{Lists, lists}
use Rattle.job_text.specs.LineInText.{PathStands}
use Rattle.job_text.specs.SoFar.{so_far, counted_of, Room, Within, Took}

pub took_refusal : {o : Outcome Job} {r : Refusal} {after : Lists} → o ≡ refusal_of r → Took o (Err r) after
took_refusal e = record { read = sym e; within = tt }

-- what stands in the first places of the lists is as long as it is counted
module _ (c : Counts) (l : Lists) (room : Room l) (w : Within c) where
  pub length_links : length (take c.links l.origins) ≡ c.links
  length_links = let m = w.links in let r = room.origins in length-take-le _ _ (omega arith)

  pub length-packets : length (take c.packets l.sources) ≡ c.packets
  length-packets = let m = w.packets in let r = room.sources in length-take-le _ _ (omega arith)

  pub length_hops : length (take c.hops l.hops) ≡ c.hops
  length_hops = let m = w.hops in let r = room.hops in length-take-le _ _ (omega arith)

module _ (line : ℕ) (c : Counts) (l : Lists) (room : Room l) (w : Within c) where
  -- ---- a link

  module _ (from to : ℕ) where
    abbrev linked : Outcome Job
    linked = with_line line (so_far c l) (link from to)

    pub link_below_packet : {after : Lists} → (c.packets ≡ 0 → ⊥) → Took linked (Err (BadForm line)) after
    unfolding with_line
    link_below_packet h = took_refusal (rw (length-packets c l room w, ne_eqb c.packets 0 h))

    module _ (h : c.packets ≡ 0) where
      pub link_over : {after : Lists} → links_most ≤ c.links → Took linked (Err (Size line)) after
      unfolding with_line
      link_over k = took_refusal (rw (length-packets c l room w, eq-eqb c.packets 0 h, length_links c l room w, le-ltb c.links links_most k))

      module _ (k : c.links < links_most) where
        link_judged : linked ≡ (link_verdict c.nodes line from to then is (with_link (so_far c l) from to))
        unfolding with_line
        link_judged = rw (length-packets c l room w, eq-eqb c.packets 0 h, length_links c l room w, lt-ltb c.links links_most k)

        pub link_refused : {after : Lists} {r : Refusal} → refusal_of r ≡ link_verdict c.nodes line from to → Took linked (Err r) after
        link_refused e = took_refusal (link_judged ∙ sym (refusal_stays e _))

        pub link_added : {u : Unit} → is u ≡ link_verdict c.nodes line from to → {i : ℕ} → i ≡ c.links
            → Took linked (Ok (counted_of c (Link from to))) (lists (set l.origins i from) (set l.ends i to) l.sources l.stops l.hops)
        link_added e {i} at =
            let o : c.links < length l.origins = omega (arith, room.origins) in
            let n : c.links < length l.ends = omega (arith, room.ends) in
            record {
              read = sym (link_judged ∙ after_fine e _ ∙ rw (at, add-one, take-suc-set l.origins c.links from, take-suc-set l.ends c.links to));
              within = record { links = omega arith; packets = w.packets; hops = w.hops };
            }

  -- ---- a packet

  module _ (source : ℕ) (path : List ℕ) where
    abbrev carried : Outcome Job
    carried = with_line line (so_far c l) (packet source path)

    abbrev net : Network
    net = (so_far c l).network

    pub packets_over : {after : Lists} → packets_most ≤ c.packets → Took carried (Err (Size line)) after
    unfolding with_line
    packets_over h = took_refusal (rw (length-packets c l room w, le-ltb c.packets packets_most h))

    module _ (h : c.packets < packets_most) where
      pub hops_over : {after : Lists} → hops_most < c.hops + length path → Took carried (Err (Size line)) after
      unfolding with_line
      hops_over k = took_refusal (rw (length-packets c l room w, lt-ltb c.packets packets_most h, length_hops c l room w, lt-leb (c.hops + length path) hops_most k))

      module _ (k : c.hops + length path ≤ hops_most) where
        packet_judged : carried ≡ (packet_verdict net line source path then is (with_packet (so_far c l) source path))
        unfolding with_line
        packet_judged = rw (length-packets c l room w, lt-ltb c.packets packets_most h, length_hops c l room w, le-leb (c.hops + length path) hops_most k)

        -- the path stands behind the hops so far
        module _ {count : ℕ} (s : PathStands count l.hops c.hops path) where
          path-here : take count (drop c.hops l.hops) ≡ path
          path-here = s.here (omega (arith, s.many, room.hops))

          pub packet_refused : {after : Lists} {r : Refusal} → refusal_of r ≡ packet_verdict net line source (take count (drop c.hops l.hops)) → Took carried (Err r) after
          packet_refused e = took_refusal (packet_judged ∙ sym (refusal_stays (rw path-here at e) _))

          pub packet_added : {u : Unit} → is u ≡ packet_verdict net line source (take count (drop c.hops l.hops)) → {i from to : ℕ} → i ≡ c.packets → from ≡ c.hops → to ≡ from + count
              → Took carried (Ok (counted_of c (Packet source count))) (lists l.origins l.ends (set l.sources i source) (set l.stops i to) l.hops)
          packet_added e {i} {from} {to} at begin end =
              let t : c.packets < length l.sources = omega (arith, room.sources) in
              let u : c.packets < length l.stops = omega (arith, room.stops) in
              let stop : to ≡ c.hops + length path = omega (arith, s.many) in
              let hops : take (c.hops + count) l.hops ≡ take c.hops l.hops ++ path = rw (take-add c.hops count l.hops, path-here) in
              record {
                read = sym (packet_judged ∙ after_fine (rw path-here at e) _ ∙ rw (at, stop, add-one c.packets, take-suc-set l.sources c.packets source, take-suc-set l.stops c.packets (c.hops + length path), hops, length_hops c l room w));
                within = record { links = w.links; packets = omega arith; hops = omega (arith, s.many) };
              }
