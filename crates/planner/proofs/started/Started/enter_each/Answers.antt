-- Each turn enters a packet, and past the last none is left.
use Rattle.std.proofs.Common.{◌∙◌, sym, arith}
use Rattle.planner.proofs.EveryPacket.{each_ready, each_turn, each_added, each_counted}
use Rattle.planner.proofs.started.Started.enter_each.Goals as goal

pub enter-requires : goal.enter-requires
enter-requires c =
    let s = c.args.self.now in
    each_ready s.paths.simple s.as_many c.loop-packet.invariant.1 (omega (arith, s.as_many)) _ c.path.ensures s.in_time c.requires

pub loop-packet-preserved : goal.loop-packet-preserved
loop-packet-preserved c =
    let s = c.args.self.now in (
      c.enter.ensures.rooms ∙ c.loop-packet.invariant.0,
      each_turn s.paths.simple s.as_many c.loop-packet.invariant.1 (omega (arith, s.as_many)) _ c.path.ensures
          (c.enter.new.self.nexts_length ∙ sym c.loop-packet.entries.nexts_length) (c.enter.new.self.steps_length ∙ sym c.loop-packet.entries.steps_length) c.enter.ensures.by_index c.enter.ensures.entries,
    )

pub returns-clause-by_index : goal.returns-clause-by_index
returns-clause-by_index c =
    let s = c.args.self.now in
    each_counted s.paths.simple s.as_many c.loop-packet.invariant.1 (omega (arith, s.as_many)) (omega (arith, s.as_many))

pub returns-clause-entries : goal.returns-clause-entries
returns-clause-entries c =
    let s = c.args.self.now in
    each_added s.paths.simple s.as_many c.loop-packet.invariant.1 (omega (arith, s.as_many)) (omega (arith, s.as_many))
