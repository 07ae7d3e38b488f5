use Rattle.tp_shared.specs.Holds.{in_hand}
use Rattle.tp_run.proofs.Worked.{heeds_on, heeds_then, worked_on}
use Rattle.tp_run.proofs.working.work.Goals as goal

pub loop-preserved : goal.loop-preserved
loop-preserved g c = (
  c.turn-done.ensures.queue,
  worked_on g.J.Naming.start c.args.net.now.quantum c.args.net.now.queue c.turn-done.result c.loop.seat.answers c.turn-done.new.seat.answers (in_hand c.loop.seat.seen c.loop.seat.slips)
      (in_hand c.turn-done.new.seat.seen c.turn-done.new.seat.slips) c.loop.invariant.1 c.turn-done.ensures.turned c.turn-done.ensures.handed,
  heeds_on c.turn-done.result c.may_go_on.result c.loop.seat.heed c.turn-done.new.seat.heed c.loop.invariant.2 c.turn-done.ensures.heed c.may_go_on.ensures c.if-not-may_go_on.false,
)

pub returns-then-not-may_go_on : goal.returns-then-not-may_go_on
returns-then-not-may_go_on g c = record {
  worked =
      worked_on g.J.Naming.start c.args.net.now.quantum c.args.net.now.queue c.turn-done.result c.loop.seat.answers c.turn-done.new.seat.answers (in_hand c.loop.seat.seen c.loop.seat.slips)
      (in_hand c.turn-done.new.seat.seen c.turn-done.new.seat.slips) c.loop.invariant.1 c.turn-done.ensures.turned c.turn-done.ensures.handed;
  heeds = heeds_then c.turn-done.result c.loop.seat.heed c.turn-done.new.seat.heed c.loop.invariant.2 c.turn-done.ensures.heed;
}
