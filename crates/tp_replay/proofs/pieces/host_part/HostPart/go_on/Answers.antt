use Rattle.std.proofs.Common.{sym, ap, ◌∙◌, slice_get}
use Rattle.tp_replay.proofs.Halves.{both_halves, first_half, same_all}
use Rattle.tp_replay.proofs.pieces.host_part.HostPart.go_on.Goals as goal

pub returns-then-not-take_off : goal.returns-then-not-take_off
returns-then-not-take_off c = record { same = c.take_off.ensures.takes.same; goes = first_half c.args.self.now c.take_off.new.self c.args.entry.now c.if-not-take_off.ensures.takes }

pub act-requires : goal.act-requires
act-requires c = λ p port at. c.requires p port (ap (λ ports. slice_get ports p) (sym c.take_off.ensures.ports) ∙ at)

pub returns : goal.returns
returns c = record {
  same = same_all c.args.self.now c.take_off.new.self c.act.new.self c.take_off.ensures.takes.same c.act.ensures.same;
  goes = both_halves c.args.self.now c.take_off.new.self c.act.new.self c.args.entry.now c.act.result c.if-not-take_off.ensures.takes c.act.ensures;
}
