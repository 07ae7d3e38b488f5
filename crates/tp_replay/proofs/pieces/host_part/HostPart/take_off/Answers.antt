use Rattle.std.proofs.Common.{◌≡◌, length, refl, ◌∙◌}
use Rattle.tp_model.specs.Entries.{takes}
use Rattle.tp_replay.proofs.Halves.{none_taken}
use Rattle.tp_replay.proofs.pieces.host_part.HostPart.take_off.Goals as goal

pub returns-in-Take-clause-takes : goal.returns-in-Take-clause-takes
unfolding takes
returns-in-Take-clause-takes c = rw c.in-Take.is (rw c.from.ensures at c.take_front.ensures.takes)

pub returns-in-Turn-clause-takes : goal.returns-in-Turn-clause-takes
unfolding takes
returns-in-Turn-clause-takes c = rw c.in-Turn.is (rw (c.deref.ensures.0, c.tokens_of.ensures.tokens) at c.take_fronts.ensures.takes)

pub returns-in-Run-clause-takes : goal.returns-in-Run-clause-takes
unfolding takes
returns-in-Run-clause-takes c = rw c.in-Run.is (none_taken c.args.self.now)

pub returns-in-HostIn-clause-takes : goal.returns-in-HostIn-clause-takes
unfolding takes
returns-in-HostIn-clause-takes c = rw c.in-HostIn.is (none_taken c.args.self.now)

pub returns-in-Confirm-clause-takes : goal.returns-in-Confirm-clause-takes
unfolding takes
returns-in-Confirm-clause-takes c = rw c.in-Confirm.is (none_taken c.args.self.now)
