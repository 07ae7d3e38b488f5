use Rattle.std.proofs.Common.{◌≡◌, length, refl, ◌∙◌}
use Rattle.tp_model.specs.Entries.{takes}
use Rattle.tp_replay.proofs.Halves.{none_taken}
use Rattle.tp_replay.proofs.pieces.nodes_part.NodesPart.take_off.Goals as goal

pub returns-in-Take : goal.returns-in-Take
unfolding takes
returns-in-Take c = rw c.in-Take.is (rw c.from.ensures at c.take_front.ensures)

pub returns-in-Turn : goal.returns-in-Turn
unfolding takes
returns-in-Turn c = rw c.in-Turn.is (rw (c.deref.ensures.0, c.tokens_of.ensures.tokens) at c.take_fronts.ensures)

pub returns-in-Run : goal.returns-in-Run
unfolding takes
returns-in-Run c = rw c.in-Run.is (none_taken c.args.self.now)

pub returns-in-HostIn : goal.returns-in-HostIn
unfolding takes
returns-in-HostIn c = rw c.in-HostIn.is (none_taken c.args.self.now)

pub returns-in-Confirm : goal.returns-in-Confirm
unfolding takes
returns-in-Confirm c = rw c.in-Confirm.is (none_taken c.args.self.now)
