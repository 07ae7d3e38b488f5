use Rattle.std.proofs.Common.{ap, rules, slice_get}
use Rattle.tp_turn.proofs.Went.{node_went, node_wants}
use Rattle.tp_turn.proofs.lone.Lone.node_turn.Goals as goal

pub whole_turn-requires-clause-free : goal.whole_turn-requires-clause-free
whole_turn-requires-clause-free c = ap (λ rs. slice_get rs 0) c.requires.lone.book.runs

pub whole_turn-requires-clause-idle : goal.whole_turn-requires-clause-idle
whole_turn-requires-clause-idle c = c.requires.lone.book.ready

pub whole_turn-requires-clause-is : goal.whole_turn-requires-clause-is
whole_turn-requires-clause-is c = c.requires.lone.node

pub returns-in-Ok : goal.returns-in-Ok
returns-in-Ok c = node_went c.args.self.now c.requires.lone c.requires.few c.args.quantum c.in-Ok._turn (record { book = c.whole_turn.new.book; node = c.whole_turn.new.node; runs = c.whole_turn.new.runs }) c.in-Ok.ensures.done c.in-Ok.ensures.is

pub unreachable-requires : goal.unreachable-requires
unreachable-requires c =
    let so = node_wants c.args.self.now c.requires.lone c.requires.few c.args.quantum c.in-Err.field-0 c.whole_turn.new.book c.whole_turn.new.node c.in-Err.ensures.done in
    search (rules, so)

pub whole_turn-requires-clause-form : goal.whole_turn-requires-clause-form
whole_turn-requires-clause-form c = c.requires.lone.book.form
