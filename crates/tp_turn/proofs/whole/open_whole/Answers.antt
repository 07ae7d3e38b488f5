use Rattle.std.proofs.Common.{subst}
use Rattle.tp_turn.specs.Moments.{moment_of, Done}
use Rattle.tp_turn.specs.Whole.{Closes, EndsWhole}
use Rattle.tp_turn.proofs.Adding.{then_more}
use Rattle.tp_turn.proofs.whole.open_whole.Goals as goal

pub returns-in-Err-JournalFull-clause-opens : goal.returns-in-Err-JournalFull-clause-opens
returns-in-Err-JournalFull-clause-opens c =
    let n = c.answer_markers.new.node in
    let last = moment_of c.take_needed.new.book c.take_needed.new.node in
    then_more c.args.number (Closes c.args.number) (EndsWhole c.args.number c.take_needed.result) (moment_of c.args.book.now c.args.node.now) (moment_of c.answer_markers.new.book n) last c.answer_markers.ensures.done
    (subst (λ x. Done c.args.number (EndsWhole c.args.number c.take_needed.result) (moment_of x n) last) c.in-Err-JournalFull.ensures.err c.take_needed.ensures.done)
