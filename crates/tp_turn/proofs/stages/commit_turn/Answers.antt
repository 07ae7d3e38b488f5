use Rattle.tp_turn.proofs.Staging.{run_made, run_added, run_is}
use Rattle.tp_turn.proofs.stages.commit_turn.Goals as goal

pub commit_run-note-requires-clause-ran : goal.commit_run-note-requires-clause-ran
commit_run-note-requires-clause-ran c =
    rw (c.count.ensures, c.as_slice.ensures.value)
    (run_made c.args.book.now c.args.number c.args.stretch.ran.count c.args.stretch.sent.items c.args.node.now c.requires.ran)

pub returns-clause-added : goal.returns-clause-added
returns-clause-added c =
    run_added c.args.book.now c.commit_run-note.new.self c.args.number c.args.stretch.ran.count c.args.stretch.sent.items c.args.node.now c.requires.ran
    (rw (c.count.ensures, c.as_slice.ensures.value) at c.commit_run-note.ensures.book)
    (rw (c.count.ensures, c.as_slice.ensures.value) at c.commit_run-note.ensures.agreed)
    (rw c.count.ensures at c.commit_run-note.ensures.act)

pub returns-clause-is : goal.returns-clause-is
returns-clause-is c =
    run_is c.args.book.now c.commit_run-note.new.self c.args.number c.args.stretch.ran.count c.args.stretch.sent.items c.args.node.now c.requires.ran
    (rw (c.count.ensures, c.as_slice.ensures.value) at c.commit_run-note.ensures.book)
    (rw (c.count.ensures, c.as_slice.ensures.value) at c.commit_run-note.ensures.agreed)
    (rw c.count.ensures at c.commit_run-note.ensures.act)
