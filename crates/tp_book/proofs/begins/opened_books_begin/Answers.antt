use Rattle.tp_book.proofs.OpenedWorld.{opened_begins, opened_is_run}
use Rattle.tp_book.proofs.begins.opened_books_begin.Goals as goal

pub returns-clause-cuts : goal.returns-clause-cuts
returns-clause-cuts c = opened_begins

pub returns-clause-runs : goal.returns-clause-runs
returns-clause-runs c = opened_is_run
