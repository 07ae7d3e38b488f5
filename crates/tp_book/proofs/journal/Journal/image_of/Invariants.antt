use Rattle.std.proofs.Common.{slice_get}
use Rattle.tp_book.specs.Book.{agreed}
use Rattle.tp_book.proofs.journal.Journal.image_of.Given as goal

abbrev pub ghost-of : goal.ghost-of
ghost-of a = slice_get (agreed a._value.now.0.now.state) a._value.now.1
