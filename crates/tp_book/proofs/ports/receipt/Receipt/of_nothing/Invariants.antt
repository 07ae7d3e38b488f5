use Rattle.std.proofs.Common.{[], None}
use Rattle.tp_book.proofs.ports.receipt.Receipt.of_nothing.Given as goal

abbrev pub ghost-of : goal.ghost-of
ghost-of a = record { entries = []; position = None }
