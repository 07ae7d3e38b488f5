use Rattle.std.proofs.Common.{[], ◌∷◌, None}
use Rattle.tp_book.proofs.ports.receipt.Receipt.of_note.Given as goal

abbrev pub ghost-of : goal.ghost-of
ghost-of a = record { entries = a._value.now.entry ∷ []; position = None }
