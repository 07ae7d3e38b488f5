use Rattle.std.proofs.Common.{Some, map}
use Rattle.tp_model.specs.declared.entry.Entry.TheVariants.{HostIn}
use Rattle.tp_book.proofs.ports.receipt.Receipt.of_inputs.Given as goal

abbrev pub ghost-of : goal.ghost-of
ghost-of a = record { entries = map (HostIn a._value.now.1) a._value.now.2.now; position = Some a._value.now.0 }
