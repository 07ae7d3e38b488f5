-- What proofs here name of the crates below.
pub use Rattle.tp_model.specs.Runs.{fresh}
pub use Rattle.tp_model.specs.WriteOrder.{Resting}
pub use Rattle.tp_book.specs.Book.{BookValue, next_in_book}
pub use Rattle.tp_book.specs.Host.{accepted_of, port_in}
pub use Rattle.tp_book.specs.Opened.{opened_book}
pub use Rattle.tp_ready.specs.Seen.{unrisen}
pub use Rattle.tp_shared.specs.Parted.{name_of}
pub use Rattle.tp_flush.proofs.Made.{kept_is, stands}
