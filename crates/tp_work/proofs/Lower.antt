-- What proofs here name of the crates below.
pub use Rattle.std.proofs.lemmas.Iterator.Adapters.{YieldsList-from_vec}
pub use Rattle.std.proofs.lemmas.Iterator.Consumers.{YieldsList-end, YieldsList-turn}
pub use Rattle.std.proofs.lemmas.List.{append-nil, get_or-map, length-map, map-append, map-id}
pub use Rattle.std.proofs.lemmas.Slice.Zip.{all_zipped_more}
pub use Rattle.std.specs.List.{AllZip, enumerate_from}
pub use Rattle.std.specs.declared.alloc.Global.{Global}
unfoldable pub use Rattle.tp_model.specs.Image.{node_at, node_of}
pub use Rattle.tp_model.specs.Network.{Network}
pub use Rattle.tp_model.specs.NodeState.{NodeState}
pub use Rattle.tp_model.specs.declared.entry.Entry.{Entry}
pub use Rattle.tp_model.specs.declared.entry.Entry.TheVariants.{Confirm, HostIn}
pub use Rattle.tp_law_machine.proofs.Numbers.{are_bytes}
pub use Rattle.tp_law_machine.specs.NodeOfBytes.{IsNodeOfBytes}
pub use Rattle.tp_node.specs.FromImage.{HasFrames, ReadsImage}
pub use Rattle.tp_node.specs.NodeContents.{NodeContents}
pub use Rattle.tp_book.specs.Acts.{confirm_entries}
pub use Rattle.tp_book.specs.Book.{BookValue, next_in_book}
pub use Rattle.tp_book.specs.Covered.{ReceiptValue}
pub use Rattle.tp_book.specs.Host.{ShowsUpto, after_confirm, after_inputs, port_in, shown_from}
pub use Rattle.tp_book.specs.Receipts.{confirm_receipt, input_receipt}
pub use Rattle.tp_book.specs.declared.refusal.Refusal.{Refusal}
pub use Rattle.tp_ready.specs.Numbers.{HandValue, Numbers}
pub use Rattle.tp_ready.specs.Past.{IsNew}
pub use Rattle.tp_shared.specs.Below.{AreBelow}
pub use Rattle.tp_shared.specs.Entries.{AreTakes, IsTurnRefusal, TookAlone}
pub use Rattle.tp_shared.specs.Gains.{Gained, HoldNoted}
pub use Rattle.tp_shared.specs.Holds.{InHand}
pub use Rattle.tp_shared.specs.Seals.{IsTied, Stage}
pub use Rattle.tp_shared.specs.declared.naming.Naming.{Ghosts}
