-- What definitions and contracts here name of the crates below.
pub use Rattle.std.specs.List.{enumerate_from}
pub use Rattle.std.specs.declared.alloc.Global.{Global}
unfoldable pub use Rattle.tp_model.specs.Image.{node_at, node_of}
pub use Rattle.tp_model.specs.Network.{Network}
pub use Rattle.tp_model.specs.NodeState.{NodeState}
pub use Rattle.tp_model.specs.declared.entry.Entry.{Entry}
pub use Rattle.tp_model.specs.declared.entry.Entry.TheVariants.{Confirm, HostIn}
pub use Rattle.tp_model.specs.declared.limits.TheConstants.{MAX_STEPS}
pub use Rattle.tp_law_machine.specs.NodeOfBytes.{IsNodeOfBytes}
pub use Rattle.tp_node.specs.FromImage.{HasFrames}
pub use Rattle.tp_node.specs.NodeContents.{NodeContents}
pub use Rattle.tp_node.specs.RunEnd.{RunEnd}
pub use Rattle.tp_book.specs.Acts.{confirm_entries}
pub use Rattle.tp_book.specs.Book.{BookValue, next_in_book}
pub use Rattle.tp_book.specs.Covered.{ReceiptValue}
pub use Rattle.tp_book.specs.Host.{ShowsUpto, accepted_of, after_confirm, after_inputs, input_refusal, port_in, room_of, shown_from, shown_upto_of}
pub use Rattle.tp_book.specs.Opened.{IsWellOpen, now_of}
pub use Rattle.tp_book.specs.Receipts.{confirm_receipt, input_receipt}
pub use Rattle.tp_book.specs.Refusals.{IsAnswer, is_journal_full}
pub use Rattle.tp_book.specs.declared.refusal.Refusal.{Refusal}
pub use Rattle.tp_ready.specs.Answered.{answer}
pub use Rattle.tp_ready.specs.Numbers.{Numbers}
pub use Rattle.tp_ready.specs.Past.{HasCalled, IsNew, Past}
pub use Rattle.tp_ready.specs.Seen.{RisesOn, number_of}
pub use Rattle.tp_ready.specs.declared.answers.Answer.{Answer}
pub use Rattle.tp_ready.specs.declared.call.Step.TheVariants.{Put, Took}
pub use Rattle.tp_shared.specs.Below.{AreBelow}
pub use Rattle.tp_shared.specs.Entries.{AreTakes, CountedTakes, TookAtOnce}
pub use Rattle.tp_shared.specs.Frozen.{frozen_in}
pub use Rattle.tp_shared.specs.Gains.{Gained, HoldNoted}
pub use Rattle.tp_shared.specs.Holds.{InHand, in_hand}
pub use Rattle.tp_shared.specs.Named.{Names}
pub use Rattle.tp_shared.specs.NodeTurned.{NodeTurned}
pub use Rattle.tp_shared.specs.Told.{told_of}
pub use Rattle.tp_shared.specs.TurnsMade.{HostTurnMade, TurnBrokenOff, TurnMade}
