-- What definitions and contracts here name of the crates below.
pub use Rattle.std.specs.Io.{WritesAtMost}
pub use Rattle.std.specs.Io.KnownBytes.{Appends, WriteAppends}
pub use Rattle.std.specs.IoError.{error_kind}
pub use Rattle.std.specs.List.{AllByRecursion, enumerate_from, list_all}
pub use Rattle.tp_model.specs.Areas.{next_number}
pub use Rattle.tp_model.specs.DeviceAreas.{device_areas}
pub use Rattle.tp_model.specs.Disk.{MayBe}
pub use Rattle.tp_model.specs.DiskHistory.{IsSynced, LeavesOnly, State, moment}
pub use Rattle.tp_model.specs.Journal.{is_full_for_snapshot, is_roomy, room}
pub use Rattle.tp_model.specs.Network.{Network, Port}
pub use Rattle.tp_model.specs.Node.{t414, t414_ends}
pub use Rattle.tp_model.specs.NodeState.{NodeState}
pub use Rattle.tp_model.specs.Opening.{Opened, next_of}
unfoldable pub use Rattle.tp_model.specs.Opening.{verdict}
unfoldable pub use Rattle.tp_model.specs.Order.{after}
pub use Rattle.tp_model.specs.Runs.{World}
pub use Rattle.tp_model.specs.Spelling.{IsCut}
pub use Rattle.tp_model.specs.Topology.{Topology}
pub use Rattle.tp_model.specs.Walks.{RecoversTo}
pub use Rattle.tp_model.specs.WriteOrder.{Broken, Position, Resting}
pub use Rattle.tp_model.specs.declared.entry.Entry.{Entry}
pub use Rattle.tp_model.specs.declared.entry.Entry.TheVariants.{Confirm, HostIn}
pub use Rattle.tp_model.specs.declared.limits.TheConstants.{MAX_STEPS}
pub use Rattle.tp_model.specs.declared.opening.OpenFault.{OpenFault}
pub use Rattle.tp_law_machine.specs.NodeOfBytes.{IsNodeOfBytes}
pub use Rattle.tp_node.specs.FromImage.{HasFrames}
pub use Rattle.tp_node.specs.NodeContents.{NodeContents}
pub use Rattle.tp_node.specs.declared.rest.Rest.{Rest}
pub use Rattle.tp_book.specs.Acts.{confirm_entries}
pub use Rattle.tp_book.specs.Book.{BookValue, next_in_book}
pub use Rattle.tp_book.specs.Covered.{ReceiptValue}
pub use Rattle.tp_book.specs.Host.{accepted_of, after_confirm, after_inputs, port_in, room_of, shown_from, shown_of, shown_upto_of}
pub use Rattle.tp_book.specs.Marked.{after_begin, begin_refusal}
pub use Rattle.tp_book.specs.Opened.{IsWellOpen, opened_book}
pub use Rattle.tp_book.specs.Refusals.{IsAnswer, is_journal_full}
pub use Rattle.tp_book.specs.declared.refusal.Refusal.{Refusal}
pub use Rattle.tp_disk.specs.Reads.{AreTrue, WereTrue}
pub use Rattle.tp_area.specs.Capacity.{half_capacity, journal_of}
pub use Rattle.tp_area.specs.Places.{place_at}
pub use Rattle.tp_recover.specs.EntriesLeft.{entries_left}
pub use Rattle.tp_recover.specs.Reading.{LeavesNothingNew, ReadAnswer}
pub use Rattle.tp_recover.specs.declared.unopened.Unopened.{Unopened}
pub use Rattle.tp_ready.specs.Seen.{unrisen}
pub use Rattle.tp_shared.specs.Below.{AreBelow}
pub use Rattle.tp_shared.specs.HandedIn.{handed}
pub use Rattle.tp_shared.specs.Named.{Names}
pub use Rattle.tp_shared.specs.Resting.{rest_in}
pub use Rattle.tp_work.specs.Answers.{RefusesFor}
pub use Rattle.tp_work.specs.Receipts.{IsFor}
pub use Rattle.tp_work.specs.Turns.{Refused, Turned}
pub use Rattle.tp_work.specs.declared.fault.TurnFault.{TurnFault}
pub use Rattle.tp_work.specs.declared.start.TheConstants.{MAX_WORKERS}
pub use Rattle.tp_work.specs.declared.turn.Turn.{Turn}
pub use Rattle.tp_flush.specs.Ahead.{IsAheadOf}
pub use Rattle.tp_flush.specs.All.{AreAll}
pub use Rattle.tp_flush.specs.Due.{is_due}
pub use Rattle.tp_flush.specs.Flushing.{Flushing, IsSameProcess, Walked, position}
pub use Rattle.tp_flush.specs.Follows.{Follows}
pub use Rattle.tp_flush.specs.Known.{Began}
pub use Rattle.tp_flush.specs.Made.{IsMadeOf}
pub use Rattle.tp_flush.specs.Rights.{Steps}
pub use Rattle.tp_flush.specs.Settled.{HasFront, SlipsStand}
pub use Rattle.tp_flush.specs.declared.fault.FlushFault.{FlushFault}
