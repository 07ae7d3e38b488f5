-- What proofs here name of the crates below.
pub use Rattle.std.proofs.lemmas.Bool.{le-leb, le-ltb, lt-leb, ltb-true, true≢false}
pub use Rattle.std.proofs.lemmas.List.{drop_all, length-map, length-take, length-take-le, take-append-le, take-take, take_all, take_rest}
pub use Rattle.std.proofs.lemmas.List.Sums.{count_by-le-length, sum_by-cons}
pub use Rattle.std.proofs.lemmas.Result.{IfOk-weaker}
pub use Rattle.std.specs.Io.KnownBytes.{Appends}
pub use Rattle.std.specs.List.{AllByRecursion, enumerate_from}
pub use Rattle.tp_model.specs.Areas.{next_number}
pub use Rattle.tp_model.specs.DeviceAreas.{device_areas}
pub use Rattle.tp_model.specs.Disk.{MayBe, Moment}
pub use Rattle.tp_model.specs.DiskHistory.{LeavesOnly, State, moment}
pub use Rattle.tp_model.specs.Head.{Head}
pub use Rattle.tp_model.specs.Journal.{is_full_for_snapshot}
pub use Rattle.tp_model.specs.Markers.{plain_network}
pub use Rattle.tp_model.specs.Network.{Network, Port}
pub use Rattle.tp_model.specs.Node.{t414, t414_ends}
pub use Rattle.tp_model.specs.NodeState.{NodeState}
pub use Rattle.tp_model.specs.Opening.{Opened, held_of, next_of}
unfoldable pub use Rattle.tp_model.specs.Opening.{verdict}
unfoldable pub use Rattle.tp_model.specs.Order.{after}
pub use Rattle.tp_model.specs.Runs.{World, reopened}
pub use Rattle.tp_model.specs.Snapshot.{MarkedNetwork}
pub use Rattle.tp_model.specs.Spelling.{IsCut}
pub use Rattle.tp_model.specs.Topology.{Topology}
pub use Rattle.tp_model.specs.Walks.{RecoversTo}
pub use Rattle.tp_model.specs.WriteOrder.{Broken, Position, Resting}
pub use Rattle.tp_model.specs.declared.entry.Entry.{Entry}
pub use Rattle.tp_model.specs.declared.entry.Entry.TheVariants.{Confirm, HostIn}
pub use Rattle.tp_model.specs.declared.opening.OpenFault.{OpenFault}
pub use Rattle.tp_law_network.proofs.Acknowledged.{GoesOn, run_goes_on}
pub use Rattle.tp_law_network.proofs.Walks.{chain_leads}
pub use Rattle.tp_node.specs.declared.rest.Rest.{Rest}
pub use Rattle.tp_net.proofs.Topologies.{has_shape}
pub use Rattle.tp_book.specs.Acts.{confirm_entries}
pub use Rattle.tp_book.specs.Book.{BookValue, next_in_book, world_of}
pub use Rattle.tp_book.specs.Calls.{marks_of}
pub use Rattle.tp_book.specs.Covered.{ReceiptValue}
pub use Rattle.tp_book.specs.Host.{accepted_of, after_confirm, after_inputs, port_in, room_of, shown_from, shown_of, shown_upto_of, with_confirmed}
pub use Rattle.tp_book.specs.Opened.{now_of, opened_book}
pub use Rattle.tp_book.specs.Refusals.{is_journal_full}
pub use Rattle.tp_book.specs.declared.state.NetState.{NetState}
pub use Rattle.tp_disk.proofs.Calls.{and_then, started, weaker}
pub use Rattle.tp_disk.specs.Reads.{AreTrue, WereTrue}
pub use Rattle.tp_area.specs.declared.place.Place.{Place}
pub use Rattle.tp_recover.specs.Reading.{LeavesNothingNew, has_read}
pub use Rattle.tp_recover.specs.declared.unopened.Unopened.{Unopened}
pub use Rattle.tp_ready.specs.Answered.{answer}
pub use Rattle.tp_ready.specs.Numbers.{Numbers}
pub use Rattle.tp_ready.specs.Seen.{RaiserValue}
pub use Rattle.tp_ready.specs.declared.answers.Answer.{Answer}
pub use Rattle.tp_shared.proofs.Writing.{enumerated_below}
pub use Rattle.tp_shared.specs.Below.{AreBelow}
pub use Rattle.tp_shared.specs.HandedIn.{handed}
pub use Rattle.tp_shared.specs.Holds.{InHand}
pub use Rattle.tp_shared.specs.Parted.{PartsValue, name_of}
pub use Rattle.tp_shared.specs.Resting.{rest_in}
pub use Rattle.tp_shared.specs.Seals.{Stage}
pub use Rattle.tp_work.specs.Answers.{RefusesFor}
pub use Rattle.tp_work.specs.Heeds.{heed_after, is_broken, is_heeded}
pub use Rattle.tp_work.specs.Offers.{offer_fault}
pub use Rattle.tp_work.specs.Outputs.{confirm_fault}
pub use Rattle.tp_work.specs.Receipts.{IsFor}
pub use Rattle.tp_work.specs.Turns.{Handed, Refused, RefusedBy, Turned}
pub use Rattle.tp_work.specs.declared.fault.TurnFault.{TurnFault}
pub use Rattle.tp_work.specs.declared.fault.TurnFault.TheVariants.{Empty, JournalFull, Memory, StoreBroken}
pub use Rattle.tp_work.specs.declared.heed.Heed.{Heed}
pub use Rattle.tp_work.specs.declared.heed.Heed.TheVariants.{Unbroken}
pub use Rattle.tp_work.specs.declared.host_fault.ConfirmFault.{ConfirmFault}
pub use Rattle.tp_work.specs.declared.host_fault.OfferFault.{OfferFault}
pub use Rattle.tp_work.specs.declared.seat.Seat.{Seat}
pub use Rattle.tp_work.specs.declared.turn.Turn.{Turn}
pub use Rattle.tp_flush.proofs.Follows.{number_is, read_alone, read_first, stored_follows, walked_either, walked_follows}
pub use Rattle.tp_flush.proofs.Kept.{reached_then}
pub use Rattle.tp_flush.proofs.Made.{kept_is, next_is, ports_are, stands}
pub use Rattle.tp_flush.proofs.Recovers.{recovers_less}
pub use Rattle.tp_flush.proofs.Settling.{below_more}
pub use Rattle.tp_flush.proofs.Turns.{walked_nowhere, walked_recovers, walked_stays, walked_then}
pub use Rattle.tp_flush.specs.Ahead.{IsAheadOf}
pub use Rattle.tp_flush.specs.All.{AreAll}
pub use Rattle.tp_flush.specs.Ends.{Ended, Rested}
pub use Rattle.tp_flush.specs.Flushing.{Flushing, IsSameProcess, Walked, position}
pub use Rattle.tp_flush.specs.Follows.{Follows}
pub use Rattle.tp_flush.specs.Known.{Began, Reached}
pub use Rattle.tp_flush.specs.Lower.{item_of}
pub use Rattle.tp_flush.specs.Made.{IsMadeOf}
pub use Rattle.tp_flush.specs.Settled.{HasFront, RecoversWith, SlipsStand}
pub use Rattle.tp_flush.specs.declared.fault.FlushFault.{FlushFault}
pub use Rattle.tp_flush.specs.declared.fault.FlushFault.TheVariants.{AreaFull, DeviceFailed}
pub use Rattle.tp_stream_files.proofs.Fronts.{kept_appended, more_appended}
