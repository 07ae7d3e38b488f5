-- What definitions and contracts here name of the crates below.
pub use Rattle.std.specs.List.{AllByRecursion, list_all, list_any}
pub use Rattle.std.specs.Option.{unwrap_or}
pub use Rattle.tp_model.specs.DeviceAreas.{device_areas}
pub use Rattle.tp_model.specs.Disk.{MayBe}
pub use Rattle.tp_model.specs.DiskHistory.{IsSynced, LeavesOnly, State, moment}
pub use Rattle.tp_model.specs.Journal.{is_roomy, reserve, room}
pub use Rattle.tp_model.specs.Markers.{plain_network}
pub use Rattle.tp_model.specs.Network.{Network, Port, has_wire}
pub use Rattle.tp_model.specs.Node.{t414, t414_ends}
unfoldable pub use Rattle.tp_model.specs.Node.{node_step}
pub use Rattle.tp_model.specs.NodeState.{NodeState}
pub use Rattle.tp_model.specs.Opening.{Opened, Opened as OpenedValue, next_of}
unfoldable pub use Rattle.tp_model.specs.Opening.{verdict}
unfoldable pub use Rattle.tp_model.specs.Order.{after}
pub use Rattle.tp_model.specs.Runs.{World}
pub use Rattle.tp_model.specs.Spelling.{IsCut}
pub use Rattle.tp_model.specs.Topology.{Topology, node_count}
pub use Rattle.tp_model.specs.Walks.{RecoversTo}
pub use Rattle.tp_model.specs.WriteOrder.{Resting}
pub use Rattle.tp_model.specs.declared.entry.Entry.{Entry}
pub use Rattle.tp_model.specs.declared.entry.Entry.TheVariants.{Confirm, HostIn, Run, Take}
pub use Rattle.tp_model.specs.declared.limits.TheConstants.{MAX_HELD, MAX_PORTS, MAX_STEPS, NUMBER_LIMIT}
pub use Rattle.tp_model.specs.declared.opening.OpenFault.{OpenFault}
pub use Rattle.tp_law_machine.specs.NodeOfBytes.{IsNodeOfBytes}
pub use Rattle.tp_node.specs.FromImage.{HasFrames}
pub use Rattle.tp_node.specs.NodeContents.{NodeContents}
pub use Rattle.tp_node.specs.declared.run.Why.{Why}
pub use Rattle.tp_node.specs.declared.run.Why.TheVariants.{Full, Idle, NoFrame}
pub use Rattle.tp_node.specs.declared.standing.Standing.{Standing}
pub use Rattle.tp_node.specs.declared.standing.Standing.TheVariants.{Free, Halted as NodeHalted, Waits as NodeWaits}
pub use Rattle.tp_book.specs.Acts.{confirm_entries}
pub use Rattle.tp_book.specs.Book.{BookValue, count_of_nodes, next_in_book, outputs_of, reserved, world_of}
pub use Rattle.tp_book.specs.Counted.{AreCounted}
pub use Rattle.tp_book.specs.Host.{accepted_of, after_confirm, after_inputs, port_in, room_of, shown_from, shown_upto_of}
pub use Rattle.tp_book.specs.Marked.{after_begin, begin_refusal}
pub use Rattle.tp_book.specs.Needs.{has_recorded_in}
pub use Rattle.tp_book.specs.Opened.{IsWellOpen, opened_book}
pub use Rattle.tp_book.specs.Ports.{fresh_value}
pub use Rattle.tp_book.specs.Refusals.{IsAnswer, is_journal_full}
pub use Rattle.tp_book.specs.declared.refusal.Refusal.{Refusal}
pub use Rattle.tp_turn.specs.declared.take.TheConstants.{TAKES, TURN_ENTRIES}
pub use Rattle.tp_disk.specs.Reads.{AreTrue, WereTrue}
pub use Rattle.tp_area.specs.Capacity.{capacity, half_capacity, journal_of, left_behind, takes}
pub use Rattle.tp_area.specs.Places.{place_at}
pub use Rattle.tp_area.specs.declared.journal.JournalRoom.{JournalRoom}
pub use Rattle.tp_recover.specs.Reading.{LeavesNothingNew, ReadAnswer}
pub use Rattle.tp_recover.specs.declared.unopened.Unopened.{Unopened}
pub use Rattle.tp_ready.specs.Seen.{unrisen}
pub use Rattle.tp_shared.specs.BytesIn.{bytes_in}
pub use Rattle.tp_shared.specs.Gains.{HoldNoted}
pub use Rattle.tp_shared.specs.HandedIn.{handed}
pub use Rattle.tp_shared.specs.Holds.{InHand}
pub use Rattle.tp_shared.specs.Named.{Names}
pub use Rattle.tp_shared.specs.Resting.{HasHalted}
pub use Rattle.tp_shared.specs.Seals.{Stage}
pub use Rattle.tp_shared.specs.TurnsMade.{HostTurnMade, TurnMade}
pub use Rattle.tp_shared.specs.declared.nodes.node_turn.NodeTurn.{NodeTurn}
pub use Rattle.tp_work.specs.Offers.{offer_fault}
pub use Rattle.tp_work.specs.Receipts.{IsFor}
pub use Rattle.tp_work.specs.Turns.{BrokenOff, Turned}
pub use Rattle.tp_work.specs.declared.host_fault.ConfirmFault.{ConfirmFault}
pub use Rattle.tp_work.specs.declared.host_fault.ConfirmFault.TheVariants.{JournalFull, Memory, NotShown, StoreBroken}
pub use Rattle.tp_work.specs.declared.host_fault.OfferFault.{OfferFault}
pub use Rattle.tp_work.specs.declared.turn.Turn.{Turn}
pub use Rattle.tp_flush.specs.All.{AreAll}
pub use Rattle.tp_flush.specs.Due.{is_due}
pub use Rattle.tp_flush.specs.Flushing.{Flushing, IsSameProcess, Walked, position}
pub use Rattle.tp_flush.specs.Follows.{Follows}
pub use Rattle.tp_flush.specs.History.{History}
pub use Rattle.tp_flush.specs.Known.{Began}
pub use Rattle.tp_flush.specs.Made.{IsMadeOf}
pub use Rattle.tp_flush.specs.Rights.{Steps}
pub use Rattle.tp_flush.specs.declared.fault.FlushFault.{FlushFault}
pub use Rattle.tp_stream_files.specs.Held.{HasAtMost, HasLength, HasPut, HasReach, KeepsFront, Reaches}
pub use Rattle.tp_stream_files.specs.Inputs.{AreFrom, GivenInput, HasAtLeast, IsLength, given_input, is_over}
pub use Rattle.tp_stream_files.specs.Notices.{HasCome, InputBegins, NodeStopped, Notice, Noticed, OutputBegins}
pub use Rattle.tp_stream_files.specs.Outputs.{Given, IsOfPort, OutputValue, WasPutSafely, given_of}
pub use Rattle.tp_stream_files.specs.declared.ending.Ended.{Ended}
pub use Rattle.tp_stream_files.specs.declared.ending.Ending.{Ending}
pub use Rattle.tp_stream_files.specs.declared.ending.Ending.TheVariants.{Gone, Gone as Left, Halted, Quiet, Stopped, Stopped as AskedTo, Turns, Turns as BoundReached}
pub use Rattle.tp_stream_files.specs.declared.ending.Stopped.TheVariants.{Waits}
pub use Rattle.tp_stream_files.specs.declared.listener.Progress.{Progress}
pub use Rattle.tp_stream_files.specs.declared.sink.SinkFault.{SinkFault}
pub use Rattle.tp_stream_files.specs.declared.sink.SinkFault.TheVariants.{Failed}
