-- What proofs here name of the crates below.
pub use Rattle.std.proofs.Math.Bool.{or-true}
pub use Rattle.std.proofs.Math.Path.{fun_ext}
pub use Rattle.std.proofs.Math.Seq.{take-append_seam}
pub use Rattle.std.proofs.lemmas.Bool.{and_from, and_parts, cases_eq, cases_lt, eq-eqb, eqb-true, le-leb, le-ltb, leb-false, leb-true, lt-leb, lt-ltb, ltb-true, ne_eqb, or_from, true≢false}
pub use Rattle.std.proofs.lemmas.List.{drop-drop, length-map, length-set, map-append, map-set, set-get_or, take-append-drop, take-take, take_all, take_more}
pub use Rattle.std.proofs.lemmas.List.Elements.{All-append, All-cons, All-nil, All-pop}
pub use Rattle.std.proofs.lemmas.List.Folds.{list_all_at, list_all_more, list_any_at, list_any_more, sum_by-replicate}
pub use Rattle.std.proofs.lemmas.Option.{slice_get-get_or, slice_get-map, slice_get_within}
pub use Rattle.std.proofs.lemmas.Result.{IfOk-weaker}
pub use Rattle.std.specs.List.{AllByRecursion, enumerate_from, list_all, list_any}
pub use Rattle.std.specs.Option.{option_map, unwrap_or}
pub use Rattle.tp_model.specs.DeviceAreas.{device_areas}
pub use Rattle.tp_model.specs.Disk.{MayBe, Moment}
pub use Rattle.tp_model.specs.DiskHistory.{State, moment}
unfoldable pub use Rattle.tp_model.specs.Entries.{takes}
unfoldable pub use Rattle.tp_model.specs.Halves.{without}
pub use Rattle.tp_model.specs.Image.{page_count}
pub use Rattle.tp_model.specs.Journal.{entry_room, is_full, reserve}
pub use Rattle.tp_model.specs.Markers.{plain_network}
pub use Rattle.tp_model.specs.Network.{Network, Port}
unfoldable pub use Rattle.tp_model.specs.Network.{sent}
pub use Rattle.tp_model.specs.Node.{t414, t414_ends}
unfoldable pub use Rattle.tp_model.specs.Node.{node_step}
pub use Rattle.tp_model.specs.NodeState.{NodeState}
unfoldable pub use Rattle.tp_model.specs.NodeWrites.{node_ranges}
pub use Rattle.tp_model.specs.Opening.{Opened, held_of, next_of}
unfoldable pub use Rattle.tp_model.specs.Opening.{verdict}
pub use Rattle.tp_model.specs.OpensTo.{book_of}
unfoldable pub use Rattle.tp_model.specs.Order.{after}
pub use Rattle.tp_model.specs.Runs.{World, reopened}
pub use Rattle.tp_model.specs.SharedPages.{LacksFrames}
pub use Rattle.tp_model.specs.Snapshot.{MarkedNetwork}
pub use Rattle.tp_model.specs.Spelling.{IsCut}
unfoldable pub use Rattle.tp_model.specs.Step.{step_of}
pub use Rattle.tp_model.specs.Topology.{Topology, node_count}
pub use Rattle.tp_model.specs.Walks.{RecoversTo}
pub use Rattle.tp_model.specs.WriteOrder.{Broken, Position, Resting}
pub use Rattle.tp_model.specs.declared.entry.Entry.{Entry}
pub use Rattle.tp_model.specs.declared.entry.Entry.TheVariants.{Confirm, HostIn, Run, Take}
pub use Rattle.tp_model.specs.declared.limits.TheConstants.{MAX_HELD, NUMBER_LIMIT}
pub use Rattle.tp_model.specs.declared.opening.OpenFault.{OpenFault}
pub use Rattle.tp_law_machine.proofs.LinkLaws.{has_four_links}
pub use Rattle.tp_law_machine.proofs.Partial.{slice_get-set_other, slice_get-set_same}
pub use Rattle.tp_law_network.proofs.Reorder.{after_shape}
pub use Rattle.tp_law_network.proofs.Walks.{chain_leads}
pub use Rattle.tp_node.specs.NodeContents.{memory_kept}
pub use Rattle.tp_node.specs.RunEnd.{IsWhy}
pub use Rattle.tp_node.specs.declared.run.Why.{Why}
pub use Rattle.tp_node.specs.declared.run.Why.TheVariants.{Full, Idle, NoFrame}
pub use Rattle.tp_book.specs.Acts.{confirm_entries}
pub use Rattle.tp_book.specs.Book.{BookValue, count_of_nodes, next_in_book, outputs_of, reserved, world_of}
pub use Rattle.tp_book.specs.Counted.{AreCounted}
pub use Rattle.tp_book.specs.Host.{accepted_of, port_in, room_of, shown_from, shown_of, shown_upto_of, with_confirmed}
pub use Rattle.tp_book.specs.Needs.{has_recorded_in}
pub use Rattle.tp_book.specs.Opened.{now_of, opened_book}
pub use Rattle.tp_book.specs.Ports.{fresh_value, opened_port}
pub use Rattle.tp_book.specs.Refusals.{is_journal_full}
pub use Rattle.tp_book.specs.declared.refusal.Refusal.{Refusal}
pub use Rattle.tp_book.specs.declared.state.NetState.{NetState}
pub use Rattle.tp_disk.proofs.Calls.{weaker}
pub use Rattle.tp_disk.specs.Reads.{AreTrue, Reading, WereTrue}
pub use Rattle.tp_area.specs.declared.journal.JournalRoom.{JournalRoom}
pub use Rattle.tp_recover.proofs.Leaving.{none_leaves}
pub use Rattle.tp_recover.specs.Reading.{LeavesNothingNew, has_read}
pub use Rattle.tp_recover.specs.declared.unopened.Unopened.{Unopened}
pub use Rattle.tp_ready.specs.Seen.{RaiserValue}
pub use Rattle.tp_ready.specs.Sound.{item_of, shown}
pub use Rattle.tp_shared.proofs.BytesIn.{bytes_in-append, bytes_in-handed, bytes_in-other, bytes_in-same}
pub use Rattle.tp_shared.specs.Accepted.{HaveAccepted}
pub use Rattle.tp_shared.specs.BytesIn.{bytes_in}
pub use Rattle.tp_shared.specs.Entries.{AreTakes, CountedTakes, TookAlone}
pub use Rattle.tp_shared.specs.Gains.{Gained}
pub use Rattle.tp_shared.specs.HandedIn.{handed}
pub use Rattle.tp_shared.specs.Holds.{InHand}
pub use Rattle.tp_shared.specs.NodeTurned.{NodeTurned}
pub use Rattle.tp_shared.specs.Parted.{PartsValue, name_of}
pub use Rattle.tp_shared.specs.Seals.{Stage}
pub use Rattle.tp_shared.specs.TurnsMade.{HostTurnMade, TurnMade}
pub use Rattle.tp_shared.specs.declared.nodes.node_turn.NodeTurn.{NodeTurn}
pub use Rattle.tp_work.specs.Answers.{RefusesFor}
pub use Rattle.tp_work.specs.Outputs.{confirm_fault}
pub use Rattle.tp_work.specs.Turns.{BrokenOff, Refused, Turned}
pub use Rattle.tp_work.specs.declared.fault.TurnFault.{TurnFault}
pub use Rattle.tp_work.specs.declared.fault.TurnFault.TheVariants.{Empty}
pub use Rattle.tp_work.specs.declared.host_fault.ConfirmFault.{ConfirmFault}
pub use Rattle.tp_work.specs.declared.host_fault.ConfirmFault.TheVariants.{JournalFull, NotShown, StoreBroken}
pub use Rattle.tp_work.specs.declared.host_fault.OfferFault.{OfferFault}
pub use Rattle.tp_work.specs.declared.host_fault.OfferFault.TheVariants.{Memory}
pub use Rattle.tp_work.specs.declared.turn.Turn.{Turn}
pub use Rattle.tp_flush.proofs.Follows.{number_is, read_alone, read_first, stored_follows, walked_either, walked_follows}
pub use Rattle.tp_flush.proofs.Kept.{reached_then}
pub use Rattle.tp_flush.proofs.Made.{kept_is, stands}
pub use Rattle.tp_flush.proofs.Recovers.{recovers_less}
pub use Rattle.tp_flush.proofs.Turns.{walked_nowhere, walked_recovers, walked_stays, walked_then}
pub use Rattle.tp_flush.specs.Ahead.{IsAheadOf}
pub use Rattle.tp_flush.specs.All.{AreAll}
pub use Rattle.tp_flush.specs.Ends.{Rested}
pub use Rattle.tp_flush.specs.Flushing.{Flushing, IsSameProcess, Walked}
pub use Rattle.tp_flush.specs.Follows.{Follows}
pub use Rattle.tp_flush.specs.Known.{Began, Reached}
pub use Rattle.tp_flush.specs.Made.{IsMadeOf}
pub use Rattle.tp_flush.specs.Settled.{HasFront}
pub use Rattle.tp_flush.specs.declared.fault.FlushFault.{FlushFault}
pub use Rattle.tp_stream_files.proofs.StreamEndsSinks.{none_put, reaches_less}
pub use Rattle.tp_stream_files.specs.Held.{HasPut, HeldBytes, Reaches}
pub use Rattle.tp_stream_files.specs.Inputs.{AreFrom, GivenInput, HasAtLeast, given_input, is_over}
pub use Rattle.tp_stream_files.specs.Notices.{HasCome, InputBegins, Notice, Noticed, OutputBegins}
pub use Rattle.tp_stream_files.specs.Outputs.{Given, OutputValue, WasPutSafely, given_of}
pub use Rattle.tp_stream_files.specs.declared.ending.Ended.{Ended}
pub use Rattle.tp_stream_files.specs.declared.ending.Ending.{Ending}
pub use Rattle.tp_stream_files.specs.declared.ending.Ending.TheVariants.{Gone, Halted, Quiet, Stopped, Stopped as AskedTo, Turns}
