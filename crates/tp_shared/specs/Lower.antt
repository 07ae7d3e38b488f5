-- What definitions and contracts here name of the crates below.
pub use Rattle.std.specs.Borrow.{ftrue}
pub use Rattle.std.specs.List.{AllByRecursion, enumerate_from, list_all, range_with_len}
pub use Rattle.tp_model.specs.Acts.{Act, Begin, CutHolds, Trim}
unfoldable pub use Rattle.tp_model.specs.Acts.{acted, happens}
pub use Rattle.tp_model.specs.DeviceAreas.{numbered}
unfoldable pub use Rattle.tp_model.specs.Entries.{process}
pub use Rattle.tp_model.specs.EntryBytes.{AreOf, IsSpelt, is_in_range}
pub use Rattle.tp_model.specs.FrozenAs.{IsFrozenAs}
unfoldable pub use Rattle.tp_model.specs.Image.{image_head}
pub use Rattle.tp_model.specs.Markers.{plain_network}
pub use Rattle.tp_model.specs.Network.{Network, on_line}
unfoldable pub use Rattle.tp_model.specs.Network.{steps}
pub use Rattle.tp_model.specs.Node.{t414}
pub use Rattle.tp_model.specs.NodeState.{NodeState}
pub use Rattle.tp_model.specs.NodeWrites.{kept_behind_steps}
unfoldable pub use Rattle.tp_model.specs.NodeWrites.{node_ranges}
pub use Rattle.tp_model.specs.Numbers.{AreNumbered}
pub use Rattle.tp_model.specs.Order.{post}
pub use Rattle.tp_model.specs.Runs.{HasCut, World, fresh, grown, is_trim}
pub use Rattle.tp_model.specs.SharedPages.{LacksFrames}
pub use Rattle.tp_model.specs.Snapshot.{MarkedNetwork}
pub use Rattle.tp_model.specs.Turn.{by_link}
unfoldable pub use Rattle.tp_model.specs.Turn.{took_all}
pub use Rattle.tp_model.specs.WholeCut.{WholeCut, all_some, count_in, trimmed}
unfoldable pub use Rattle.tp_model.specs.WholeCut.{whole}
pub use Rattle.tp_model.specs.WriteOrder.{Resting}
pub use Rattle.tp_model.specs.declared.entry.Entry.{Entry}
pub use Rattle.tp_model.specs.declared.entry.Entry.TheVariants.{Confirm, HostIn, Run, Take, Turn}
pub use Rattle.tp_model.specs.declared.form.Form.{Form}
pub use Rattle.tp_model.specs.declared.form.Form.TheVariants.{Turns}
pub use Rattle.tp_model.specs.declared.limits.TheConstants.{MAX_NODES, MAX_STEPS, NUMBER_LIMIT, PAGE_BYTES}
pub use Rattle.tp_model.specs.declared.link.Received.{Received}
pub use Rattle.tp_model.specs.declared.link.Token.{Token}
pub use Rattle.tp_law_machine.specs.NodeOfBytes.{IsNodeOfBytes}
pub use Rattle.tp_law_network.specs.Invariant.{CutInvariant}
pub use Rattle.tp_law_network.specs.Reserved.{IsReceived, turn_entries}
pub use Rattle.tp_node.specs.NodeContents.{NodeContents, memory_kept}
pub use Rattle.tp_node.specs.Rest.{rest_of}
pub use Rattle.tp_node.specs.RunEnd.{IsWhy}
pub use Rattle.tp_node.specs.declared.rest.Rest.{Rest}
pub use Rattle.tp_node.specs.declared.rest.Rest.TheVariants.{Busy, Halted, Quiet}
pub use Rattle.tp_book.specs.Acts.{confirm_entries, run_entries}
pub use Rattle.tp_book.specs.Book.{BookValue, count_of_nodes, next_in_book, world_of}
unfoldable pub use Rattle.tp_book.specs.Book.{agreed}
pub use Rattle.tp_book.specs.Calls.{without_run}
pub use Rattle.tp_book.specs.Copies.{IsTail, backlog_of}
pub use Rattle.tp_book.specs.Host.{accepted_of, after_confirm, after_inputs, confirm_refusal, input_refusal, port_in}
pub use Rattle.tp_book.specs.Joined.{FitsRoom}
pub use Rattle.tp_book.specs.Kept.{AreSpelt}
pub use Rattle.tp_book.specs.Marked.{after_begin, begin_refusal}
pub use Rattle.tp_book.specs.Needs.{has_recorded_in, is_asked}
pub use Rattle.tp_book.specs.Opened.{IsWellOpen, now_of, opened_book}
pub use Rattle.tp_book.specs.PortParts.{port_made}
pub use Rattle.tp_book.specs.Receipts.{confirm_receipt, input_receipt}
pub use Rattle.tp_book.specs.Refusals.{IsAnswer}
pub use Rattle.tp_book.specs.Trimmed.{after_trim}
pub use Rattle.tp_book.specs.declared.refusal.Refusal.{Refusal}
pub use Rattle.tp_book.specs.declared.refusal.Refusal.TheVariants.{JournalFull, Memory, NothingToTake, PortFull, SnapshotRunning, StoreBroken}
pub use Rattle.tp_book.specs.declared.state.NetState.{NetState}
pub use Rattle.tp_turn.specs.Hosted.{HostDone, HostTurns}
pub use Rattle.tp_turn.specs.Moments.{Added, Done, IsNodeOf, entries_among, moment_of}
pub use Rattle.tp_turn.specs.Opened.{HasTurnedBy, IsOpenedIn, OpensIn, opened_acts, opened_entries, sent_in, taken_in, tokens_in, turn_received}
pub use Rattle.tp_turn.specs.Over.{ClosesAll}
pub use Rattle.tp_turn.specs.Settled.{Records}
pub use Rattle.tp_turn.specs.declared.opened.Opened.{Opened}
pub use Rattle.tp_turn.specs.declared.opened.Opened.TheVariants.{Apart, Whole}
pub use Rattle.tp_ready.specs.Seen.{MarkName}
pub use Rattle.tp_ready.specs.Sound.{Sound, item_of}
pub use Rattle.tp_ready.specs.declared.roll.Roll.{Roll}
pub use Rattle.tp_ready.specs.declared.twin.Seal.{Seal}
