-- What proofs here name of the crates below.
pub use Rattle.std.proofs.lemmas.Bool.{and_parts, cases_eq, cases_lt, ne_eqb, true≢false}
pub use Rattle.std.proofs.lemmas.Grind.{flat_map-append}
pub use Rattle.std.proofs.lemmas.Iterator.Adapters.{YieldsList-from_vec}
pub use Rattle.std.proofs.lemmas.Iterator.Consumers.{YieldsList-turn}
pub use Rattle.std.proofs.lemmas.List.{append-nil, drop-map, drop_all, drop_at, length-drop, length-map, length-replicate, length-set, map-append, set-set, take-append-drop, take-map, take_at, take_more, take_rest}
pub use Rattle.std.proofs.lemmas.List.FromFn.{length-enumerate_from}
pub use Rattle.std.proofs.lemmas.List.Sums.{sum_by-cons}
pub use Rattle.std.proofs.lemmas.Option.{get_or_from_slice_get, slice_get-get_or, slice_get-map, slice_get_read, slice_get_within}
pub use Rattle.std.proofs.lemmas.Result.{IfOk-weaker}
pub use Rattle.std.proofs.lemmas.Slice.Zip.{firsts-zip, seconds-zip}
pub use Rattle.std.specs.List.{AllByRecursion, enumerate_from, list_all, range_with_len}
pub use Rattle.std.specs.Option.{option_map}
pub use mathlib.Core.List.{cons≢nil}
pub use Rattle.tp_model.specs.Acts.{Act, Begin, Close, Journal, Record, Trim, trim}
unfoldable pub use Rattle.tp_model.specs.Acts.{acted, happens}
pub use Rattle.tp_model.specs.Counted.{is_input}
pub use Rattle.tp_model.specs.DeviceAreas.{numbered}
unfoldable pub use Rattle.tp_model.specs.Entries.{next, process}
pub use Rattle.tp_model.specs.EntryBytes.{AreOf}
pub use Rattle.tp_model.specs.FrozenAs.{IsFrozenAs}
pub use Rattle.tp_model.specs.Halves.{BookState}
pub use Rattle.tp_model.specs.Journal.{is_full_for_snapshot}
pub use Rattle.tp_model.specs.Markers.{is_marker, plain, plain_network}
pub use Rattle.tp_model.specs.Network.{Network, OfHost, OfNode, Port, back, on_line}
unfoldable pub use Rattle.tp_model.specs.Network.{own}
pub use Rattle.tp_model.specs.Node.{t414}
pub use Rattle.tp_model.specs.NodeState.{NodeState}
pub use Rattle.tp_model.specs.Order.{post, pre}
unfoldable pub use Rattle.tp_model.specs.Order.{after, made}
pub use Rattle.tp_model.specs.Runs.{HasCut, World, fresh, is_trim}
pub use Rattle.tp_model.specs.Snapshot.{MarkedNetwork, Snapshot, has_recorded}
pub use Rattle.tp_model.specs.Turn.{by_link}
pub use Rattle.tp_model.specs.WholeCut.{IsWhole, WholeCut, all_some, count_in, trimmed}
unfoldable pub use Rattle.tp_model.specs.WholeCut.{whole}
pub use Rattle.tp_model.specs.declared.entry.Entry.{Entry}
pub use Rattle.tp_model.specs.declared.entry.Entry.TheVariants.{Confirm, HostIn, Run, Take, Turn}
pub use Rattle.tp_model.specs.declared.form.Form.{Form}
pub use Rattle.tp_model.specs.declared.form.Form.TheVariants.{Plain, Turns}
pub use Rattle.tp_model.specs.declared.limits.TheConstants.{MAX_NODES, PAGE_BYTES}
pub use Rattle.tp_model.specs.declared.link.Received.{Received}
pub use Rattle.tp_model.specs.declared.link.Token.{Token}
pub use Rattle.tp_model.specs.declared.link.Token.TheVariants.{Ack, Data, Marker}
pub use Rattle.tp_model.specs.declared.wire.WireEnd.{WireEnd}
pub use Rattle.tp_law_machine.proofs.LinkLaws.{has_four_links, never_marks}
pub use Rattle.tp_law_machine.proofs.Partial.{all_append, all_at, all_set, bind_some, slice_get-set_other, slice_get-set_same}
pub use Rattle.tp_law_machine.specs.NodeOfBytes.{IsNodeOfBytes}
pub use Rattle.tp_law_network.proofs.Acts.{begin_parts, close_parts, journal_parts, record_parts}
pub use Rattle.tp_law_network.proofs.Choice.{chosen-map, length-pre-post, made-map, post-append_outside}
pub use Rattle.tp_law_network.proofs.Counted.{after_counted}
pub use Rattle.tp_law_network.proofs.Happens.{acted_holds, happens_holds}
pub use Rattle.tp_law_network.proofs.Lines.{on_set_same}
pub use Rattle.tp_law_network.proofs.Local.{own-node, process_same}
pub use Rattle.tp_law_network.proofs.Reorder.{after_shape}
pub use Rattle.tp_law_network.proofs.Shape.{mid_nodes}
pub use Rattle.tp_law_network.proofs.Stays.{cut_stays, entries_grow, start_stays}
pub use Rattle.tp_law_network.proofs.Whole.{all_counts, all_some-map, parts_recorded, running, whole_holds, whole_only, whole_parts}
pub use Rattle.tp_law_network.specs.Invariant.{CutInvariant, as_recorded}
pub use Rattle.tp_law_network.specs.Reserved.{IsNotOf, turn_entries}
pub use Rattle.tp_law_network.specs.Turns.{run_of}
pub use Rattle.tp_law_device.proofs.Frozen.{frozen_as_stays}
pub use Rattle.tp_node.specs.NodeContents.{NodeContents}
pub use Rattle.tp_node.specs.Rest.{rest_of}
pub use Rattle.tp_node.specs.RunEnd.{RunEnd}
pub use Rattle.tp_node.specs.Standing.{standing}
pub use Rattle.tp_node.specs.declared.rest.Rest.{Rest}
pub use Rattle.tp_node.specs.declared.rest.Rest.TheVariants.{Busy, Halted, Quiet}
pub use Rattle.tp_book.proofs.Clearing.{drop_here}
pub use Rattle.tp_book.proofs.Commit.{length-agreed}
pub use Rattle.tp_book.proofs.Lists.{set_back}
pub use Rattle.tp_book.proofs.Remarked.{running_in}
pub use Rattle.tp_book.proofs.Stood.{no_act, one_act}
pub use Rattle.tp_book.specs.Acts.{confirm_acts, confirm_entries, input_acts}
pub use Rattle.tp_book.specs.Book.{BookValue, next_in_book, nodes_in, reserved, world_of}
unfoldable pub use Rattle.tp_book.specs.Book.{agreed}
pub use Rattle.tp_book.specs.Calls.{front_of, with_run, without_run}
pub use Rattle.tp_book.specs.Clear.{is_clear}
pub use Rattle.tp_book.specs.Copies.{backlog_of}
pub use Rattle.tp_book.specs.Host.{accepted_of, after_confirm, after_inputs, port_in, with_confirmed}
pub use Rattle.tp_book.specs.Joined.{FitsRoom, hand}
pub use Rattle.tp_book.specs.Kept.{BookKeeps}
pub use Rattle.tp_book.specs.Marked.{after_begin, begin_refusal, is_closable}
pub use Rattle.tp_book.specs.Needs.{has_recorded_in, is_asked}
pub use Rattle.tp_book.specs.Opened.{IsWellOpen, now_of, opened_book}
pub use Rattle.tp_book.specs.Refusals.{IsAnswer, else_if, is_journal_full, reserve_refusal}
pub use Rattle.tp_book.specs.Trimmed.{after_trim, kept_in, outside}
pub use Rattle.tp_book.specs.declared.book.Book.{Book}
pub use Rattle.tp_book.specs.declared.entries.backlog.Copied.{Copied}
pub use Rattle.tp_book.specs.declared.refusal.Refusal.{Refusal}
pub use Rattle.tp_book.specs.declared.refusal.Refusal.TheVariants.{JournalFull, Memory, NothingToTake, PortFull, SnapshotRunning, StoreBroken}
pub use Rattle.tp_book.specs.declared.state.NetState.{NetState}
pub use Rattle.tp_turn.proofs.Adding.{acted_more, entries_more}
pub use Rattle.tp_turn.proofs.Ahead.{not_of, received_stays}
pub use Rattle.tp_turn.proofs.Fronted.{collected_recorded}
pub use Rattle.tp_turn.proofs.MarkActs.{breaks_whole_listed, breaks_whole_untrimmed, closes_listed, closes_untrimmed, opened_listed, opened_untrimmed}
pub use Rattle.tp_turn.proofs.Opening.{opened_behind, opens_form, turned_by, whole_refused}
pub use Rattle.tp_turn.proofs.Staying.{opens_in_stay, records_stay}
pub use Rattle.tp_turn.specs.Fronts.{AtFront, EndsTurn, OnLine, OnLink, OnWire, front_act}
pub use Rattle.tp_turn.specs.Hosted.{HostAdded, HostDone, HostTurns, OnPort, OnPortLine, OnPortWire, PortAtFront, StopsAtPort}
unfoldable pub use Rattle.tp_turn.specs.Hosted.{LeavesPorts}
pub use Rattle.tp_turn.specs.Moments.{Added, Done, IsNodeOf, TurnMoment, entries_among, moment_of}
pub use Rattle.tp_turn.specs.Opened.{IsOpenedIn, OpensIn, opened_acts, opened_entries, sent_in, taken_in, turn_received}
pub use Rattle.tp_turn.specs.Over.{ClosesAll, ClosesOver}
pub use Rattle.tp_turn.specs.Settled.{EndsAtLink, LeavesLink, Records, Settles}
pub use Rattle.tp_turn.specs.Stages.{Breaks}
unfoldable pub use Rattle.tp_turn.specs.Turns.{InOrder}
pub use Rattle.tp_turn.specs.declared.left.Left.{Left}
pub use Rattle.tp_turn.specs.declared.opened.Opened.{Opened}
pub use Rattle.tp_turn.specs.declared.opened.Opened.TheVariants.{Apart, Whole}
pub use Rattle.tp_ready.specs.Sound.{Sound, item_of}
pub use Rattle.tp_ready.specs.declared.roll.Roll.{Roll}
pub use Rattle.tp_ready.specs.declared.twin.Seal.{Seal}
