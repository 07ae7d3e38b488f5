-- What proofs here name of the crates below.
pub use Rattle.std.proofs.lemmas.Bool.{and_from, and_parts, cases_Bool, cases_eq, cases_lt, cases_order, cond-true, cond_both, eqb-true, le-leb, le-ltb, leb-false, leb-true, lt-leb, lt-ltb, ltb-false, ltb-true, true≢false}
pub use Rattle.std.proofs.lemmas.Grind.{drop_more_same}
pub use Rattle.std.proofs.lemmas.List.{drop-set-lt, drop_all, drop_more, get_or-drop, get_or-replicate, get_or_append_left, get_or_at, get_or_past, length-drop, length-map, length-replicate, length-take-le, map-append, map-set, set-set, set_past, take-append-drop, take-append-le, take-map, take-set, take_all, take_more, take_more_set, take_rest}
pub use Rattle.std.proofs.lemmas.List.FromFn.{length-range_with_len}
pub use Rattle.std.proofs.lemmas.List.Sums.{count_by-le-length, sum_by-cons, sum_by-set}
pub use Rattle.std.proofs.lemmas.Option.{get_or_from_slice_get, slice_get-get_or, slice_get-map, slice_get_read, slice_get_within, unwrap_or-slice_get}
pub use Rattle.std.proofs.lemmas.Slice.Zip.{firsts-zip, seconds-zip}
pub use Rattle.std.specs.List.{AllByRecursion, list_all, range_with_len, zip}
pub use Rattle.std.specs.Option.{option_map}
pub use Rattle.std.specs.Result.{is_err}
pub use Rattle.std.specs.Vec.{with_item}
pub use Rattle.std.specs.declared.alloc.Global.{Global}
pub use Rattle.tp_model.specs.Acts.{Act, Begin, Close, CutHolds, IsOpened, IsOpened as IsFirst, Journal, Record, Trim}
unfoldable pub use Rattle.tp_model.specs.Acts.{acted, happens}
pub use Rattle.tp_model.specs.CutTail.{tail_of}
pub use Rattle.tp_model.specs.Entries.{acked, confirmed, first_only, handed_in, in_flight, of_node, port_took}
unfoldable pub use Rattle.tp_model.specs.Entries.{does, next, of_port, process, receives, takes}
pub use Rattle.tp_model.specs.EntryBytes.{AreOf, IsSpelt, is_in_range, is_of, is_received, is_token}
pub use Rattle.tp_model.specs.Halves.{BookState, live, marked, with_begin, with_close, with_close_over, with_half, with_record, with_trim}
unfoldable pub use Rattle.tp_model.specs.Halves.{without}
unfoldable pub use Rattle.tp_model.specs.Image.{node_at}
pub use Rattle.tp_model.specs.Journal.{entry_room, has_no_numbers, is_full, is_full_for_cut, is_full_for_snapshot, is_past, reserve}
pub use Rattle.tp_model.specs.Markers.{before, has_marker, is_marker, markers, plain, plain_network, unmarked}
pub use Rattle.tp_model.specs.Network.{Network, OfHost, OfNode, Own, Port, back, for_line, has_wire, is_first, is_wired, line_of, on_line, process_at, receiver, ◌>>=◌}
unfoldable pub use Rattle.tp_model.specs.Network.{own, pushed, put, sent, steps, taken}
pub use Rattle.tp_model.specs.Node.{on_link, t414, t414_ends}
unfoldable pub use Rattle.tp_model.specs.Node.{took}
pub use Rattle.tp_model.specs.NodeState.{NodeState}
pub use Rattle.tp_model.specs.Numbers.{AreNumbered}
pub use Rattle.tp_model.specs.Opening.{Opened}
pub use Rattle.tp_model.specs.OpensTo.{book_of}
pub use Rattle.tp_model.specs.Order.{post, pre}
unfoldable pub use Rattle.tp_model.specs.Order.{after, chosen, made, made as made_by}
pub use Rattle.tp_model.specs.Snapshot.{MarkedNetwork, Snapshot, closed_over, collected, count_of, first_snapshot, has_recorded, host_markers, is_closed, journalled, node_markers, with_closed, with_count}
pub use Rattle.tp_model.specs.Sound.{Sound, acks, datas, end_waits, is_pending, is_some_byte, waits_at}
pub use Rattle.tp_model.specs.Turn.{by_line, by_link, comes_in, incoming, received}
unfoldable pub use Rattle.tp_model.specs.Turn.{took_all, turned}
pub use Rattle.tp_model.specs.WholeCut.{IsWhole, WholeCut, all_closed, all_some, count_in, network_in, whole_of}
unfoldable pub use Rattle.tp_model.specs.WholeCut.{whole}
pub use Rattle.tp_model.specs.Word.{bit}
pub use Rattle.tp_model.specs.declared.entry.Entry.{Entry}
pub use Rattle.tp_model.specs.declared.entry.Entry.TheVariants.{Confirm, HostIn, Run, Take, Turn}
pub use Rattle.tp_model.specs.declared.form.Form.{Form}
pub use Rattle.tp_model.specs.declared.form.Form.TheVariants.{Plain, Turns}
pub use Rattle.tp_model.specs.declared.limits.TheConstants.{ENTRY_LINES, ENTRY_NODES, MAX_HELD, MAX_PORTS, MAX_STEPS, NUMBER_LIMIT}
pub use Rattle.tp_model.specs.declared.link.Received.{Received}
pub use Rattle.tp_model.specs.declared.link.Received.TheVariants.{AckThenData, DataThenAck, JustAck, JustData, Nothing}
pub use Rattle.tp_model.specs.declared.link.Token.{Token}
pub use Rattle.tp_model.specs.declared.link.Token.TheVariants.{Ack, Data, Marker}
pub use Rattle.tp_model.specs.declared.wire.WireEnd.{WireEnd}
pub use Rattle.tp_model.specs.declared.wire.WireEnd.TheVariants.{Link, Port as AtPort}
pub use Rattle.tp_law_machine.proofs.Bits.{bit_some}
pub use Rattle.tp_law_machine.proofs.LinkLaws.{has_four_links, keeps_flight, never_marks}
pub use Rattle.tp_law_machine.specs.NodeOfBytes.{CarriesByte, CarryBytes}
pub use Rattle.tp_law_network.proofs.Begin.{made_past}
pub use Rattle.tp_law_network.proofs.Choice.{chosen-append, chosen-map, chosen_all, chosen_keeps, chosen_last_in, chosen_last_out, length-chosen, length-pre-post, made-append, made-below, made-last_other, made-last_same, made-map, made-pre-post, post_all}
pub use Rattle.tp_law_network.proofs.CutsMarks.{AreMarkers, marker_gone, marker_there, plain_unmarked, sent_markers, taken_marker, unmarked_all}
pub use Rattle.tp_law_network.proofs.CutsRoom.{few_markers}
pub use Rattle.tp_law_network.proofs.Halves.{begin_joins, close_joins, close_over_joins, record_joins, trim_joins, whole_joins}
pub use Rattle.tp_law_network.proofs.Happens.{acted_holds, happens_holds, opened_holds}
pub use Rattle.tp_law_network.proofs.Journal.{open_within}
pub use Rattle.tp_law_network.proofs.Kept.{cut_network, trim_holds}
pub use Rattle.tp_law_network.proofs.Lines.{cons_taken, for_line-here, length_pushed, length_sent, length_taken, line_there, on_pushed, on_set_same, same_lines, same_token-self, sent_behind, taken_cons, without_taken}
pub use Rattle.tp_law_network.proofs.Local.{SameShape, Step, next_from, own-host, own-node, owner_of_port, process_same, step_of, steps_links, takes_same, took_all_links}
pub use Rattle.tp_law_network.proofs.Numbers.{numbered_outside}
pub use Rattle.tp_law_network.proofs.Partial.{all_append, bind_some, cond_some, slice_get-set_other, slice_get-set_same}
pub use Rattle.tp_law_network.proofs.Plain.{plain_step, step_markers}
pub use Rattle.tp_law_network.proofs.Reorder.{after_front, after_last, after_shape}
pub use Rattle.tp_law_network.proofs.Room.{acks-plain, datas-plain, length-kinds, on_line-plain}
pub use Rattle.tp_law_network.proofs.Sending.{host_markers_all, node_markers_all}
pub use Rattle.tp_law_network.proofs.Sound.{sound_after, sound_kept, sound_small}
pub use Rattle.tp_law_network.proofs.Whole.{all_closed_at, all_counts, all_some-map, running, whole_holds, whole_only, whole_parts, whole_there}
pub use Rattle.tp_law_network.specs.Invariant.{CutInvariant, Inside as MarksOf, in_cut}
pub use Rattle.tp_law_network.specs.Reserved.{HasTurned, turn_acts, turn_entries}
pub use Rattle.tp_law_network.specs.Turns.{run_of}
pub use Rattle.tp_net.specs.declared.line.TheConstants.{LINE_TOKENS}
