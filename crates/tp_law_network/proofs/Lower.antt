-- What proofs here name of the crates below.
pub use Rattle.std.proofs.Math.ListN.{get_or-map}
pub use Rattle.std.proofs.Math.Path.{fun_ext}
pub use Rattle.std.proofs.Math.Seq.{drop-append_seam, drop-length}
pub use Rattle.std.proofs.lemmas.Bool.{and_from, and_parts, both_ways, cases_Bool, cases_eq, cases_lt, cases_order, cond-true, cond_both, false≢true, le-ltb, leb-false, leb-true, lt-ltb, ltb-false, ltb-true, not-true, or_parts, true≢false}
pub use Rattle.std.proofs.lemmas.List.{append_cancel_left, drop-append-le, ext_get_or, get_or-replicate, get_or_append_left, get_or_at, get_or_past, length-map, length-replicate, length_push, map-append, map-set, set-get_or, set-set, set_comm, take-append-le, take-take, take_at}
pub use Rattle.std.proofs.lemmas.List.Sums.{sum_by-cons}
pub use Rattle.std.proofs.lemmas.Nat.{div_below}
pub use Rattle.std.proofs.lemmas.Option.{cond_some, slice_get_cases, slice_get_past, slice_get_within}
pub use Rattle.std.specs.List.{AllByRecursion, count_by}
pub use Rattle.std.specs.Option.{option_and_then, option_map}
pub use Rattle.tp_model.specs.Acknowledged.{IsAcknowledged, IsShown, is_reopening}
pub use Rattle.tp_model.specs.Acts.{Act, Begin, Close, CutHolds, IsOpened, Journal, Record, Trim, begin, close_line, record_node, trim}
unfoldable pub use Rattle.tp_model.specs.Acts.{acted, happens}
pub use Rattle.tp_model.specs.Areas.{ArePossible, Areas, AreasHold, Held, gate_closed, gate_open, next_number, with_more}
pub use Rattle.tp_model.specs.Counted.{accepted, came_out, is_at, is_input, is_output}
pub use Rattle.tp_model.specs.CutImage.{or_damaged}
pub use Rattle.tp_model.specs.CutOrder.{HasOrder}
pub use Rattle.tp_model.specs.Disk.{AreWithin, Call, IsWithin, MayBe, Moment, Read, Sync, Write, broken, done, within, written}
pub use Rattle.tp_model.specs.DiskHistory.{LeavesOnly, MayHaveLeft, SomeMay, State, moment}
pub use Rattle.tp_model.specs.Entries.{HasFourLinks, acked, confirmed, first_only, handed_in, of_node, port_took}
unfoldable pub use Rattle.tp_model.specs.Entries.{acts, does, next, of_port, process, receives, takes}
pub use Rattle.tp_model.specs.Flight.{is_in_one_place}
unfoldable pub use Rattle.tp_model.specs.Flight.{flights_in}
pub use Rattle.tp_model.specs.Halves.{BookState, live, marked, whole_in, with_begin, with_close, with_close_over, with_half, with_record, with_trim}
unfoldable pub use Rattle.tp_model.specs.Halves.{without}
pub use Rattle.tp_model.specs.Markers.{NeverMarks, before, has_marker, is_marker, markers, plain, plain_network, unmarked}
pub use Rattle.tp_model.specs.Network.{Machine, Network, OfHost, OfNode, Own, Port, back, for_line, has_wire, is_first, is_wired, line_of, on_line, process_at, receiver, same_token, ◌>>=◌}
unfoldable pub use Rattle.tp_model.specs.Network.{own, pushed, put, sent, steps, taken}
pub use Rattle.tp_model.specs.Node.{t414, t414_ends}
pub use Rattle.tp_model.specs.Numbers.{AreNumbered}
pub use Rattle.tp_model.specs.Order.{AreIndependent, Cut, Reorder, post, pre, same, swap}
unfoldable pub use Rattle.tp_model.specs.Order.{after, chosen, made}
pub use Rattle.tp_model.specs.Replay.{Replay, after_entry, after_row, row_entry, with_entry}
unfoldable pub use Rattle.tp_model.specs.Replay.{after_rows}
pub use Rattle.tp_model.specs.Runs.{Acts, BeginsFormatted, Breaks, Copies, CopiesTail, CrashLeaves, Does, Event, HasCut, Raises, Reads, Reads as ReadsMark, Recovers, Reopens, Step, Trims, World, copy_of, fresh, grown, is_trim, reopened}
pub use Rattle.tp_model.specs.Snapshot.{MarkedNetwork, Snapshot, begun, closed_over, collected, count_of, first_snapshot, has_recorded, host_markers, is_closed, journalled, line_closed, node_markers, recorded, taker, with_count, with_markers}
pub use Rattle.tp_model.specs.Sound.{EndsSeen, KeepsFlight, Sound, Wired, acks, datas, end_holds, end_waits, holds_at, is_pending, is_some_byte, own_holds, own_waits, owner, waits_at}
pub use Rattle.tp_model.specs.StoreCalls.{all_done, clear_calls, group_calls, moments_of, put_calls, switch_calls, tail_calls}
pub use Rattle.tp_model.specs.Turn.{by_line, by_link, comes_in, incoming, is_link}
unfoldable pub use Rattle.tp_model.specs.Turn.{took_all, turned}
pub use Rattle.tp_model.specs.Walks.{AreWalked, Chained, RecoversTo, RunLeads, Walks}
pub use Rattle.tp_model.specs.WholeCut.{IsWhole, WholeCut, all_closed, all_some, count_in, network_in, trimmed, whole_of}
unfoldable pub use Rattle.tp_model.specs.WholeCut.{whole}
pub use Rattle.tp_model.specs.Word.{bit}
pub use Rattle.tp_model.specs.WriteOrder.{Allows, Body, Broken, Cleared, Gate, Opened, Opening, Position, Ready, Resting, Tail, add_body, add_gate, body_done, clear_done, clearing, gate_done, left, looking, putting, reached, switch_done, switching, syncing, tail_putting, tail_syncing}
pub use Rattle.tp_model.specs.declared.entry.Entry.{Entry}
pub use Rattle.tp_model.specs.declared.entry.Entry.TheVariants.{Confirm, HostIn, Run, Take, Turn}
pub use Rattle.tp_model.specs.declared.form.Form.{Form}
pub use Rattle.tp_model.specs.declared.limits.TheConstants.{GATE_CLOSED, GATE_OPEN, LINE_BYTES, MAX_HELD, MAX_STEPS, NUMBER_LIMIT}
pub use Rattle.tp_model.specs.declared.link.Received.{Received}
pub use Rattle.tp_model.specs.declared.link.Received.TheVariants.{AckThenData, DataThenAck, JustAck, JustData, Nothing}
pub use Rattle.tp_model.specs.declared.link.Token.{Token}
pub use Rattle.tp_model.specs.declared.link.Token.TheVariants.{Ack, Data, Marker}
pub use Rattle.tp_model.specs.declared.opening.OpenFault.TheVariants.{Damaged}
pub use Rattle.tp_model.specs.declared.wire.WireEnd.{WireEnd}
pub use Rattle.tp_model.specs.declared.wire.WireEnd.TheVariants.{Link, Port as AtPort}
pub use Rattle.tp_law_machine.proofs.Faults.{none_or, or_fault}
pub use Rattle.tp_law_machine.proofs.LinkLaws.{has_four_links, keeps_flight, never_marks}
