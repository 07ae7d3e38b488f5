-- What proofs here name of the crates below.
pub use Rattle.rayon.specs.Lists.{filter_by_mask}
pub use Rattle.std.proofs.Math.Nat.{div-le_of_le-mul, div-mul-le_self, mul-le-mul_right}
pub use Rattle.std.proofs.lemmas.Bool.{and_from, and_parts, cases_Bool, cases_eq, cases_lt, cond-true, false≢true, le-leb, le-ltb, leb-true, lt-leb, lt-ltb, ltb-true, true≢false}
pub use Rattle.std.proofs.lemmas.Iterator.Adapters.{YieldsList-from_vec}
pub use Rattle.std.proofs.lemmas.Iterator.Consumers.{YieldsList-end, YieldsList-turn}
pub use Rattle.std.proofs.lemmas.List.{append_assoc, drop-drop, drop-map, drop-take, drop_all, drop_more, get_or-map, get_or-replicate, get_or-take, get_or_append_left, get_or_at, get_or_default, get_or_past, length-append, length-map, length-replicate, length-take, length-take-le, map-append, map-id, map-set, map_more, map_push, set-append_left, set-append_right, set-get_or, set-set, set_past, take-append-drop, take-map, take-take, take_all, take_at, take_more}
pub use Rattle.std.proofs.lemmas.Nat.{div_below, le-div}
pub use Rattle.std.proofs.lemmas.Option.{get_or_from_slice_get, slice_get-get_or, slice_get-map, slice_get_past, slice_get_read, slice_get_within}
pub use Rattle.std.proofs.lemmas.Result.{IfOk-weaker}
pub use Rattle.std.proofs.lemmas.Simd.{map-map}
pub use Rattle.std.specs.Cmp.{both_ways}
pub use Rattle.std.specs.List.{AllByRecursion, AllZip, range_with_len, slice_get}
pub use Rattle.std.specs.Option.{option_and_then, option_map}
pub use Rattle.std.specs.Result.{is_err}
pub use Rattle.std.specs.Vec.{with_item}
pub use Rattle.tp_model.specs.CutImage.{only_if, or_damaged}
pub use Rattle.tp_model.specs.Entries.{acked, confirmed, first_only, handed_in, in_flight, of_node, port_took}
unfoldable pub use Rattle.tp_model.specs.Entries.{acts, does, next, of_port, process, receives, takes}
pub use Rattle.tp_model.specs.EntryBytes.{is_of}
unfoldable pub use Rattle.tp_model.specs.EntryBytes.{entry_at}
unfoldable pub use Rattle.tp_model.specs.Image.{image, image_head, node_at, node_of}
pub use Rattle.tp_model.specs.Markers.{is_marker, markers}
pub use Rattle.tp_model.specs.Network.{Machine, Network, OfHost, OfNode, Own, Port, back, for_line, has_wire, is_first, is_wired, line_of, on_line, process_at, receiver, ◌>>=◌}
unfoldable pub use Rattle.tp_model.specs.Network.{own, pushed, put, sent, steps, taken}
pub use Rattle.tp_model.specs.Node.{holds, on_link, t414, t414_ends, waits}
unfoldable pub use Rattle.tp_model.specs.Node.{node_step, took}
pub use Rattle.tp_model.specs.NodeState.{NodeState}
pub use Rattle.tp_model.specs.Numbers.{AreNumbered}
unfoldable pub use Rattle.tp_model.specs.Order.{after}
pub use Rattle.tp_model.specs.Replay.{Replay, after_entry, after_row, group_rows_at, is_number, replay_from, row_entry, with_entry}
unfoldable pub use Rattle.tp_model.specs.Replay.{after_rows}
pub use Rattle.tp_model.specs.Sound.{Sound, acks, datas, end_holds, end_waits, owner}
pub use Rattle.tp_model.specs.Turn.{by_line, by_link, comes_in, incoming, is_link, received}
unfoldable pub use Rattle.tp_model.specs.Turn.{took_all, turned}
pub use Rattle.tp_model.specs.Word.{bit}
pub use Rattle.tp_model.specs.declared.entry.Entry.{Entry}
pub use Rattle.tp_model.specs.declared.entry.Entry.TheVariants.{Confirm, HostIn, Run, Take, Turn}
pub use Rattle.tp_model.specs.declared.form.Form.{Form}
pub use Rattle.tp_model.specs.declared.limits.TheConstants.{ENTRY_BYTES, MAX_HELD, MAX_STEPS, NUMBER_LIMIT, PAGE_BYTES}
pub use Rattle.tp_model.specs.declared.link.Received.{Received}
pub use Rattle.tp_model.specs.declared.link.Received.TheVariants.{AckThenData, DataThenAck, JustAck, JustData, Nothing}
pub use Rattle.tp_model.specs.declared.link.Token.{Token}
pub use Rattle.tp_model.specs.declared.link.Token.TheVariants.{Ack, Data, Marker}
pub use Rattle.tp_model.specs.declared.opening.OpenFault.{OpenFault}
pub use Rattle.tp_model.specs.declared.opening.OpenFault.TheVariants.{Damaged as DamagedAt}
pub use Rattle.tp_model.specs.declared.wire.WireEnd.{WireEnd}
pub use Rattle.tp_model.specs.declared.wire.WireEnd.TheVariants.{Link, Port as AtPort}
pub use Rattle.tp_law_machine.proofs.Bits.{bit_none, bit_small, bit_some}
pub use Rattle.tp_law_machine.proofs.Images.{node_at-image, node_of-image}
pub use Rattle.tp_law_machine.proofs.LinkLaws.{has_four_links, keeps_flight, never_marks}
pub use Rattle.tp_law_machine.proofs.Nodes.{carries, node_steps, node_took}
pub use Rattle.tp_law_machine.proofs.ReplayedRows.{after_rows-append}
pub use Rattle.tp_law_machine.proofs.Taking.{takes_ack, takes_data}
pub use Rattle.tp_law_machine.specs.NodeOfBytes.{CarriesByte, CarryBytes, IsNodeOfBytes}
pub use Rattle.tp_law_network.proofs.ByItself.{node_there, node_there as found}
pub use Rattle.tp_law_network.proofs.InPlace.{flights_found, sound_in_place}
pub use Rattle.tp_law_network.proofs.Lines.{cons_taken, first_is, for_line-append, for_line-elsewhere, for_line-here, for_line-other, is_first-cons, length_sent, length_taken, line_there, on_sent_none, on_sent_open, on_set_other, on_set_same, on_taken, same_lines, sent-append, sent_behind, taken-sent, taken_cons, taken_from}
pub use Rattle.tp_law_network.proofs.Local.{SameShape, Step, TurnStep, comes_first, link_is, next_from, own-host, own-node, own_host, own_node, owner_of_link, port_step, process_same, put-length, put-lines, sends_own, step_lines, step_of, step_own_other, step_own_same, step_shape, steps_links, turn_step}
pub use Rattle.tp_law_network.proofs.Marks.{AreUnmarked}
pub use Rattle.tp_law_network.proofs.Partial.{all_append, bind_some, cond_some, map_some, slice_get-set_other, slice_get-set_same}
pub use Rattle.tp_law_network.proofs.Plain.{step_markers, step_takes_unmarked, unmarked_links}
pub use Rattle.tp_law_network.proofs.PortsKeep.{ports_keep}
pub use Rattle.tp_law_network.proofs.Reach.{after-same, after_by-goes, ends_agree, reach-goes, reach-stops, reach_most, reach_whole, whole_reach}
pub use Rattle.tp_law_network.proofs.Reorder.{after_last, after_shape}
pub use Rattle.tp_law_network.proofs.Room.{line_room}
pub use Rattle.tp_law_network.proofs.Sound.{end_holds_is, end_waits_is, sound_kept}
pub use Rattle.tp_law_network.proofs.Steps.{Act, act_of, acts_from}
pub use Rattle.tp_law_network.proofs.Stops.{least_stop}
pub use Rattle.tp_law_network.proofs.Turns.{turn_fronts}
unfoldable pub use Rattle.tp_law_network.specs.InPiece.{next_in}
pub use Rattle.tp_law_network.specs.Piece.{Agrees, Covers, Piece, sends}
unfoldable pub use Rattle.tp_law_network.specs.Piece.{from_piece}
unfoldable pub use Rattle.tp_law_network.specs.Reach.{after_by, reach}
pub use Rattle.tp_law_network.specs.Readable.{bare}
pub use Rattle.tp_law_network.specs.Stops.{IsLeastOf, IsOverfull, StopsAt}
pub use Rattle.tp_law_network.specs.Turns.{IsFront}
pub use Rattle.tp_mem.specs.Contents.{page_of}
pub use Rattle.tp_node.proofs.Answered.{lacking_frozen, takes_err, takes_ok, why_fewer, why_most}
pub use Rattle.tp_node.specs.NodeContents.{NodeContents}
pub use Rattle.tp_book.proofs.Counted.{took_counted}
pub use Rattle.tp_book.proofs.Lists.{set_back}
pub use Rattle.tp_book.proofs.Owns.{of_port-is, own_there}
pub use Rattle.tp_book.proofs.Sending.{all_known, answer_on, pushed_open, pushed_shut, room_before, sends_on-tokens, wired_some}
pub use Rattle.tp_book.specs.Counted.{AreCounted, IsCounted}
pub use Rattle.tp_book.specs.Ports.{PortValue}
pub use Rattle.tp_book.specs.Room.{HasRoom, from_line}
pub use Rattle.tp_book.specs.Sends.{on_lines, sends_on}
