-- What proofs here name of the crates below.
pub use Rattle.std.proofs.Math.Seq.{take-add}
pub use Rattle.std.proofs.lemmas.Bool.{and_parts, cases_Bool, cases_eq, cond-false, eq-eqb, eqb-true, false≢true, le-leb, leb-false, leb-true, lt-leb, ltb-false, ltb-true, ne_eqb, true≢false}
pub use Rattle.std.proofs.lemmas.Grind.{common_steps}
pub use Rattle.std.proofs.lemmas.List.{at_drop_more, drop-drop, drop-take, drop_all, drop_more, length-map, length-take-le, length_push, map_push, take-append-drop, take-append-le, take-take, take_all, take_more}
pub use Rattle.std.proofs.lemmas.List.Sums.{sum_by_more, sum_by_more_le}
pub use Rattle.std.proofs.lemmas.Option.{none-some, slice_get-get_or, slice_get-map, slice_get_cases, slice_get_read}
pub use Rattle.std.proofs.lemmas.Result.{err_from_is_err_and}
pub use Rattle.std.specs.List.{AllByRecursion, list_all}
pub use Rattle.std.specs.Option.{ok_or, option_and_then, option_map}
pub use Rattle.std.specs.declared.alloc.Global.{Global}
pub use Rattle.tp_model.specs.Bytes.{u16_at, u32_at, u64_at, u8_at}
pub use Rattle.tp_model.specs.CutImage.{is_line_of, is_port_of, line_with, node_with, only_if, or_damaged, port_at, port_bytes, port_with}
unfoldable pub use Rattle.tp_model.specs.CutImage.{lines_in, nodes_in, ports_in}
pub use Rattle.tp_model.specs.Device.{area_start, areas_end, content_of, generation_of}
pub use Rattle.tp_model.specs.Disk.{MayBe, Moment, Read, Sync, done, written}
pub use Rattle.tp_model.specs.DiskHistory.{Counts, Fails, MomentPassed, State}
pub use Rattle.tp_model.specs.Entries.{acked, confirmed, first_only, handed_in, in_flight, of_node, port_took}
unfoldable pub use Rattle.tp_model.specs.Entries.{does, next, of_port, process, receives}
pub use Rattle.tp_model.specs.EntryBytes.{AreOf, IsSpelt, is_in_range, is_of, is_received, number_in}
unfoldable pub use Rattle.tp_model.specs.EntryBytes.{entry_at}
pub use Rattle.tp_model.specs.Flight.{is_in_one_place}
unfoldable pub use Rattle.tp_model.specs.Flight.{flights_in}
pub use Rattle.tp_model.specs.Group.{group_at, group_length, or_bad}
unfoldable pub use Rattle.tp_model.specs.Group.{rows_at, rows_behind}
pub use Rattle.tp_model.specs.Head.{Head}
unfoldable pub use Rattle.tp_model.specs.Head.{head_of}
pub use Rattle.tp_model.specs.Image.{IsNode, page_count}
unfoldable pub use Rattle.tp_model.specs.Image.{image, node_at, node_of}
pub use Rattle.tp_model.specs.Journal.{cut_length, entry_room, image_length, is_roomy, reserve, room}
pub use Rattle.tp_model.specs.Markers.{markers, plain}
pub use Rattle.tp_model.specs.Network.{Network, OfHost, OfNode, Own, Port, back, has_wire, on_line, receiver}
unfoldable pub use Rattle.tp_model.specs.Network.{own, put, sent, steps}
pub use Rattle.tp_model.specs.Node.{t414, t414_ends}
unfoldable pub use Rattle.tp_model.specs.Node.{took}
pub use Rattle.tp_model.specs.NodeState.{NodeState}
pub use Rattle.tp_model.specs.Numbers.{AreNumbered}
pub use Rattle.tp_model.specs.Opening.{Opened, base_of, choice, closed_in, form_of, front_in, groups_place, has_front, lines_place, next_of, nodes_place, ports_place}
unfoldable pub use Rattle.tp_model.specs.Opening.{area_in, chosen_area, cut_in, opening, verdict}
unfoldable pub use Rattle.tp_model.specs.Order.{after}
pub use Rattle.tp_model.specs.Replay.{Listing, Replay, after_entry, after_row, at_open_gate, group_rows_at, is_number, replay_from, row_entry, with_entry, with_group}
unfoldable pub use Rattle.tp_model.specs.Replay.{after_rows, listing}
pub use Rattle.tp_model.specs.Results.{◌>>=◌}
pub use Rattle.tp_model.specs.Sound.{EndsSeen, Sound, is_pending, is_some_byte}
pub use Rattle.tp_model.specs.Spelling.{IsCut, are_lines, has_record}
pub use Rattle.tp_model.specs.Topology.{Topology, line_count}
unfoldable pub use Rattle.tp_model.specs.Topology.{is_topology}
pub use Rattle.tp_model.specs.Turn.{by_link, received}
pub use Rattle.tp_model.specs.declared.areas.TwoAreas.{TwoAreas}
pub use Rattle.tp_model.specs.declared.entry.Entry.{Entry}
pub use Rattle.tp_model.specs.declared.entry.Entry.TheVariants.{Confirm, HostIn, Run, Take, Turn}
pub use Rattle.tp_model.specs.declared.form.Form.{Form}
pub use Rattle.tp_model.specs.declared.group.BadGroup.{BadGroup}
pub use Rattle.tp_model.specs.declared.head.HeadVersion.TheVariants.{Narrow, Wide}
pub use Rattle.tp_model.specs.declared.limits.TheConstants.{ENTRY_BYTES, ENTRY_LINES, ENTRY_NODES, GATE_OPEN, IMAGE_HEAD_BYTES, LINE_BYTES, MAX_GROUP, MAX_HELD, MAX_STEPS, NARROW_HEAD_BYTES, NUMBER_LIMIT, PAGE_BYTES, PORT_BYTES}
pub use Rattle.tp_model.specs.declared.link.Received.{Received}
pub use Rattle.tp_model.specs.declared.link.Received.TheVariants.{AckThenData, DataThenAck, JustAck, JustData, Nothing}
pub use Rattle.tp_model.specs.declared.link.Token.{Token}
pub use Rattle.tp_model.specs.declared.link.Token.TheVariants.{Ack, Data, Marker}
pub use Rattle.tp_model.specs.declared.opening.OpenFault.{OpenFault}
pub use Rattle.tp_model.specs.declared.opening.OpenFault.TheVariants.{Damaged}
pub use Rattle.tp_model.specs.declared.wire.WireEnd.{WireEnd}
pub use Rattle.tp_model.specs.declared.wire.WireEnd.TheVariants.{Link, Port as AtPort}
pub use Rattle.tp_law_machine.proofs.BytesRows.{count_at_is, rows_behind-none, rows_behind-some}
pub use Rattle.tp_law_machine.proofs.EntryLaws.{entry_at-above, entry_at-bytes}
pub use Rattle.tp_law_machine.proofs.Faults.{or_damaged_ok}
pub use Rattle.tp_law_machine.proofs.GroupLaws.{or_bad-some}
pub use Rattle.tp_law_machine.proofs.Images.{node_of_bytes}
pub use Rattle.tp_law_machine.proofs.Numbers.{AreBytes, are_bytes, are_bytes-append, are_bytes-take}
pub use Rattle.tp_law_machine.proofs.Partial.{all_at}
pub use Rattle.tp_law_machine.proofs.ReplayedRows.{after_rows-append}
pub use Rattle.tp_law_machine.specs.Counts.{count_at}
pub use Rattle.tp_law_machine.specs.NodeOfBytes.{CarriesByte, CarryBytes, IsNodeOfBytes}
pub use Rattle.tp_law_network.proofs.InPlace.{end_holds-link, end_holds-port, end_waits-link, end_waits-port, flights_found}
pub use Rattle.tp_law_network.proofs.Local.{own_host, port_step, step_of, turn_step}
pub use Rattle.tp_law_network.proofs.Partial.{all_append, bind_some, cond_some, map_some, slice_get-set_other, slice_get-set_same}
pub use Rattle.tp_law_network.proofs.Reach.{after-same, is_there, reach-goes, reach-stops, reach_whole}
pub use Rattle.tp_law_network.proofs.Rows.{rows_stop}
unfoldable pub use Rattle.tp_law_network.specs.Reach.{reach}
pub use Rattle.tp_law_network.specs.Readable.{bare, may_have, read_on}
unfoldable pub use Rattle.tp_law_network.specs.Readable.{readable}
pub use Rattle.tp_law_network.specs.RowsStop.{RowsEnd, RowsStop, least_behind}
pub use Rattle.tp_law_device.proofs.Cuts.{line_same, lines_same, nodes_same}
pub use Rattle.tp_law_device.proofs.CutsAreSound.{cut_lines, cut_nodes, cut_sound, cut_wires}
pub use Rattle.tp_law_device.proofs.Faults.{bind_ok, tested}
pub use Rattle.tp_law_device.proofs.Fronts.{front_behind, front_shorter, whole_front}
pub use Rattle.tp_law_device.proofs.Heads.{head_parts}
pub use Rattle.tp_law_device.proofs.Listings.{rows_at_same, rows_counted}
pub use Rattle.tp_law_device.proofs.Opens.{reads_of}
pub use Rattle.tp_law_device.proofs.ReadCuts.{lines_read}
pub use Rattle.tp_law_device.proofs.Replays.{entry_found}
pub use Rattle.tp_law_device.proofs.UnmarkedLines.{lines_unmarked, plain_lines}
pub use Rattle.tp_node.proofs.Answered.{image_read}
pub use Rattle.tp_node.specs.NodeContents.{NodeContents}
pub use Rattle.tp_net.proofs.Runs.{run_in_row}
pub use Rattle.tp_net.proofs.Topologies.{HasShape, has_shape}
pub use Rattle.tp_book.proofs.OpenedPorts.{opened_ports}
pub use Rattle.tp_book.specs.Counted.{AreCounted, IsCounted}
pub use Rattle.tp_book.specs.Joined.{FitsRoom}
pub use Rattle.tp_book.specs.Kept.{AreInRange}
pub use Rattle.tp_book.specs.Opened.{IsWellOpen, cut_of, now_of}
pub use Rattle.tp_book.specs.PortParts.{port_made}
pub use Rattle.tp_book.specs.Ports.{PortValue, opened_port}
pub use Rattle.tp_book.specs.declared.ports.port_parts.PortParts.{PortParts}
pub use Rattle.tp_book.specs.declared.state.NetState.{NetState}
pub use Rattle.tp_replay.proofs.Counted.{counted_next}
pub use Rattle.tp_replay.proofs.Counting.{counted_room}
pub use Rattle.tp_replay.proofs.Flat.{flat_next, markers_next}
pub use Rattle.tp_replay.proofs.History.{history_of}
pub use Rattle.tp_replay.proofs.Rows.{applied_is, group_done, group_from, row_damaged, row_replayed, rows_damaged, rows_on, rows_replayed}
pub use Rattle.tp_replay.specs.Answers.{AppliesEntry}
pub use Rattle.tp_replay.specs.Apart.{CanSplit, network_apart}
unfoldable pub use Rattle.tp_replay.specs.Counts.{room_of}
pub use Rattle.tp_replay.specs.Flat.{AreThawed, EntryTakesByte, IsFlat, network_flat}
pub use Rattle.tp_replay.specs.History.{IsHistory}
pub use Rattle.tp_replay.specs.Rows.{ReplaysRow}
pub use Rattle.tp_replay.specs.declared.fault.NotPossible.{NotPossible}
pub use Rattle.tp_replay.specs.declared.fault.ReplayFault.{ReplayFault}
pub use Rattle.tp_replay.specs.declared.fault.ReplayFault.TheVariants.{Damaged as Damages, Memory as WantsMemory}
pub use Rattle.tp_replay.specs.declared.pieces.apart.Apart.{Apart}
pub use Rattle.tp_disk.proofs.Calls.{and_then, call_leaves, started, weaker}
pub use Rattle.tp_disk.proofs.Readings.{read_gave}
pub use Rattle.tp_disk.specs.Reads.{AreTrue, WereTrue}
pub use Rattle.tp_area.proofs.Heads.{head_of-cut_off, head_of-faulty, head_of-read, head_of-short}
pub use Rattle.tp_area.proofs.Parts.{u16_at-take, u32_at-take, u64_at-drop, u64_at-take, u8_at-drop, u8_at-take}
pub use Rattle.tp_area.proofs.Ports.{port_with-take}
pub use Rattle.tp_area.proofs.PutLaws.{written_twice}
pub use Rattle.tp_area.proofs.Roomy.{group_fits_room, tail_fits_room}
pub use Rattle.tp_area.specs.Appended.{append_refusal}
pub use Rattle.tp_area.specs.Fronts.{area_front, cut_front, front_given}
pub use Rattle.tp_area.specs.Heads.{version_in}
pub use Rattle.tp_area.specs.Lines.{tokens_on}
pub use Rattle.tp_area.specs.Places.{place_at}
pub use Rattle.tp_area.specs.Ports.{port_said as record_of}
pub use Rattle.tp_area.specs.Tails.{tail_refusal}
pub use Rattle.tp_area.specs.declared.encoding.front.AreaFront.{AreaFront}
pub use Rattle.tp_area.specs.declared.encoding.front.CutFront.{CutFront}
pub use Rattle.tp_area.specs.declared.encoding.line.LineTokens.{LineTokens}
pub use Rattle.tp_area.specs.declared.layout_place.Places.{Places}
pub use Rattle.tp_area.specs.declared.place.Place.{Place}
