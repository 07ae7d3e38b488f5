-- What proofs here name of the crates below.
pub use Rattle.std.proofs.Math.Seq.{take-append-add}
pub use Rattle.std.proofs.lemmas.Bool.{and_from, and_parts, both_ways, cases_Bool, cases_eq, cases_lt, cond-false, cond-true, cond_both, eq-eqb, eqb-true, false_from_ne_true, false≢true, le-leb, le-ltb, leb-true, lt-ltb, ltb-false, ltb-true, ne_eqb, not-false, not_from_false, true≢false}
pub use Rattle.std.proofs.lemmas.Grind.{same_number_lists}
pub use Rattle.std.proofs.lemmas.List.{drop-drop, drop-map, drop-take, drop_at, drop_more, ext_get_or, get_or-append_right, get_or-drop, get_or-map, get_or-take, get_or_append_left, get_or_at, get_or_past, length-map, length-replicate, length_push, map-append, map_push, take-append-drop, take-map, take-take, take_all, take_at}
pub use Rattle.std.proofs.lemmas.List.FromFn.{get_or-map-range_with_len, length-range_with_len}
pub use Rattle.std.proofs.lemmas.List.Sums.{position_or_len_is, sum_by-cons}
pub use Rattle.std.proofs.lemmas.Nat.{from_le_bytes-to_le_bytes_2, from_le_bytes-to_le_bytes_4, from_le_bytes-to_le_bytes_8, le_bytes_4, le_bytes_8}
pub use Rattle.std.proofs.lemmas.Option.{slice_get_within}
pub use Rattle.std.proofs.lemmas.Slice.Eq.{bytes_eq-Decides}
pub use Rattle.std.specs.Int.{Width, byte_len, byte_worth, from_le_bytes, sum_through, w16, w32, w64}
pub use Rattle.std.specs.List.{AllByRecursion, concat, count_by, list_all, position_or_len, range_with_len}
pub use Rattle.std.specs.Option.{option_and_then, option_map}
pub use Rattle.std.specs.Result.{result_ok}
pub use Rattle.tp_model.specs.Acknowledged.{IsAcknowledged}
pub use Rattle.tp_model.specs.Acts.{Act, Begin, Close, CutHolds, IsOpened, Journal, Record, Trim}
unfoldable pub use Rattle.tp_model.specs.Acts.{acted, happens}
pub use Rattle.tp_model.specs.Areas.{ArePossible, AreasHold, Held, gate_closed, gate_open, next_number, with_more}
pub use Rattle.tp_model.specs.Bytes.{padded, u16_at, u16_bytes, u32_at, u32_bytes, u64_at, u64_bytes, u8_at, zeros}
pub use Rattle.tp_model.specs.CopySpelt.{CopySpelt}
pub use Rattle.tp_model.specs.Counted.{accepted, came_out, is_input, is_output}
pub use Rattle.tp_model.specs.CutImage.{base_number, form_number, is_line_of, is_port_of, is_record, line_bytes, line_with, node_with, only_if, or_damaged, port_at, port_bytes, port_with, tokens_at, tokens_of}
unfoldable pub use Rattle.tp_model.specs.CutImage.{cut_bytes, lines_in, nodes_in, ports_in}
pub use Rattle.tp_model.specs.CutOrder.{HasOrder}
pub use Rattle.tp_model.specs.CutTail.{tail_of}
pub use Rattle.tp_model.specs.Device.{area_start, areas_end, content_of, fits_device, gate_of, generation_of, is_open}
pub use Rattle.tp_model.specs.DeviceAreas.{areas_of, can_add, device_areas, has_room, if_newer, numbered, other_content, other_is_open, other_start}
unfoldable pub use Rattle.tp_model.specs.DeviceAreas.{group_of, open_other_of, other_of, spare_of}
pub use Rattle.tp_model.specs.Disk.{Call, IsWithin, MayBe, Moment, Sync, Write, done, within, written}
pub use Rattle.tp_model.specs.EndBytes.{is_idle_in, is_idle_out}
unfoldable pub use Rattle.tp_model.specs.EndBytes.{ends_at}
pub use Rattle.tp_model.specs.Entries.{HasFourLinks, acked, confirmed, first_only, handed_in, in_flight, of_node, port_took}
unfoldable pub use Rattle.tp_model.specs.Entries.{acts, does, next, of_port, process, receives, takes}
pub use Rattle.tp_model.specs.EntryBytes.{AreOf, IsSpelt, entry_bytes, is_in_range, is_of, is_received, is_spelt, is_token}
unfoldable pub use Rattle.tp_model.specs.EntryBytes.{entry_at}
pub use Rattle.tp_model.specs.Flight.{is_in_one_place}
unfoldable pub use Rattle.tp_model.specs.Flight.{flights_in}
pub use Rattle.tp_model.specs.Format.{fresh_node, fresh_port, start_of}
unfoldable pub use Rattle.tp_model.specs.Format.{fresh_nodes}
pub use Rattle.tp_model.specs.FrozenAs.{IsFrozenAs}
pub use Rattle.tp_model.specs.Group.{group_bytes, group_length, header, or_bad, rises, rows_of}
unfoldable pub use Rattle.tp_model.specs.Group.{group_body, rows_at, rows_behind}
pub use Rattle.tp_model.specs.Head.{Head, all_wires, areas_of_length, end_number, end_of_number, ends_place, first_port, head_length, head_nodes, head_pages, head_with, is_head, is_port, keeps_limits, magic, numbers_at, numbers_bytes, port_wire, version_byte, version_for, version_of}
unfoldable pub use Rattle.tp_model.specs.Head.{head_at, head_bytes, head_of, u16s_at}
pub use Rattle.tp_model.specs.Image.{IsNode, has_idle_links, is_memory, page_count}
unfoldable pub use Rattle.tp_model.specs.Image.{image, image_head, is_node, node_at, node_of}
pub use Rattle.tp_model.specs.Journal.{cut_length, entry_room, has_no_numbers, image_length, images_length, is_roomy, reserve, room}
pub use Rattle.tp_model.specs.KeptRun.{ActKeeps, HasByte, IsKept, KeptRun, TakesByte}
pub use Rattle.tp_model.specs.Markers.{before, markers, plain, plain_network}
pub use Rattle.tp_model.specs.Network.{Machine, Network, OfHost, OfNode, Own, Port, back, has_wire, is_wired, line_of, on_line, receiver}
unfoldable pub use Rattle.tp_model.specs.Network.{own, pushed, put, sent, steps, taken}
pub use Rattle.tp_model.specs.Node.{t414, t414_ends}
unfoldable pub use Rattle.tp_model.specs.Node.{node_step, took}
pub use Rattle.tp_model.specs.NodeState.{NodeState}
pub use Rattle.tp_model.specs.Numbers.{AreNumbered}
pub use Rattle.tp_model.specs.OpenedCopy.{opened_copy}
pub use Rattle.tp_model.specs.Opening.{Opened, StandsFor, base_field, base_of, choice, closed_in, form_at, form_of, front_in, groups_place, has_front, held_of, lines_place, network_of, next_of, nodes_place, ports_place}
unfoldable pub use Rattle.tp_model.specs.Opening.{area_in, chosen_area, cut_in, opening, verdict}
pub use Rattle.tp_model.specs.OpensTo.{OpensTo, book_of}
pub use Rattle.tp_model.specs.Order.{post, pre}
unfoldable pub use Rattle.tp_model.specs.Order.{after, chosen, made}
pub use Rattle.tp_model.specs.PiecesStand.{IsSized, IsThere, PiecesStand}
pub use Rattle.tp_model.specs.Replay.{Listing, Replay, after_entry, after_row, at_open_gate, group_rows_at, is_number, replay_from, row_entry, with_entry, with_group}
unfoldable pub use Rattle.tp_model.specs.Replay.{after_rows, listing}
pub use Rattle.tp_model.specs.Results.{◌>>=◌}
pub use Rattle.tp_model.specs.Runs.{Acts, BeginsFormatted, Breaks, Copies, CopiesTail, Does, Event, HasCut, Raises, Reads, Reads as ReadsMark, Recovers, Reopens, Run, Step, Trims, World, copy_of, fresh, grown, is_trim}
pub use Rattle.tp_model.specs.Snapshot.{MarkedNetwork, Snapshot, closed_over, collected, count_of, first_snapshot, has_recorded, is_closed, with_count}
pub use Rattle.tp_model.specs.Sound.{EndsSeen, Sound, Wired, acks, datas, end_holds, end_waits, holds_at, is_pending, owner, waits_at}
pub use Rattle.tp_model.specs.Spelling.{DeviceSpells, IsCut, IsGroup, SpellsArea, are_lines, entries_in, has_record}
unfoldable pub use Rattle.tp_model.specs.Spelling.{front_bytes, groups_bytes}
unfoldable pub use Rattle.tp_model.specs.Step.{step_of}
pub use Rattle.tp_model.specs.StoreCalls.{all_done, put_calls}
pub use Rattle.tp_model.specs.TailRoom.{FindsRoom, HasTailRoom}
pub use Rattle.tp_model.specs.Topology.{Topology, end_of, is_end, is_line, is_page_count, joins_link, leads_back, line_count, node_count}
unfoldable pub use Rattle.tp_model.specs.Topology.{all_lead_back, is_topology}
pub use Rattle.tp_model.specs.Turn.{by_link}
unfoldable pub use Rattle.tp_model.specs.Turn.{took_all, turned}
pub use Rattle.tp_model.specs.WholeCut.{WholeCut, all_some, count_in, network_in, trimmed}
unfoldable pub use Rattle.tp_model.specs.WholeCut.{whole}
pub use Rattle.tp_model.specs.Word.{bit}
pub use Rattle.tp_model.specs.WriteOrder.{Allows, Body, Broken, Cleared, Gate, Opened as AfterOpening, Opening, Position, Ready, Resting, Tail, add_body, add_gate, body_done, clear_done, clearing, gate_done, left, reached, switch_done, switching}
pub use Rattle.tp_model.specs.declared.areas.TwoAreas.{TwoAreas}
pub use Rattle.tp_model.specs.declared.entry.Entry.{Entry}
pub use Rattle.tp_model.specs.declared.entry.Entry.TheVariants.{Confirm, HostIn, Run as Ran, Take, Turn}
pub use Rattle.tp_model.specs.declared.form.Form.{Form}
pub use Rattle.tp_model.specs.declared.form.Form.TheVariants.{Plain, Turns}
pub use Rattle.tp_model.specs.declared.head.HeadVersion.{HeadVersion}
pub use Rattle.tp_model.specs.declared.head.HeadVersion.TheVariants.{Narrow, Wide}
pub use Rattle.tp_model.specs.declared.limits.TheConstants.{AREA_HEAD_BYTES, ENTRY_BYTES, ENTRY_LINES, ENTRY_NODES, GATE_CLOSED, GATE_OPEN, GROUP_HEAD_BYTES, IMAGE_HEAD_BYTES, MAX_GROUP, MAX_HELD, MAX_NODES, MAX_PAGES, MAX_PORTS, MAX_STEPS, MIN_PAGES, NARROW_HEAD_BYTES, NUMBER_LIMIT, PAGE_BYTES, PLAIN_FORM, TURNS_FORM, WIDE_HEAD_NODES, WIDE_HEAD_PAGES}
pub use Rattle.tp_model.specs.declared.link.Received.{Received, Received as Taken}
pub use Rattle.tp_model.specs.declared.link.Received.TheVariants.{AckThenData, DataThenAck, JustAck, JustData, Nothing}
pub use Rattle.tp_model.specs.declared.link.Token.{Token}
pub use Rattle.tp_model.specs.declared.link.Token.TheVariants.{Ack, Data, Marker}
pub use Rattle.tp_model.specs.declared.opening.OpenFault.{OpenFault}
pub use Rattle.tp_model.specs.declared.opening.OpenFault.TheVariants.{Damaged, NotFormatted}
pub use Rattle.tp_model.specs.declared.wire.WireEnd.{WireEnd}
pub use Rattle.tp_model.specs.declared.wire.WireEnd.TheVariants.{Link, Port as AtPort}
pub use Rattle.tp_law_machine.proofs.BytesRows.{length-rows_at}
pub use Rattle.tp_law_machine.proofs.EntryLaws.{entry_at-bytes, entry_at-entry_bytes}
pub use Rattle.tp_law_machine.proofs.Faults.{none_or}
pub use Rattle.tp_law_machine.proofs.FieldEntries.{length-entry_bytes}
pub use Rattle.tp_law_machine.proofs.GroupLaws.{group_at-are, group_at-group_bytes, length-header, or_bad-some}
pub use Rattle.tp_law_machine.proofs.Idle.{none_holds, none_waits}
pub use Rattle.tp_law_machine.proofs.Imaged.{rules_of}
pub use Rattle.tp_law_machine.proofs.Images.{image-node_of, is_node-node_of, node_of-image, node_of_bytes}
pub use Rattle.tp_law_machine.proofs.LinkLaws.{has_four_links, keeps_flight, never_marks}
pub use Rattle.tp_law_machine.proofs.Moments.{loose_may, may_be_written}
pub use Rattle.tp_law_machine.proofs.Nodes.{length-node_steps, length-node_took, node_steps, node_took}
pub use Rattle.tp_law_machine.proofs.Numbers.{AreBytes, are_bytes-append, are_bytes-drop, are_bytes-take, byte_below}
pub use Rattle.tp_law_machine.proofs.Partial.{all_at, all_set}
pub use Rattle.tp_law_machine.proofs.ReplayedRows.{after_rows-append}
pub use Rattle.tp_law_machine.specs.NodeOfBytes.{CarriesByte, IsNodeOfBytes}
pub use Rattle.tp_law_machine.specs.OneNode.{one_after, one_before, one_node}
pub use Rattle.tp_law_machine.specs.ReadBack.{AreSpellings, Rise}
pub use Rattle.tp_law_machine.specs.Transfers.{awaits, sending_node}
pub use Rattle.tp_law_network.proofs.Acknowledged.{acknowledged}
pub use Rattle.tp_law_network.proofs.Acts.{begin_parts, close_parts, journal_parts, record_parts}
pub use Rattle.tp_law_network.proofs.Begin.{made_past}
pub use Rattle.tp_law_network.proofs.Choice.{chosen-map, chosen_keeps, length-pre-post, post_all}
pub use Rattle.tp_law_network.proofs.Counted.{after_counted}
pub use Rattle.tp_law_network.proofs.CutsMarks.{plain_unmarked}
pub use Rattle.tp_law_network.proofs.Happens.{acted_holds, cut_after, happens_holds, opened_holds, whole_after}
pub use Rattle.tp_law_network.proofs.History.{crash_order, journal_leads, kept_leads, stays_sound, three_tokens}
pub use Rattle.tp_law_network.proofs.InPlace.{flights_found, sound_in_place}
pub use Rattle.tp_law_network.proofs.Invariant.{At, Inv}
pub use Rattle.tp_law_network.proofs.Kept.{cut_network}
pub use Rattle.tp_law_network.proofs.Local.{next_shape, own-lines, own_host, own_node, port_step, turn_step}
pub use Rattle.tp_law_network.proofs.Moments.{get_or-written_inside, get_or-written_outside, length-written}
pub use Rattle.tp_law_network.proofs.Numbers.{numbered_outside}
pub use Rattle.tp_law_network.proofs.Partial.{all_append, bind_some, cond_some, map_some, slice_get-set_other}
pub use Rattle.tp_law_network.proofs.Plain.{step_markers}
pub use Rattle.tp_law_network.proofs.Planned.{tail_run}
pub use Rattle.tp_law_network.proofs.PortsKeep.{ports_keep}
pub use Rattle.tp_law_network.proofs.Prefix.{held_of as kept_of}
pub use Rattle.tp_law_network.proofs.Reorder.{after_first, after_front, after_last, after_shape, first_possible}
pub use Rattle.tp_law_network.proofs.Runs.{formatted_holds, goes_on, reopened_holds, run_recovers, snapshots, step_keeps}
pub use Rattle.tp_law_network.proofs.SmallHolds.{IsOut}
pub use Rattle.tp_law_network.proofs.Sound.{sound_after, sound_kept, sound_small}
pub use Rattle.tp_law_network.proofs.Stay.{stays}
pub use Rattle.tp_law_network.proofs.Stays.{entries_grow, start_stays, whole_counts}
pub use Rattle.tp_law_network.proofs.Swap.{swaps_agree}
pub use Rattle.tp_law_network.proofs.Walks.{acts_run, run_then}
pub use Rattle.tp_law_network.proofs.Whole.{all_counts, whole_holds}
pub use Rattle.tp_law_network.specs.Invariant.{CutInvariant}
pub use Rattle.tp_law_network.specs.Planned.{moved_on}
