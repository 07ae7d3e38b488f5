-- What proofs here name of the crates below.
pub use Rattle.std.proofs.Math.Seq.{drop-length, take-append-add}
pub use Rattle.std.proofs.lemmas.Bool.{and_from, and_parts, cases_Bool, cases_lt, cond-false, cond-true, eq-eqb, eqb-true, le-leb, le-ltb, leb-true, lt-leb, lt-ltb, ltb-true, ne_eqb, true≢false}
pub use Rattle.std.proofs.lemmas.Grind.{flat_map-append}
pub use Rattle.std.proofs.lemmas.List.{drop-drop, drop-take, drop_all, drop_at, drop_more, get_or-append-add, get_or-drop, get_or-map, get_or-take, get_or_append_left, get_or_default, get_or_past, length-map, length-replicate, length-take-le, map_more, replicate-append-replicate, take-append-drop, take-replicate, take-take, take_all, take_at, take_min, take_more, take_rest}
pub use Rattle.std.proofs.lemmas.List.Folds.{concat-append, length-flat_map-take, list_all-append}
pub use Rattle.std.proofs.lemmas.List.FromFn.{map-range_with_len_more}
pub use Rattle.std.proofs.lemmas.List.Sums.{sum_by-cons}
pub use Rattle.std.proofs.lemmas.Nat.{from_le_bytes-to_le_bytes_4, from_le_bytes-to_le_bytes_8, le_bytes_2, le_bytes_8}
pub use Rattle.std.proofs.lemmas.Option.{cond_some, none-some, same_Some}
pub use Rattle.std.proofs.lemmas.Slice.Eq.{bytes_eq-Decides}
pub use Rattle.std.specs.Int.{from_le_bytes, w64}
pub use Rattle.std.specs.List.{AllByRecursion, concat, flat_map, list_all, range_with_len}
pub use Rattle.std.specs.Option.{option_map}
pub use Rattle.std.specs.Result.{result_ok}
pub use Rattle.tp_model.specs.Areas.{ArePossible, Areas, AreasHold, Held, gate_closed, gate_open, with_more}
pub use Rattle.tp_model.specs.Bytes.{padded, u16_at, u16_bytes, u32_at, u32_bytes, u64_at, u64_bytes, u8_at, zeros}
pub use Rattle.tp_model.specs.CopySpelt.{CopySpelt}
pub use Rattle.tp_model.specs.CutImage.{base_number, is_line_of, is_port_of, line_bytes, only_if, or_damaged, port_at, port_bytes, port_with}
unfoldable pub use Rattle.tp_model.specs.CutImage.{cut_bytes}
pub use Rattle.tp_model.specs.Device.{area_start, areas_end, content_of, fits_device, gate_of, generation_of, is_open}
pub use Rattle.tp_model.specs.DeviceAreas.{can_add, device_areas, has_room as has_room_in, if_newer, numbered, other_content, other_is_open, other_start}
unfoldable pub use Rattle.tp_model.specs.DeviceAreas.{group_of, open_other_of, other_of, spare_of}
pub use Rattle.tp_model.specs.Disk.{AreWithin, IsWithin, MayBe, Moment, Read, SameOutside, Sync, Write, done, within, written}
pub use Rattle.tp_model.specs.DiskHistory.{Fails, IsSynced, LeavesOnly, MomentPassed, State}
pub use Rattle.tp_model.specs.EndBytes.{in_end_at, is_idle_in, is_idle_out, out_end_at}
unfoldable pub use Rattle.tp_model.specs.EndBytes.{ends_at}
unfoldable pub use Rattle.tp_model.specs.Entries.{next}
pub use Rattle.tp_model.specs.EntryBytes.{AreOf, IsSpelt, entry_bytes, is_of, is_spelt}
pub use Rattle.tp_model.specs.Format.{IsFormatted, fresh_node, fresh_port}
unfoldable pub use Rattle.tp_model.specs.Format.{fresh_nodes}
pub use Rattle.tp_model.specs.Group.{group_length, header, rows_of}
unfoldable pub use Rattle.tp_model.specs.Group.{group_body}
pub use Rattle.tp_model.specs.Head.{Head, all_wires, areas_of_length, end_number, end_of_number, ends_place, first_port, head_length, head_nodes, head_pages, head_with, is_head, keeps_limits, magic, numbers_at, numbers_bytes, port_wire, version_byte, version_for, version_of}
unfoldable pub use Rattle.tp_model.specs.Head.{head_at, head_bytes, head_of, u16s_at}
pub use Rattle.tp_model.specs.Image.{has_idle_links, is_memory, page_count}
unfoldable pub use Rattle.tp_model.specs.Image.{image, image_head, is_node, node_at, node_of}
pub use Rattle.tp_model.specs.Journal.{cut_length, entry_room, image_length, is_roomy, reserve, room}
pub use Rattle.tp_model.specs.Network.{Machine, Network, Port, ◌>>=◌}
pub use Rattle.tp_model.specs.Node.{t414, t414_ends}
pub use Rattle.tp_model.specs.NodeState.{NodeState}
pub use Rattle.tp_model.specs.Numbers.{AreNumbered}
pub use Rattle.tp_model.specs.OpenedCopy.{opened_copy}
pub use Rattle.tp_model.specs.Opening.{Opened, base_field, base_of, choice, form_at, form_of, groups_place, held_of, lines_place, network_of, next_of, nodes_place, ports_place}
unfoldable pub use Rattle.tp_model.specs.Opening.{area_in, chosen_area, opening, verdict}
pub use Rattle.tp_model.specs.PiecesStand.{IsSized, IsThere, PiecesStand}
pub use Rattle.tp_model.specs.Replay.{Listing, Replay, after_row, group_rows_at, is_number, replay_from, row_entry, with_entry}
unfoldable pub use Rattle.tp_model.specs.Replay.{after_rows, listing}
pub use Rattle.tp_model.specs.Runs.{CopiesTail, HasCut, Trims, World, copy_of}
pub use Rattle.tp_model.specs.Sound.{EndsSeen}
pub use Rattle.tp_model.specs.Spelling.{IsGroup, are_lines, entries_in, has_record}
unfoldable pub use Rattle.tp_model.specs.Spelling.{front_bytes, groups_bytes}
pub use Rattle.tp_model.specs.StoreCalls.{Broke, Called, all_done, clear_calls, group_calls, put_calls, switch_calls, tail_calls}
pub use Rattle.tp_model.specs.Topology.{Topology, is_end, is_page_count, joins_link, leads_back, line_count, node_count}
unfoldable pub use Rattle.tp_model.specs.Topology.{all_lead_back, is_topology}
pub use Rattle.tp_model.specs.Walks.{Walks}
pub use Rattle.tp_model.specs.WholeCut.{WholeCut}
pub use Rattle.tp_model.specs.WriteOrder.{Opened as AtOpened, Resting, Tail}
pub use Rattle.tp_model.specs.declared.areas.TwoAreas.{TwoAreas}
pub use Rattle.tp_model.specs.declared.entry.Entry.{Entry}
pub use Rattle.tp_model.specs.declared.form.Form.{Form}
pub use Rattle.tp_model.specs.declared.form.Form.TheVariants.{Turns}
pub use Rattle.tp_model.specs.declared.head.HeadVersion.{HeadVersion}
pub use Rattle.tp_model.specs.declared.head.HeadVersion.TheVariants.{Narrow, Wide}
pub use Rattle.tp_model.specs.declared.limits.TheConstants.{AREA_HEAD_BYTES, BASE_BYTES, GATE_CLOSED, GATE_OPEN, IMAGE_HEAD_BYTES, LINE_BYTES, MAX_GROUP, MAX_HELD, MAX_NODES, MAX_PAGES, MAX_PORTS, MIN_PAGES, NARROW_HEAD_BYTES, NUMBER_LIMIT, PAGE_BYTES, PORT_BYTES, WIDE_HEAD_BYTES}
pub use Rattle.tp_model.specs.declared.link.Token.{Token}
pub use Rattle.tp_model.specs.declared.opening.OpenFault.{OpenFault}
pub use Rattle.tp_model.specs.declared.opening.OpenFault.TheVariants.{Damaged, NotFormatted}
pub use Rattle.tp_model.specs.declared.wire.WireEnd.{WireEnd}
pub use Rattle.tp_model.specs.declared.wire.WireEnd.TheVariants.{Link, Port as AtPort}
pub use Rattle.tp_law_machine.proofs.Images.{image-node_of}
pub use Rattle.tp_law_machine.proofs.Moments.{may_be_written}
pub use Rattle.tp_law_machine.proofs.Partial.{cond_some as tested, map_some}
pub use Rattle.tp_law_machine.specs.ReadBack.{Rise}
pub use Rattle.tp_law_network.proofs.Device.{body_may, body_synced, body_within, body_written, clear_may, clear_synced, clear_within, clear_written, gate_may, gate_synced, gate_within, gate_written, put_done, put_may, put_room, rests_may, switch_may, switch_synced, switch_within, switch_written}
pub use Rattle.tp_law_network.proofs.Moments.{get_or-written_inside}
pub use Rattle.tp_law_network.proofs.Planned.{clear_walks, pieces_walk, switch_walks, tail_walks}
pub use Rattle.tp_law_network.proofs.Walks.{one_step, still_walks, walks_then}
pub use Rattle.tp_law_network.specs.Standing.{RestsBetweenGroups}
pub use Rattle.tp_law_device.proofs.AreaReads.{area_parts, groups_in, length-numbered, opened_of, rise_numbered}
pub use Rattle.tp_law_device.proofs.Contents.{drop_there, length-content_of}
pub use Rattle.tp_law_device.proofs.Cuts.{outputs_count, pending_count}
pub use Rattle.tp_law_device.proofs.Faults.{bind_ok, or_damaged_ok}
pub use Rattle.tp_law_device.proofs.Forms.{base_back, base_number_below, form_back}
pub use Rattle.tp_law_device.proofs.Fronts.{SameFront as BeginsAlike, front_from, u16_front, u32_front, u64_front, whole_front}
pub use Rattle.tp_law_device.proofs.GroupsFit.{verdict_has_room}
pub use Rattle.tp_law_device.proofs.Heads.{HeadParts, head_at_same, head_long, head_parts, keeps_nodes, length-u16s_at}
pub use Rattle.tp_law_device.proofs.Holds.{areas_keep}
pub use Rattle.tp_law_device.proofs.Listings.{behind_rows, length-group_body, length-group_bytes, listing_ends, listing_group, listing_split}
pub use Rattle.tp_law_device.proofs.Opens.{held_from}
pub use Rattle.tp_law_device.proofs.Pieces.{there_kept, there_whole, there_written}
pub use Rattle.tp_law_device.proofs.Places.{content_elsewhere, content_put}
pub use Rattle.tp_law_device.proofs.Replays.{entry_found}
pub use Rattle.tp_law_device.proofs.SpeltAreas.{listing_groups, rows_listed, rows_of_groups}
pub use Rattle.tp_law_device.proofs.SpeltCuts.{cut_fits, length-lines, length-ports}
pub use Rattle.tp_law_device.proofs.Switch.{copy_opens, copy_stands}
pub use Rattle.tp_law_device.proofs.TailGroups.{AreSpelt, parted_bytes, parted_entries, parted_groups}
pub use Rattle.tp_law_device.specs.InGroups.{in_groups}
unfoldable pub use Rattle.tp_law_device.specs.InGroups.{parted}
pub use Rattle.tp_node.proofs.Answered.{image_read}
pub use Rattle.tp_node.specs.FromImage.{ReadsImage}
pub use Rattle.tp_node.specs.NodeContents.{NodeContents}
pub use Rattle.tp_net.proofs.Topologies.{end_number-bound, has_shape}
pub use Rattle.tp_net.specs.Parts.{if_topology, parts}
pub use Rattle.tp_net.specs.declared.ends.TheConstants.{MAX_LINES}
pub use Rattle.tp_book.specs.PortParts.{port_made}
pub use Rattle.tp_book.specs.declared.ports.port_parts.PortParts.{PortParts}
pub use Rattle.tp_disk.proofs.Agree.{inside_written, same_apart, same_in, same_refl, same_sym, same_trans, same_wider}
pub use Rattle.tp_disk.proofs.Calls.{AllWithin, all_done-append, and_then, broke_first, broke_later, broke_one, call_leaves, called_one, called_then, calls_leave, same_outside_write, started, synced_stands, weaker, written_through}
pub use Rattle.tp_disk.proofs.Moments.{length-written, outside_last, written_same_outside}
pub use Rattle.tp_disk.proofs.Readings.{read_kept, read_true, same_kept}
