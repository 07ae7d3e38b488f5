-- What definitions and contracts here name of the crates below.
pub use Rattle.arrayvec.specs.ArrayVec.{array_vec_len}
pub use Rattle.std.specs.List.{AllByRecursion, list_all, range_with_len}
pub use Rattle.std.specs.Option.{is_some, option_map}
pub use Rattle.tp_model.specs.Areas.{ArePossible, Held, gate_closed, gate_open, with_more}
pub use Rattle.tp_model.specs.Bytes.{padded, u16_bytes, u32_at, u32_bytes, u64_at, u64_bytes, u8_at, zeros}
pub use Rattle.tp_model.specs.CopySpelt.{CopySpelt}
pub use Rattle.tp_model.specs.CutImage.{base_number, is_line_of, is_port_of, line_bytes, line_with, or_damaged, port_at, port_bytes, port_with, tokens_of}
pub use Rattle.tp_model.specs.Device.{area_start, areas_end, content_of, fits_device, gate_of, generation_of, is_open}
pub use Rattle.tp_model.specs.DeviceAreas.{device_areas, numbered, other_content}
pub use Rattle.tp_model.specs.Disk.{IsWithin, MayBe, Moment, SameOutside, Sync, Write, done, written}
pub use Rattle.tp_model.specs.DiskHistory.{Counts, IsSynced, LeavesOnly, State}
pub use Rattle.tp_model.specs.EntryBytes.{AreOf, IsSpelt}
pub use Rattle.tp_model.specs.Format.{IsFormatted, start_of}
pub use Rattle.tp_model.specs.Group.{group_bytes, group_length, rows_of}
unfoldable pub use Rattle.tp_model.specs.Group.{group_body}
pub use Rattle.tp_model.specs.Head.{Head, Head as Fields, all_wires, areas_of_length, end_number, end_of_number, first_port, head_length, head_nodes, head_pages, is_port, keeps_limits, magic, numbers_at, numbers_bytes, port_wire, version_byte, version_for, version_of}
unfoldable pub use Rattle.tp_model.specs.Head.{head_at, head_bytes, u16s_at}
pub use Rattle.tp_model.specs.Journal.{cut_length, entry_room, image_length, images_length, is_roomy, reserve, room}
pub use Rattle.tp_model.specs.Network.{Network, Port, on_line}
pub use Rattle.tp_model.specs.Node.{t414}
pub use Rattle.tp_model.specs.NodeState.{NodeState}
pub use Rattle.tp_model.specs.Numbers.{AreNumbered}
pub use Rattle.tp_model.specs.OpenedCopy.{opened_copy}
pub use Rattle.tp_model.specs.Opening.{Opened, base_of, form_at, form_of, front_in, groups_place, held_of, lines_place, next_of, nodes_place, ports_place}
unfoldable pub use Rattle.tp_model.specs.Opening.{chosen_area, verdict}
pub use Rattle.tp_model.specs.PiecesStand.{IsSized, IsThere, PiecesStand}
pub use Rattle.tp_model.specs.Replay.{Listing}
unfoldable pub use Rattle.tp_model.specs.Replay.{listing}
pub use Rattle.tp_model.specs.Results.{◌>>=◌}
pub use Rattle.tp_model.specs.Runs.{HasCut, World, copy_of}
pub use Rattle.tp_model.specs.Spelling.{IsGroup, are_lines, entries_in, has_record}
unfoldable pub use Rattle.tp_model.specs.Spelling.{front_bytes, groups_bytes}
pub use Rattle.tp_model.specs.StoreCalls.{Broke, Called, clear_calls, group_calls, put_calls, switch_calls, tail_calls}
pub use Rattle.tp_model.specs.Topology.{Topology, is_page_count, line_count}
unfoldable pub use Rattle.tp_model.specs.Topology.{is_topology}
pub use Rattle.tp_model.specs.Walks.{Walks}
pub use Rattle.tp_model.specs.WholeCut.{WholeCut, trimmed}
pub use Rattle.tp_model.specs.WriteOrder.{Resting}
pub use Rattle.tp_model.specs.declared.areas.TwoAreas.{TwoAreas}
pub use Rattle.tp_model.specs.declared.entry.Entry.{Entry}
pub use Rattle.tp_model.specs.declared.form.Form.{Form}
pub use Rattle.tp_model.specs.declared.form.Form.TheVariants.{Turns}
pub use Rattle.tp_model.specs.declared.head.HeadVersion.{HeadVersion}
pub use Rattle.tp_model.specs.declared.limits.TheConstants.{AREA_HEAD_BYTES, BASE_BYTES, GATE_CLOSED, GATE_OPEN, IMAGE_HEAD_BYTES, LINE_BYTES, MAX_GROUP, MAX_HELD, MAX_NODES, MAX_PAGES, MAX_PORTS, NARROW_HEAD_BYTES, NUMBER_LIMIT, PAGE_BYTES, PORT_BYTES}
pub use Rattle.tp_model.specs.declared.link.Token.{Token}
pub use Rattle.tp_model.specs.declared.link.Token.TheVariants.{Ack as Answer, Data as Byte}
pub use Rattle.tp_model.specs.declared.opening.OpenFault.{OpenFault}
pub use Rattle.tp_model.specs.declared.opening.OpenFault.TheVariants.{BadVersion, NotFormatted}
pub use Rattle.tp_law_network.specs.Standing.{RestsBetweenGroups}
pub use Rattle.tp_law_device.specs.InGroups.{in_groups}
pub use Rattle.tp_book.specs.PortParts.{port_made}
pub use Rattle.tp_disk.specs.Reads.{AreTrue, WereTrue}
