-- What definitions and contracts here name of the crates below.
pub use Rattle.arrayvec.specs.ArrayVec.{array_vec_len}
pub use Rattle.indexmap.specs.IndexMap.{IndexMap}
pub use Rattle.indexmap.specs.IndexSet.{IndexSet}
pub use Rattle.std.specs.Borrow.{Bor}
pub use Rattle.std.specs.List.{AllByRecursion, concat, list_all, slice_split}
pub use Rattle.std.specs.Option.{ok_or, option_map}
pub use Rattle.std.specs.Str.Lines.{lines, strip_carriage_return}
pub use Rattle.std.specs.Str.Parse.{digits_value}
pub use Rattle.tp_model.specs.Bytes.{u16_at, u16_bytes, u32_at, u64_bytes, u8_at, zeros}
pub use Rattle.tp_model.specs.EntryBytes.{IsSpelt, data_byte, data_bytes, digit, digits, entry_bytes, fields, is_in_range, is_of, is_received, is_token, number_at, number_in, received_of, takes_of}
unfoldable pub use Rattle.tp_model.specs.EntryBytes.{entry_at}
pub use Rattle.tp_model.specs.Group.{group_at, group_length, header, rises, rows_of}
unfoldable pub use Rattle.tp_model.specs.Group.{group_body, rows_at, rows_behind}
pub use Rattle.tp_model.specs.Markers.{has_marker, is_marker, plain}
pub use Rattle.tp_model.specs.Network.{line_of, on_line, receiver}
pub use Rattle.tp_model.specs.Replay.{row_entry}
pub use Rattle.tp_model.specs.Topology.{Topology, end_of, is_end, is_line, is_page_count, joins_link, leads_back, line_count}
unfoldable pub use Rattle.tp_model.specs.Topology.{all_lead_back, is_topology}
pub use Rattle.tp_model.specs.TopologyText.{Said, Said as Words, after_ends, after_node, after_port, after_wire, after_words, are_ports, end_has_wire, end_named, finished, is_known, node_named, nothing_said, other_end, port_named, same_end, topology_of, wire_joined}
unfoldable pub use Rattle.tp_model.specs.TopologyText.{after_line, read_lines, read_text}
pub use Rattle.tp_model.specs.TopologyWords.{has_space_around, is_digit, is_letter, is_link_digit, is_name, is_name_byte, is_pages, is_skipped, named_end, words}
pub use Rattle.tp_model.specs.Turn.{by_link}
pub use Rattle.tp_model.specs.declared.limits.TheConstants.{MAX_NODES, MAX_PORTS, NUMBER_LIMIT}
pub use Rattle.tp_model.specs.declared.topology.NetFault.{NetFault}
pub use Rattle.tp_model.specs.declared.topology.NetFault.TheVariants.{Memory}
pub use Rattle.tp_model.specs.declared.wire.WireEnd.{WireEnd}
pub use Rattle.tp_law_machine.specs.Counts.{count_at}
pub use Rattle.tp_law_machine.specs.Fields.{entry_in, if_spelling, token_fields, token_in, turn_in}
