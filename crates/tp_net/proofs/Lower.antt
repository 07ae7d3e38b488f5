-- What proofs here name of the crates below.
pub use Rattle.indexmap.specs.IndexMap.{insert_entry}
pub use Rattle.indexmap.specs.IndexSet.{insert_key}
pub use Rattle.std.proofs.lemmas.Bool.{and_from, and_parts, and_right, both_ways, cases_Bool, cases_lt, cond-false, cond-true, eq-eqb, eqb-false, eqb-true, false_from_ne_true, false≢true, le-leb, le-ltb, leb-false, leb-true, lt-leb, lt-ltb, ltb-false, ltb-true, ne_eqb, not-false, or_cases, or_from, or_left, or_parts, or_right, true≢false}
pub use Rattle.std.proofs.lemmas.Int.Digits.{digits_value_more}
pub use Rattle.std.proofs.lemmas.Iterator.{items_from_collect}
pub use Rattle.std.proofs.lemmas.Iterator.Consumers.{YieldsList-end, YieldsList-from_copied, YieldsList-from_filter, YieldsList-from_rest, YieldsList-turn, map_from_collect}
pub use Rattle.std.proofs.lemmas.Iterator.Splits.{YieldsList-from_slice_split}
pub use Rattle.std.proofs.lemmas.List.{at_drop_all, at_drop_more, drop-drop, drop-take, drop_all, drop_at, drop_more, get_or-take, get_or_past, length-map, length-take, length_push, map-append, map-id, set_at, take-take, take_all, take_at, take_more}
pub use Rattle.std.proofs.lemmas.List.Folds.{concat-append}
pub use Rattle.std.proofs.lemmas.List.FromFn.{get_or-map-range_with_len, length-map-range_with_len, map-range_with_len_more}
pub use Rattle.std.proofs.lemmas.List.Quantifiers.{position-Some}
pub use Rattle.std.proofs.lemmas.List.Splits.{length-slice_split, slice_split_first}
pub use Rattle.std.proofs.lemmas.Option.{cond_some, get_or_from_slice_get, none-some, same_Some, slice_get_within}
pub use Rattle.std.proofs.lemmas.Result.{IfOk-weaker}
pub use Rattle.std.proofs.lemmas.Simd.{map-map}
pub use Rattle.std.proofs.lemmas.Str.{IsUtf8-from_ascii, digit_value_digit}
pub use Rattle.std.proofs.lemmas.Str.Parse.{digits_value-take-le}
pub use Rattle.std.specs.Borrow.{Bor}
pub use Rattle.std.specs.Char.{digit_value}
pub use Rattle.std.specs.List.{AllByRecursion, concat, list_all, list_any, onto_first, position_or_len, prefix_len, range_with_len, slice_split}
pub use Rattle.std.specs.Map.{keys_of}
pub use Rattle.std.specs.Option.{ok_or, option_copied, option_map}
pub use Rattle.std.specs.Simd.{first_chunks}
pub use Rattle.std.specs.Str.{IsAscii, IsUtf8}
pub use Rattle.std.specs.Str.Lines.{lines, lines_of_parts, strip_carriage_return}
pub use Rattle.std.specs.Str.Parse.{digits_value}
pub use Rattle.tp_model.specs.Bytes.{u16_at, u32_at, u64_at, u8_at}
pub use Rattle.tp_model.specs.CutImage.{only_if}
pub use Rattle.tp_model.specs.EntryBytes.{IsSpelt, entry_bytes, is_in_range, is_of, number_at, number_in}
unfoldable pub use Rattle.tp_model.specs.EntryBytes.{entry_at}
pub use Rattle.tp_model.specs.Group.{group_length, header, rows_of}
unfoldable pub use Rattle.tp_model.specs.Group.{group_body, rows_at}
pub use Rattle.tp_model.specs.Head.{end_number, first_port, head_nodes}
pub use Rattle.tp_model.specs.Markers.{has_marker, is_marker, plain}
pub use Rattle.tp_model.specs.Network.{line_of, receiver}
pub use Rattle.tp_model.specs.Replay.{row_entry}
pub use Rattle.tp_model.specs.Results.{◌>>=◌}
pub use Rattle.tp_model.specs.Topology.{Topology, end_of, is_end, is_line, is_page_count, joins_link, leads_back, line_count, node_count}
unfoldable pub use Rattle.tp_model.specs.Topology.{all_lead_back, is_topology}
pub use Rattle.tp_model.specs.TopologyText.{Said, after_ends, after_node, after_port, after_wire, after_words, are_ports, end_has_wire, end_named, finished, is_known, node_named, nothing_said, other_end, port_named, same_end, topology_of, wire_joined}
unfoldable pub use Rattle.tp_model.specs.TopologyText.{after_line, read_lines, read_text}
pub use Rattle.tp_model.specs.TopologyWords.{has_space_around, is_digit, is_letter, is_link_digit, is_name, is_name_byte, is_pages, is_skipped, named_end, named_parts, words}
pub use Rattle.tp_model.specs.declared.entry.Entry.{Entry}
pub use Rattle.tp_model.specs.declared.entry.Entry.TheVariants.{Run}
pub use Rattle.tp_model.specs.declared.form.Form.{Form}
pub use Rattle.tp_model.specs.declared.form.Form.TheVariants.{Plain, Turns}
pub use Rattle.tp_model.specs.declared.head.HeadVersion.{HeadVersion}
pub use Rattle.tp_model.specs.declared.head.HeadVersion.TheVariants.{Narrow, Wide}
pub use Rattle.tp_model.specs.declared.limits.TheConstants.{GATE_CLOSED, MAX_NAME, MAX_NODES, MAX_PAGES, MAX_PORTS, MIN_PAGES, NUMBER_LIMIT}
pub use Rattle.tp_model.specs.declared.link.Token.{Token}
pub use Rattle.tp_model.specs.declared.topology.NetFault.{NetFault}
pub use Rattle.tp_model.specs.declared.topology.NetFault.TheVariants.{Memory, Syntax, TooMany, TwoWires, UnknownNode}
pub use Rattle.tp_model.specs.declared.wire.WireEnd.{WireEnd}
pub use Rattle.tp_model.specs.declared.wire.WireEnd.TheVariants.{Link, Port as AtPort}
pub use Rattle.tp_law_machine.proofs.BytesRows.{count_at_is, length-rows_at, rows_behind-none, rows_behind_is}
pub use Rattle.tp_law_machine.proofs.EntryLaws.{entry_at-above, entry_at-none, entry_at-some, read_in, read_in-fields}
pub use Rattle.tp_law_machine.proofs.GroupLaws.{length-header}
pub use Rattle.tp_law_machine.specs.Fields.{entry_in}
