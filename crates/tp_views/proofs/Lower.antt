-- What proofs here name of the crates below.
pub use Rattle.std.proofs.Math.Seq.{drop-append_seam, take-add, take-append_seam}
pub use Rattle.std.proofs.lemmas.Bool.{and_parts, and_right, cases_lt, cond-false, cond-true, eqb-true, leb-false, leb-true, lt-leb, or_cases}
pub use Rattle.std.proofs.lemmas.Bool.Decides.{nat_tests}
pub use Rattle.std.proofs.lemmas.Grind.{common_steps}
pub use Rattle.std.proofs.lemmas.Int.Digits.{digits_value-lt}
pub use Rattle.std.proofs.lemmas.List.{at_drop_more, drop-drop, drop_all, get_or_past, length-map, length-replicate, length-take, map-set, take-append-drop, take_all, take_rest}
pub use Rattle.std.proofs.lemmas.Option.{slice_get-map, slice_get_past, slice_get_read}
pub use Rattle.std.proofs.lemmas.Str.{IsUtf8-from_ascii, IsUtf8-from_is_utf8, is_utf8-from_IsUtf8}
pub use Rattle.std.specs.Borrow.{Bor}
pub use Rattle.std.specs.Char.{digit_value}
pub use Rattle.std.specs.Io.KnownBytes.{Appends}
pub use Rattle.std.specs.List.{AllByRecursion, list_all, slice_split}
pub use Rattle.std.specs.Option.{option_map, unwrap_or}
pub use Rattle.std.specs.Str.{IsAscii, IsUtf8}
unfoldable pub use Rattle.std.specs.Str.{is_utf8}
pub use Rattle.std.specs.Str.Parse.{AllDigits, IsNumeral, ParsesUnsigned, digits_value, without_leading_plus}
pub use Rattle.std.specs.declared.alloc.Global.{Global}
pub use Rattle.std.specs.declared.string.String.{String}
pub use Rattle.tp_model.specs.Bytes.{u32_at}
pub use Rattle.tp_model.specs.Device.{area_start, content_of, generation_of}
pub use Rattle.tp_model.specs.Disk.{Moment, Sync, done}
pub use Rattle.tp_model.specs.DiskHistory.{Counts, State}
pub use Rattle.tp_model.specs.EndBytes.{in_end_at, out_end_at}
unfoldable pub use Rattle.tp_model.specs.Entries.{process}
pub use Rattle.tp_model.specs.Head.{Head}
unfoldable pub use Rattle.tp_model.specs.Head.{head_of}
unfoldable pub use Rattle.tp_model.specs.Image.{node_at, node_of}
pub use Rattle.tp_model.specs.Memory.{offset}
pub use Rattle.tp_model.specs.Network.{Network, Port, process_at}
unfoldable pub use Rattle.tp_model.specs.Network.{steps}
pub use Rattle.tp_model.specs.Node.{t414, t414_ends}
unfoldable pub use Rattle.tp_model.specs.Node.{node_step}
pub use Rattle.tp_model.specs.NodeState.{NodeState}
unfoldable pub use Rattle.tp_model.specs.NodeWrites.{node_ranges}
pub use Rattle.tp_model.specs.Numbers.{AreNumbered}
pub use Rattle.tp_model.specs.Opening.{Opened, base_of, closed_in, front_in, groups_place}
unfoldable pub use Rattle.tp_model.specs.Opening.{area_in, chosen_area, cut_in, opening, verdict}
pub use Rattle.tp_model.specs.Replay.{replay_from}
unfoldable pub use Rattle.tp_model.specs.Replay.{after_rows, listing}
pub use Rattle.tp_model.specs.Results.{◌>>=◌}
pub use Rattle.tp_model.specs.SharedPages.{LacksFrames}
pub use Rattle.tp_model.specs.Topology.{Topology}
pub use Rattle.tp_model.specs.TopologyWords.{is_digit}
pub use Rattle.tp_model.specs.declared.entry.Entry.{Entry}
pub use Rattle.tp_model.specs.declared.link.Token.{Token}
pub use Rattle.tp_model.specs.declared.opening.OpenFault.{OpenFault}
pub use Rattle.tp_model.specs.declared.processor.Cpu.{Cpu}
pub use Rattle.tp_model.specs.declared.wire.WireEnd.{WireEnd}
pub use Rattle.tp_law_machine.proofs.Images.{node_of-image, node_of_bytes}
pub use Rattle.tp_law_machine.proofs.Nodes.{node_steps}
pub use Rattle.tp_law_machine.proofs.Numbers.{are_bytes}
pub use Rattle.tp_law_machine.proofs.Partial.{bind_some}
pub use Rattle.tp_law_machine.specs.NodeOfBytes.{IsNodeOfBytes}
pub use Rattle.tp_node.proofs.Answered.{image_read, image_thawed, lacking_frozen, why_fewer, why_most}
pub use Rattle.tp_node.proofs.EndsAsBytes.{four_ends_apart}
pub use Rattle.tp_node.specs.FromImage.{ReadsImage}
pub use Rattle.tp_node.specs.NodeContents.{NodeContents, memory_kept}
pub use Rattle.tp_node.specs.RunEnd.{IsWhy}
pub use Rattle.tp_node.specs.Standing.{standing}
pub use Rattle.tp_node.specs.declared.run.Why.{Why}
pub use Rattle.tp_net.proofs.Cuts.{slice_split-none, slice_split-some}
pub use Rattle.tp_net.proofs.Numerals.{list_all_at}
pub use Rattle.tp_book.specs.Ports.{PortValue}
pub use Rattle.tp_turn.specs.Output.{OutputAs}
pub use Rattle.tp_turn.specs.Tried.{fresh_image}
pub use Rattle.tp_turn.specs.declared.image.TryFault.{TryFault}
pub use Rattle.tp_turn.specs.declared.image.TryFault.TheVariants.{BadImage}
pub use Rattle.tp_trace.specs.Hex.{hex_word}
pub use Rattle.tp_trace.specs.Lines.{stop_line}
pub use Rattle.tp_trace.specs.Others.{Attended, attended}
pub use Rattle.tp_trace.specs.Steps.{Hears, stepped, took_one}
pub use Rattle.tp_trace.specs.Stops.{memory_of}
pub use Rattle.tp_trace.specs.declared.hearing.Heard.{Heard}
pub use Rattle.tp_trace.specs.declared.others.Linked.{Linked}
pub use Rattle.tp_disk.proofs.Readings.{read_kept, read_true}
pub use Rattle.tp_disk.specs.Reads.{AreTrue, Reading, WereTrue}
pub use Rattle.tp_area.specs.Formatting.{FormatAnswer}
pub use Rattle.tp_area.specs.declared.fault.FormatFault.{FormatFault}
pub use Rattle.tp_area.specs.declared.fault.FormatFault.TheVariants.{AreaFull, DeviceFailed}
pub use Rattle.tp_recover.proofs.Areas.{area_front-part}
pub use Rattle.tp_recover.proofs.Leaving.{read_leaves, then_leaves}
pub use Rattle.tp_recover.specs.Before.{IsImage, node_before}
pub use Rattle.tp_recover.specs.Cuts.{network_of_cut}
pub use Rattle.tp_recover.specs.Nodes.{AreAllThawed, live_node}
pub use Rattle.tp_recover.specs.Reading.{LeavesAlone, LeavesNothingNew, ReadAnswer, has_read}
pub use Rattle.tp_recover.specs.declared.area.cut.Cut.{Cut}
pub use Rattle.tp_recover.specs.declared.unopened.Unopened.{Unopened}
pub use Rattle.tp_recover.specs.declared.unopened.Unopened.TheVariants.{Fault, Memory, ReadFailed}
pub use Rattle.tp_stream_files.proofs.Fronts.{kept_appended, more_appended, none_appended}
pub use Rattle.tp_words.specs.declared.views.JournalPart.{JournalPart}
pub use Rattle.tp_words.specs.declared.views.TracePart.{TracePart}
