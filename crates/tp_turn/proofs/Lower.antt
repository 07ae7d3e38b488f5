-- What proofs here name of the crates below.
pub use Rattle.std.proofs.lemmas.Bool.{and_from, and_parts, cases_Bool, cases_eq, cases_lt, le-ltb, leb-true, ltb-false, true≢false}
pub use Rattle.std.proofs.lemmas.List.{append-nil, ext_get_or, length-map, map-append, set-set}
pub use Rattle.std.proofs.lemmas.Option.{slice_get_within}
pub use Rattle.std.specs.List.{AllByRecursion, list_all, range_with_len}
pub use Rattle.std.specs.Option.{option_map}
pub use Rattle.tp_model.specs.Acts.{Act, Begin, Close, Journal, Record, Trim, close_line}
unfoldable pub use Rattle.tp_model.specs.Acts.{acted, happens}
pub use Rattle.tp_model.specs.CutImage.{only_if}
pub use Rattle.tp_model.specs.EndBytes.{is_idle_in, is_idle_out}
pub use Rattle.tp_model.specs.Entries.{of_node, port_took}
unfoldable pub use Rattle.tp_model.specs.Entries.{does, next, process, takes}
pub use Rattle.tp_model.specs.Format.{fresh_node, fresh_port}
pub use Rattle.tp_model.specs.Halves.{BookState, live}
pub use Rattle.tp_model.specs.Image.{IsNode, has_idle_links, page_count}
unfoldable pub use Rattle.tp_model.specs.Image.{is_node, node_at, node_of}
pub use Rattle.tp_model.specs.Journal.{is_full}
pub use Rattle.tp_model.specs.Markers.{before, is_marker, plain, plain_network}
pub use Rattle.tp_model.specs.Network.{Network, OfHost, OfNode, Own, Port, back, for_line, has_wire, is_first, is_wired, line_of, on_line, process_at, receiver, ◌>>=◌}
unfoldable pub use Rattle.tp_model.specs.Network.{own, sent, steps}
pub use Rattle.tp_model.specs.Node.{holds, on_link, t414, t414_ends, waits}
unfoldable pub use Rattle.tp_model.specs.Node.{node_step, took}
pub use Rattle.tp_model.specs.NodeState.{NodeState}
pub use Rattle.tp_model.specs.NodeWrites.{kept_behind_steps}
unfoldable pub use Rattle.tp_model.specs.NodeWrites.{node_ranges, took_ranges}
unfoldable pub use Rattle.tp_model.specs.Order.{after}
pub use Rattle.tp_model.specs.Runs.{is_trim}
pub use Rattle.tp_model.specs.SharedPages.{LacksFrames, kept_behind}
pub use Rattle.tp_model.specs.Snapshot.{MarkedNetwork, Snapshot, closed_over, collected, has_recorded, is_closed, journalled, with_closed, with_count}
pub use Rattle.tp_model.specs.Sound.{ack_of, acks, data_of, datas, end_holds, end_waits, holds_at, is_pending, owner, waits_at}
pub use Rattle.tp_model.specs.Turn.{by_line, by_link, comes_in, incoming, is_link, line_from, received}
unfoldable pub use Rattle.tp_model.specs.Turn.{took_all, turned}
pub use Rattle.tp_model.specs.Word.{bit}
pub use Rattle.tp_model.specs.declared.entry.Entry.{Entry}
pub use Rattle.tp_model.specs.declared.entry.Entry.TheVariants.{Run, Take, Turn}
pub use Rattle.tp_model.specs.declared.form.Form.{Form}
pub use Rattle.tp_model.specs.declared.form.Form.TheVariants.{Plain, Turns}
pub use Rattle.tp_model.specs.declared.limits.TheConstants.{MAX_HELD, MAX_STEPS, NUMBER_LIMIT}
pub use Rattle.tp_model.specs.declared.link.Received.{Received}
pub use Rattle.tp_model.specs.declared.link.Received.TheVariants.{AckThenData, DataThenAck, JustAck, JustData, Nothing}
pub use Rattle.tp_model.specs.declared.link.Token.{Token}
pub use Rattle.tp_model.specs.declared.link.Token.TheVariants.{Ack, Data, Marker}
pub use Rattle.tp_model.specs.declared.wire.WireEnd.{WireEnd}
pub use Rattle.tp_model.specs.declared.wire.WireEnd.TheVariants.{Link, Port as AtPort}
pub use Rattle.tp_law_machine.proofs.Bits.{bit_none, bit_small, bit_some}
pub use Rattle.tp_law_machine.proofs.Idle.{none_holds, none_waits}
pub use Rattle.tp_law_machine.proofs.Images.{node_of_bytes}
pub use Rattle.tp_law_machine.proofs.LinkLaws.{has_four_links, took_keeps}
pub use Rattle.tp_law_machine.proofs.Nodes.{carries, node_steps, node_took}
pub use Rattle.tp_law_machine.proofs.Numbers.{AreBytes, are_bytes}
pub use Rattle.tp_law_machine.proofs.Partial.{all_append, bind_some, slice_get-set_other, slice_get-set_same}
pub use Rattle.tp_law_machine.proofs.Taking.{takes_ack, takes_data}
pub use Rattle.tp_law_machine.specs.NodeOfBytes.{CarriesByte, IsNodeOfBytes}
pub use Rattle.tp_law_network.proofs.CutsFronts.{received_after}
pub use Rattle.tp_law_network.proofs.Flight.{owner_node}
pub use Rattle.tp_law_network.proofs.Lines.{first_is, for_line-append, for_line-here, for_line-other, taken_from}
pub use Rattle.tp_law_network.proofs.Local.{Step, own-node, own_host, own_node, owner_of_link, step_of, step_own_same, turn_step}
pub use Rattle.tp_law_network.proofs.Partial.{cond_some, map_some}
pub use Rattle.tp_law_network.proofs.Reorder.{after_front, after_one, after_shape, first_possible}
pub use Rattle.tp_law_network.proofs.Room.{acks-plain, datas-plain, on_line-plain}
pub use Rattle.tp_law_network.proofs.Sound.{end_holds_is, end_waits_is}
pub use Rattle.tp_law_network.specs.Reserved.{IsNotOf, IsReceived, turn_acts, turn_entries}
pub use Rattle.tp_law_network.specs.Turns.{run_of}
pub use Rattle.tp_node.proofs.Answered.{image_read, image_thawed, lacking_frozen, takes_ok, why_fewer, why_most}
pub use Rattle.tp_node.specs.FromImage.{ReadsImage}
pub use Rattle.tp_node.specs.NodeContents.{NodeContents, memory_kept}
pub use Rattle.tp_node.specs.RunEnd.{IsWhy, RunEnd}
pub use Rattle.tp_node.specs.declared.fault.ImageFault.TheVariants.{Memory as NoMemory}
pub use Rattle.tp_book.proofs.Commit.{length-agreed}
pub use Rattle.tp_book.proofs.Fresh.{none_reserved}
pub use Rattle.tp_book.proofs.Lists.{set_back}
pub use Rattle.tp_book.proofs.Stood.{no_act, one_act}
pub use Rattle.tp_book.proofs.TakeRefused.{full_for_any}
pub use Rattle.tp_book.specs.Acts.{run_acts}
pub use Rattle.tp_book.specs.Book.{BookValue, next_in_book, reserved, world_of}
unfoldable pub use Rattle.tp_book.specs.Book.{agreed}
pub use Rattle.tp_book.specs.Calls.{HasRun, HasTaken, HostTook, RunIsAgreed, TakeIsAgreed, after_run, after_take, front_of, with_journalled, with_ready, with_run, without_run}
pub use Rattle.tp_book.specs.Dropped.{after_drop, network_now}
pub use Rattle.tp_book.specs.FirstTwo.{by_two}
pub use Rattle.tp_book.specs.Kept.{BookKeeps}
pub use Rattle.tp_book.specs.Marked.{after_close, after_close_over, after_record, is_closable}
pub use Rattle.tp_book.specs.Needs.{has_recorded_in, is_asked}
pub use Rattle.tp_book.specs.Parts.{network_made}
pub use Rattle.tp_book.specs.Refusals.{IsAnswer, else_if, entry_refusal, host_refusal, is_full_for, is_full_for_take, is_journal_full, needs_take, port_behind, ready_refusal, reserve_refusal, take_refusal, takeable_of}
pub use Rattle.tp_book.specs.Sends.{on_lines}
pub use Rattle.tp_book.specs.Start.{IsFresh, IsNetwork, first_book}
pub use Rattle.tp_book.specs.Turning.{TurnIsAgreed, after_turn, takes_refusal, with_entries}
pub use Rattle.tp_book.specs.declared.refusal.Refusal.{Refusal}
pub use Rattle.tp_book.specs.declared.refusal.Refusal.TheVariants.{JournalFull, JournalFull as Full, Memory, NothingToTake, PortFull, PortFull as NoRoom, SnapshotRunning, StoreBroken}
pub use Rattle.tp_replay.proofs.Impossible.{port_takes_none, steps_fewer, take_behind, take_marker}
