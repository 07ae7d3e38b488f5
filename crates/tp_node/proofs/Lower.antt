-- What proofs here name of the crates below.
pub use Rattle.std.proofs.lemmas.Bool.{and_parts, cond_both, eqb-true, le-ltb, leb-true, lt-ltb}
pub use Rattle.std.proofs.lemmas.Grind.{common_steps, flat_map-append}
pub use Rattle.std.proofs.lemmas.List.{append-nil, append_assoc, drop-append-le, drop-drop, drop_all, drop_at, get_or_append_left, length-append, length-drop, length-replicate, length-take-le, take-append-drop, take_all, take_at, take_more, take_rest}
pub use Rattle.std.proofs.lemmas.List.Sums.{sum_by-cons, sum_by-set}
pub use Rattle.std.proofs.lemmas.Option.{get_or_from_slice_get, option_and_then_some, slice_get-get_or, slice_get_past, slice_get_within}
pub use Rattle.std.specs.Int.{from_le_bytes, w16, w32}
pub use Rattle.std.specs.List.{flat_map, list_all, slice_get, sum_by}
pub use Rattle.std.specs.Option.{IfSome, option_map, option_to_list}
pub use Rattle.tp_model.specs.Bytes.{u16_at, u16_bytes, u32_at, u32_bytes, u8_at}
pub use Rattle.tp_model.specs.EndBytes.{in_end_at, in_end_bytes, is_idle_in, is_idle_out, is_in_end, is_out_end, out_end_at, out_end_bytes, transfer_at}
unfoldable pub use Rattle.tp_model.specs.EndBytes.{ends_at}
pub use Rattle.tp_model.specs.Image.{IsNode, cpu_at, halt_byte, page_count, state_byte, words_of}
unfoldable pub use Rattle.tp_model.specs.Image.{image_head, is_node, node_at, node_of}
pub use Rattle.tp_model.specs.LinkEnd.{in_arrived, in_disabled, in_enabled, is_holding, is_waiting, next_pointer, out_acked}
pub use Rattle.tp_model.specs.LinkStep.{Did, Fails, LinkOutcome, begin_input, begin_output, disabled, enabled}
pub use Rattle.tp_model.specs.Memory.{byte_at, set_word, stored, word_at, word_offset}
pub use Rattle.tp_model.specs.Network.{Machine, ◌>>=◌}
unfoldable pub use Rattle.tp_model.specs.Network.{steps}
pub use Rattle.tp_model.specs.Node.{after_input, after_output, asks_input, asks_output, bad_address, ended, halted, holds, holds_there, on_link, placed, t414, tell, took_token, waits, waits_there, wake, with_memory}
unfoldable pub use Rattle.tp_model.specs.Node.{node_step, took}
pub use Rattle.tp_model.specs.NodeState.{NodeState}
pub use Rattle.tp_model.specs.NodeWrites.{asks_input_ranges, asks_output_ranges, begin_input_ranges, begin_output_ranges, kept_behind_steps, place_range, tell_ranges, wake_ranges, where_done}
unfoldable pub use Rattle.tp_model.specs.NodeWrites.{node_ranges, took_ranges}
pub use Rattle.tp_model.specs.Outcome.{Halts, Next, Outcome, Receives, Rests, Sends}
pub use Rattle.tp_model.specs.Processor.{descriptor_of, kept_at, past, queue_writes, queued}
pub use Rattle.tp_model.specs.SharedPages.{Kept, LacksFrames, kept_behind, word_ranges}
pub use Rattle.tp_model.specs.Step.{idle, in_state}
unfoldable pub use Rattle.tp_model.specs.Step.{step_of}
unfoldable pub use Rattle.tp_model.specs.StepWrites.{step_ranges}
pub use Rattle.tp_model.specs.Word.{bit, not_process}
pub use Rattle.tp_model.specs.declared.limits.TheConstants.{IMAGE_HEAD_BYTES, IMAGE_VERSION, MAX_PAGES, MIN_PAGES, PAGE_BYTES}
pub use Rattle.tp_model.specs.declared.link.Arrival.{Arrival}
pub use Rattle.tp_model.specs.declared.link.InEnd.{InEnd}
pub use Rattle.tp_model.specs.declared.link.InEnd.TheVariants.{Enabled, Idle, Inputs}
pub use Rattle.tp_model.specs.declared.link.News.{News}
pub use Rattle.tp_model.specs.declared.link.OutEnd.{OutEnd}
pub use Rattle.tp_model.specs.declared.link.OutEnd.TheVariants.{Idle as NoOutput, Idle as OutIdle, Waits}
pub use Rattle.tp_model.specs.declared.link.Token.{Token}
pub use Rattle.tp_model.specs.declared.link.Token.TheVariants.{Ack, Data, Marker}
pub use Rattle.tp_model.specs.declared.processor.Cpu.{Cpu}
pub use Rattle.tp_model.specs.declared.processor.Fault.{Fault}
pub use Rattle.tp_model.specs.declared.processor.State.{State}
pub use Rattle.tp_model.specs.declared.processor.State.TheVariants.{High, Low}
pub use Rattle.tp_model.specs.declared.request.InRequest.{InRequest}
pub use Rattle.tp_model.specs.declared.request.OutRequest.{OutRequest}
pub use Rattle.tp_model.specs.declared.request.Wish.{Wish}
pub use Rattle.tp_model.specs.declared.request.Wish.TheVariants.{Disable, Enable, Message}
pub use Rattle.tp_law_machine.proofs.Bits.{bit_small}
pub use Rattle.tp_law_machine.proofs.EndImages.{length-in_end, length-out_end}
pub use Rattle.tp_law_machine.proofs.LinkEnds.{is_holding-filled}
pub use Rattle.tp_law_machine.proofs.Partial.{bind_some}
pub use Rattle.tp_law_machine.proofs.Taking.{takes_ack, takes_data}
pub use Rattle.tp_mem.proofs.Kept.{frozen-kept_behind}
pub use Rattle.tp_mem.proofs.Writes.{length-byte_stored, length-stored}
pub use Rattle.tp_cpu.specs.Advance.{CpuMoment, advanced_by, led}
unfoldable pub use Rattle.tp_cpu.specs.Advance.{step_on}
