-- What definitions and contracts here name of the crates below.
pub use Rattle.std.specs.List.{flat_map, list_all}
pub use Rattle.std.specs.Option.{option_map}
pub use Rattle.tp_model.specs.Alternative.{waiting}
pub use Rattle.tp_model.specs.Bytes.{u16_bytes, u32_at, u32_bytes, u8_at}
pub use Rattle.tp_model.specs.EndBytes.{end_bytes, in_end_at, in_end_bytes, is_idle_in, is_idle_out, is_in_end, is_out_end, is_under_way, out_end_at, out_end_bytes, transfer_at}
unfoldable pub use Rattle.tp_model.specs.EndBytes.{ends_at}
pub use Rattle.tp_model.specs.Image.{IsNode, cpu_at, has_idle_links, is_memory, page_count, words_of}
unfoldable pub use Rattle.tp_model.specs.Image.{image_head, is_node, node_at, node_of}
pub use Rattle.tp_model.specs.LinkEnd.{in_disabled, in_enabled, in_started, next_pointer}
pub use Rattle.tp_model.specs.LinkStep.{Did, Fails, LinkOutcome, begin_input, begin_output, disabled, enabled, message, take_up, with_byte}
pub use Rattle.tp_model.specs.Memory.{byte_at, byte_stored, stored, word_at}
pub use Rattle.tp_model.specs.Network.{◌>>=◌}
unfoldable pub use Rattle.tp_model.specs.Network.{steps}
pub use Rattle.tp_model.specs.Node.{asks_input, asks_output, bad_address, holds, on_link, placed, t414, tell, took_token, waits, wake}
unfoldable pub use Rattle.tp_model.specs.Node.{node_step, took}
pub use Rattle.tp_model.specs.NodeState.{NodeState}
pub use Rattle.tp_model.specs.NodeWrites.{asks_input_ranges, asks_output_ranges, begin_input_ranges, begin_output_ranges, byte_written, disabled_ranges, enabled_ranges, kept_behind_steps, place_range, take_up_ranges, tell_ranges, wake_ranges}
unfoldable pub use Rattle.tp_model.specs.NodeWrites.{node_ranges, took_ranges}
pub use Rattle.tp_model.specs.Processor.{descriptor_of, kept_at, save_writes, saved_at, state_at, workspace}
pub use Rattle.tp_model.specs.SharedPages.{Kept, LacksFrames, byte_ranges, kept_after, kept_behind, word_ranges}
pub use Rattle.tp_model.specs.StepWrites.{word_range}
pub use Rattle.tp_model.specs.Word.{not_process}
pub use Rattle.tp_model.specs.declared.limits.TheConstants.{PAGE_BYTES}
pub use Rattle.tp_model.specs.declared.link.InEnd.{InEnd}
pub use Rattle.tp_model.specs.declared.link.InEnd.TheVariants.{Enabled, Idle as InIdle, Inputs, Inputs as IsInput}
pub use Rattle.tp_model.specs.declared.link.News.{News}
pub use Rattle.tp_model.specs.declared.link.News.TheVariants.{Alternative, Nobody, Process}
pub use Rattle.tp_model.specs.declared.link.OutEnd.{OutEnd}
pub use Rattle.tp_model.specs.declared.link.OutEnd.TheVariants.{Idle as OutIdle, Waits}
pub use Rattle.tp_model.specs.declared.link.Token.{Token}
pub use Rattle.tp_model.specs.declared.processor.Cpu.{Cpu}
pub use Rattle.tp_model.specs.declared.processor.Fault.{Fault}
pub use Rattle.tp_model.specs.declared.processor.State.{State}
pub use Rattle.tp_model.specs.declared.processor.State.TheVariants.{High, Idle, Low}
pub use Rattle.tp_model.specs.declared.request.OutRequest.{OutRequest}
pub use Rattle.tp_mem.specs.Contents.{page_of}
pub use Rattle.tp_cpu.specs.After.{held, stored_after}
pub use Rattle.tp_cpu.specs.AfterWrites.{first_ranges}
pub use Rattle.tp_cpu.specs.Ends.{Writes}
pub use Rattle.tp_cpu.specs.declared.undone.Undone.{Undone}
pub use Rattle.tp_cpu.specs.declared.undone.Undone.TheVariants.{Asks, Faulty, NoFrame, Wants}
