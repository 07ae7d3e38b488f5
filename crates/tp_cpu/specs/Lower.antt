-- What definitions and contracts here name of the crates below.
pub use Rattle.arrayvec.specs.ArrayVec.{array_vec_len}
pub use Rattle.std.specs.Coded.{Coded-set, Unit-prop, coded_list, coded_option, coded_result, coded_ℕ, le_prop, ×_prop}
pub use Rattle.std.specs.Int.{cast_unsigned, to_le_bytes, w32, w64}
pub use Rattle.tp_model.specs.Alternative.{alt, altwt, choose, chosen, diss, enbs, is_alternative, passed_over, signal_writes, signalled}
pub use Rattle.tp_model.specs.Channel.{channel_at, disable, disable_at, enable, enable_at, input, input_at, meets, output, output_at, output_word_at, wait_writes, waits_first, waits_for_alternative}
pub use Rattle.tp_model.specs.Coding.{Decodes, IsKnown, Spells, code, coded, decoded, fun_of, instr_at, is_prefix, natural, op_of, operand_of, prefixed, reads, spelling}
pub use Rattle.tp_model.specs.Memory.{byte_at, byte_stored, changed, copied, offset, stored, word_at, word_offset}
pub use Rattle.tp_model.specs.Outcome.{Halts, Next, Outcome, Receives, Rests, Sends, leaves}
pub use Rattle.tp_model.specs.Processor.{counted, dispatch_high, dispatch_low, emptied, goto, has_low_priority, interrupt, is_low, joined, jump, link_writes, must_slice, past, queue_writes, queued, rest_of_queue, restore, slice_writes, sliced, started, stop, stopped, with_a, with_regs, with_wptr, without_b, workspace}
pub use Rattle.tp_model.specs.Registers.{binary, carry, checked, error_if, fun_row, op_row, pop, push, register_row, row_div, row_ldiff, row_ldiv, row_lmul, row_lsum, row_rem, row_testerr, row_wcnt, shl, shr}
pub use Rattle.tp_model.specs.SharedPages.{Kept, LacksFrames, block_ranges, kept_after, kept_behind, word_ranges}
pub use Rattle.tp_model.specs.Step.{MakesStep, by_row, call, effect, endp, executed, idle, in_state, instruction, lend, local, operate, operation, ret, runp, startp}
unfoldable pub use Rattle.tp_model.specs.Step.{step_of}
pub use Rattle.tp_model.specs.StepWrites.{alt_ranges, altwt_ranges, call_ranges, choose_ranges, disable_at_ranges, disable_ranges, diss_ranges, effect_ranges, enable_at_ranges, enable_ranges, enbs_ranges, endp_ranges, executed_ranges, idle_ranges, in_state_ranges, input_at_ranges, input_ranges, instruction_ranges, interrupt_ranges, jump_ranges, lend_ranges, meets_ranges, nowhere_ranges, operate_ranges, operation_ranges, output_at_ranges, output_ranges, output_word_at_ranges, restore_ranges, runp_ranges, startp_ranges, stop_ranges, waits_first_ranges, waits_for_alternative_ranges, ◌>>=◌}
unfoldable pub use Rattle.tp_model.specs.StepWrites.{step_ranges}
pub use Rattle.tp_model.specs.Word.{fits, most_neg, not_process, signed, word_of, wrap}
pub use Rattle.tp_model.specs.contracts.instruction.DecodeFault.{the_row as fault_row}
pub use Rattle.tp_model.specs.contracts.instruction.Instr.{the_row as instr_row}
pub use Rattle.tp_model.specs.declared.instruction.DecodeFault.{DecodeFault}
pub use Rattle.tp_model.specs.declared.instruction.DecodeFault.TheVariants.{LongPrefix as TooLong, NeedMore, UnknownOp as NoOp}
pub use Rattle.tp_model.specs.declared.instruction.Fun.{Fun}
pub use Rattle.tp_model.specs.declared.instruction.Fun.TheVariants.{Adc as FunAdc, Ajw as FunAjw, Cj, Cj as FunCj, Eqc as FunEqc, J, Ldc as FunLdc, Ldl as FunLdl, Ldlp as FunLdlp, Ldnl as FunLdnl, Ldnlp as FunLdnlp, Opr, Stl, Stl as FunStl, Stnl, Stnl as FunStnl}
pub use Rattle.tp_model.specs.declared.instruction.Instr.{Instr}
pub use Rattle.tp_model.specs.declared.limits.TheConstants.{SLICE}
pub use Rattle.tp_model.specs.declared.processor.Cpu.{Cpu}
pub use Rattle.tp_model.specs.declared.processor.Fault.{Fault}
pub use Rattle.tp_model.specs.declared.processor.Fault.TheVariants.{BadAddress, LongPrefix, UnknownOp}
pub use Rattle.tp_model.specs.declared.processor.Queue.{Queue}
pub use Rattle.tp_model.specs.declared.processor.State.{State}
pub use Rattle.tp_model.specs.declared.processor.State.TheVariants.{High, Idle, Low}
pub use Rattle.tp_model.specs.declared.request.StepEnd.{StepEnd}
pub use Rattle.tp_model.specs.declared.request.StepEnd.TheVariants.{Done, Halted, Idle as NoStep, LinkIn, LinkOut, NoFrame}
pub use Rattle.tp_mem.specs.Bare.{bare}
