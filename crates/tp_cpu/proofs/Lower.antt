-- What proofs here name of the crates below.
pub use Rattle.std.proofs.Math.Facts.{Fits-of_z, sfits_to_z}
pub use Rattle.std.proofs.Math.Nat.{div-le_self, div-lt_self, div-one, pow-le-pow_right, pow-succ'}
pub use Rattle.std.proofs.Math.Seq.{take-append-add}
pub use Rattle.std.proofs.lemmas.Bool.{and_parts, cases_lt, cond_both, eqb-true, leb-true, lt-ltb, ltb-true, or_parts}
pub use Rattle.std.proofs.lemmas.Bool.Decides.{nat_tests}
pub use Rattle.std.proofs.lemmas.Int.{fits_signed_mul, int_wrap_fits, ints, of_z-to_z, to_z-of_z}
pub use Rattle.std.proofs.lemmas.List.{drop-append-le, drop-drop, drop-take, drop_all, drop_at, drop_more, get_or-set_other, get_or-set_same, length-set, length-take, length-take-le, length_push, same_from_push, take-append-le, take-take, take_all, take_at, take_more, take_more_set}
pub use Rattle.std.proofs.lemmas.List.Folds.{list_all-append}
pub use Rattle.std.proofs.lemmas.List.Sums.{fold-append}
pub use Rattle.std.proofs.lemmas.Nat.{from_le_bytes-to_le_bytes_4}
pub use Rattle.std.proofs.lemmas.Option.{get_or_from_slice_get, option_and_then_some, slice_get-get_or, slice_get_cases, slice_get_within}
pub use Rattle.std.specs.Int.{cast_unsigned, from_le_bytes, to_le_bytes, w32, w64}
unfoldable pub use Rattle.std.specs.Int.{int_wrap}
pub use Rattle.std.specs.List.{list_all, slice_range}
pub use Rattle.std.specs.Option.{option_to_list}
pub use Rattle.tp_model.specs.Alternative.{enabling, ready, signal_writes, signalled, waiting}
pub use Rattle.tp_model.specs.Channel.{channel_at, input_at, output_at, wait_writes}
pub use Rattle.tp_model.specs.Coding.{Decodes, IsKnown, Spells, code, coded, decoded, fun_of, functions, instr_at, is_prefix, natural, op_of, operand_of, prefixed, reads, spelling}
pub use Rattle.tp_model.specs.Memory.{changed, is_inside, offset, set_word, stored, word_at, word_offset}
pub use Rattle.tp_model.specs.Outcome.{Halts, Next, Outcome, Receives, Sends, leaves, ◌>>=◌}
pub use Rattle.tp_model.specs.Processor.{counted, descriptor_of, goto, is_low, low_runs, must_slice, past, queue_writes, saved_at, state_at, stopped, with_regs, workspace}
pub use Rattle.tp_model.specs.Registers.{binary, error_if, op_row, pop, row_rem}
pub use Rattle.tp_model.specs.SharedPages.{Kept, LacksFrames, kept_behind, shared_from, word_ranges}
pub use Rattle.tp_model.specs.Step.{MakesStep, by_row, effect, executed, in_state, instruction, operate, operation}
unfoldable pub use Rattle.tp_model.specs.Step.{step_of}
pub use Rattle.tp_model.specs.StepWrites.{effect_ranges, executed_ranges, in_state_ranges, instruction_ranges, nowhere_ranges, operate_ranges, where_on}
unfoldable pub use Rattle.tp_model.specs.StepWrites.{step_ranges}
pub use Rattle.tp_model.specs.Word.{complement, most_neg, not_process, signed, word_of, wrap}
pub use Rattle.tp_model.specs.declared.instruction.DecodeFault.{DecodeFault}
pub use Rattle.tp_model.specs.declared.instruction.DecodeFault.TheVariants.{LongPrefix, NeedMore, UnknownOp}
pub use Rattle.tp_model.specs.declared.instruction.Fun.{Fun}
pub use Rattle.tp_model.specs.declared.instruction.Fun.TheVariants.{Adc, Cj, Eqc, J, Ldc, Ldl, Ldnl, Ldnlp, Opr, Stl, Stnl}
pub use Rattle.tp_model.specs.declared.instruction.Instr.{Instr}
pub use Rattle.tp_model.specs.declared.instruction.Op.{Op}
pub use Rattle.tp_model.specs.declared.instruction.Op.TheVariants.{Alt, Altend, Altwt, Disc, Diss, Enbc, Enbs, Endp, Gajw, Gcall, In, Lb, Ldpi, Ldpri, Lend, Move, Out, Outbyte, Outword, Ret, Runp, Sb, Startp, Stoperr, Stopp}
pub use Rattle.tp_model.specs.declared.instruction.Regs.{Regs}
pub use Rattle.tp_model.specs.declared.limits.TheConstants.{SLICE}
pub use Rattle.tp_model.specs.declared.processor.Cpu.{Cpu}
pub use Rattle.tp_model.specs.declared.processor.Fault.TheVariants.{BadAddress, LinkBusy}
pub use Rattle.tp_model.specs.declared.processor.State.{State}
pub use Rattle.tp_model.specs.declared.processor.State.TheVariants.{High, Idle, Low}
pub use Rattle.tp_model.specs.declared.request.ChannelWord.{ChannelWord}
pub use Rattle.tp_model.specs.declared.request.ChannelWord.TheVariants.{Input, Output}
pub use Rattle.tp_model.specs.declared.request.StepEnd.{StepEnd}
pub use Rattle.tp_model.specs.declared.request.StepEnd.TheVariants.{Done, Halted, Idle as NoStep, LinkIn, LinkOut, NoFrame}
pub use Rattle.tp_model.specs.declared.request.Wish.TheVariants.{Message}
pub use Rattle.tp_mem.proofs.Writes.{length-set_word, length-stored, word_within}
pub use Rattle.tp_mem.specs.Bare.{SharesNone, bare}
