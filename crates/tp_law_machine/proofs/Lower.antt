-- What proofs here name of the crates below.
pub use Rattle.std.proofs.Math.Nat.{div-le_self, mul-le-mul, pow-le-pow_right, pow-suc}
pub use Rattle.std.proofs.Math.Seq.{drop-append_seam, take-append_seam}
pub use Rattle.std.proofs.lemmas.Bool.{and_from, and_parts, cases_Bool, cases_eq, cases_lt, cases_order, cond-false, cond-true, cond_both, eq-eqb, eqb-false, false≢true, le-leb, le-ltb, leb-true, lt-ltb, ltb-true, ne_eqb, true≢false}
pub use Rattle.std.proofs.lemmas.Grind.{common_steps, same_number_lists}
pub use Rattle.std.proofs.lemmas.Int.{SFits-int_wrap, of_z-to_z}
pub use Rattle.std.proofs.lemmas.List.{drop-drop, drop_at, drop_more, get_or-append_right, get_or-drop, get_or-take, get_or_append_left, get_or_past, length-map, length-take, length-take-le, take-append-drop, take_at}
pub use Rattle.std.proofs.lemmas.Nat.{and_le_l, from_le_bytes-to_le_bytes_2, from_le_bytes-to_le_bytes_4, from_le_bytes-to_le_bytes_8, le_bytes_2, le_bytes_4, le_bytes_8, or_of_32, xor_of_32}
pub use Rattle.std.proofs.lemmas.Option.{cond_some, none-some, option_and_then_some, same_Some, slice_get-get_or}
pub use Rattle.std.proofs.lemmas.Slice.Eq.{bytes_eq-Decides}
pub use Rattle.std.specs.Int.{cast_unsigned, from_le_bytes, int_shr, to_le_bytes, w16, w32, w64}
unfoldable pub use Rattle.std.specs.Int.{int_wrap}
pub use Rattle.std.specs.Int.RustNames.{FitsSigned}
pub use Rattle.std.specs.List.{AllByRecursion, concat, list_all}
pub use Rattle.std.specs.Option.{option_and_then, option_map}
pub use Rattle.std.specs.Result.{result_ok}
unfoldable pub use Rattle.tp_model.specs.Acts.{acted, happens}
pub use Rattle.tp_model.specs.Alternative.{altwt, choice_writes, choose, chosen, enabling, is_alternative, none_chosen, passed_over, ready, ready_writes, signal_writes, signalled, waiting}
pub use Rattle.tp_model.specs.Bytes.{number, u16_at, u16_bytes, u32_at, u32_bytes, u64_at, u64_bytes, u8_at}
unfoldable pub use Rattle.tp_model.specs.Bytes.{numeral}
pub use Rattle.tp_model.specs.Channel.{channel_at, disable, disable_at, enable, enable_at, input, input_at, meets, output, output_at, output_word_at, wait_writes, waits_first, waits_for_alternative}
pub use Rattle.tp_model.specs.Coding.{decoded, fun_of, instr_at, is_prefix, op_of, operand_of, prefixed, reads}
pub use Rattle.tp_model.specs.CutImage.{only_if, or_damaged}
unfoldable pub use Rattle.tp_model.specs.CutImage.{cut_bytes, lines_in, nodes_in, ports_in}
pub use Rattle.tp_model.specs.Disk.{AreWithin, IsOutside, IsWithin, MayBe, Moment, Read, SameOutside, Sync, Write, broken, done, within, written}
pub use Rattle.tp_model.specs.EndBytes.{FitsInEnd, FitsOutEnd, IsTransfer, in_end_at, in_end_bytes, is_idle_in, is_idle_out, is_in_end, is_out_end, is_under_way, out_end_at, out_end_bytes, transfer_at}
unfoldable pub use Rattle.tp_model.specs.EndBytes.{ends_at}
pub use Rattle.tp_model.specs.Entries.{HasFourLinks}
unfoldable pub use Rattle.tp_model.specs.Entries.{acts, does, next, of_port, process, receives, takes}
pub use Rattle.tp_model.specs.EntryBytes.{IsSpelt, data_byte, data_bytes, digit, digits, entry_bytes, entry_of, fields, is_in_range, is_received, is_spelt, number_at, number_in, received_of, takes_of}
unfoldable pub use Rattle.tp_model.specs.EntryBytes.{entry_at}
unfoldable pub use Rattle.tp_model.specs.Flight.{flights_in}
pub use Rattle.tp_model.specs.Group.{group_at, group_bytes, group_length, header, or_bad, rises, rows_of}
unfoldable pub use Rattle.tp_model.specs.Group.{rows_at, rows_behind}
unfoldable pub use Rattle.tp_model.specs.Head.{head_at, head_bytes, head_of, u16s_at}
pub use Rattle.tp_model.specs.Image.{IsNode, cpu_at, halt_byte, halt_of, is_memory, page_count, state_byte, state_of, words_of}
unfoldable pub use Rattle.tp_model.specs.Image.{image, image_head, is_node, node_at, node_of}
pub use Rattle.tp_model.specs.LinkEnd.{advanced, filled, has_more, in_arrived, in_disabled, in_enabled, in_started, is_holding, is_waiting, next_pointer, out_acked}
pub use Rattle.tp_model.specs.LinkStep.{Did, Fails, LinkOutcome, begin_input, begin_output, disabled, enabled, message, take_up, with_byte, with_word}
pub use Rattle.tp_model.specs.Markers.{NeverMarks, is_marker, markers}
pub use Rattle.tp_model.specs.Memory.{byte_at, byte_stored, changed, copied, is_inside, moved, offset, set_byte, set_word, stored, word_at, word_offset}
pub use Rattle.tp_model.specs.Network.{Machine, for_line, ◌>>=◌}
unfoldable pub use Rattle.tp_model.specs.Network.{own, pushed, put, sent, steps, taken}
pub use Rattle.tp_model.specs.Node.{after_input, after_output, bad_address, ended, halted, holds, holds_there, make_ready, on_link, placed, signal_state, t414, t414_ends, tell, took_token, waits, waits_there, wake, with_memory}
unfoldable pub use Rattle.tp_model.specs.Node.{node_step, took}
pub use Rattle.tp_model.specs.NodeState.{NodeState}
unfoldable pub use Rattle.tp_model.specs.Opening.{area_in, chosen_area, cut_in, opening, verdict}
unfoldable pub use Rattle.tp_model.specs.Order.{after, made}
pub use Rattle.tp_model.specs.Outcome.{Halts, Next, Outcome, Receives, Rests, Sends, leaves}
pub use Rattle.tp_model.specs.Processor.{arrive, counted, descriptor_of, dispatch_high, dispatch_low, emptied, goto, has_low_priority, interrupt, interrupt_writes, is_low, joined, jump, kept_at, link_at, must_slice, past, queue_writes, queued, rest_of_queue, restore, save_writes, saved_at, slice_writes, sliced, started, state_at, stop, stopped, with_a, with_regs, with_wptr, without_b, workspace}
pub use Rattle.tp_model.specs.Registers.{binary, carry, checked, checked_binary, error_if, fun_row, op_row, pop, push, row_div, row_ldiv, row_rem, set_a, shl, shr}
pub use Rattle.tp_model.specs.Replay.{Replay, after_row}
unfoldable pub use Rattle.tp_model.specs.Replay.{after_rows, listing}
pub use Rattle.tp_model.specs.Sound.{KeepsFlight, acks, datas}
unfoldable pub use Rattle.tp_model.specs.Spelling.{front_bytes}
pub use Rattle.tp_model.specs.Step.{by_row, call, call_writes, effect, endp, executed, idle, in_state, instruction, lend, local, operate, operation, ret, startp}
unfoldable pub use Rattle.tp_model.specs.Step.{step_of}
unfoldable pub use Rattle.tp_model.specs.Topology.{all_lead_back, is_topology}
pub use Rattle.tp_model.specs.Turn.{by_link}
unfoldable pub use Rattle.tp_model.specs.WholeCut.{whole}
pub use Rattle.tp_model.specs.Word.{bit, less, most_neg, not_process, signed, word_of, wrap}
pub use Rattle.tp_model.specs.declared.entry.Entry.{Entry}
pub use Rattle.tp_model.specs.declared.entry.Entry.TheVariants.{Confirm, HostIn, Run, Take, Turn}
pub use Rattle.tp_model.specs.declared.instruction.DecodeFault.{DecodeFault}
pub use Rattle.tp_model.specs.declared.instruction.DecodeFault.TheVariants.{LongPrefix as TooLong, NeedMore, UnknownOp as NoOp}
pub use Rattle.tp_model.specs.declared.instruction.Fun.{Fun}
pub use Rattle.tp_model.specs.declared.instruction.Fun.TheVariants.{Adc, Ajw, Call, Cj, Eqc, J, Ldc, Ldl, Ldlp, Ldnl, Ldnlp, Opr, Stl, Stnl}
pub use Rattle.tp_model.specs.declared.instruction.Instr.{Instr}
pub use Rattle.tp_model.specs.declared.instruction.Op.{Op}
pub use Rattle.tp_model.specs.declared.instruction.Op.TheVariants.{Add, Alt, Altend, Altwt, And, Bcnt, Bsub, Ccnt1, Csub0, Diff, Disc, Diss, Div, Enbc, Enbs, Endp, Gajw, Gcall, Gt, In, Ladd, Lb, Ldiff, Ldiv, Ldpi, Ldpri, Lend, Lmul, Lsub, Lsum, Mint, Move, Mul, Not, Or, Out, Outbyte, Outword, Prod, Rem, Ret, Rev, Runp, Sb, Seterr, Shl, Shr, Startp, Stoperr, Stopp, Sub, Sum, Testerr, Wcnt, Wsub, Xor}
pub use Rattle.tp_model.specs.declared.instruction.Regs.{Regs}
pub use Rattle.tp_model.specs.declared.limits.TheConstants.{ENTRY_LINES, ENTRY_NODES, GATE_OPEN, MAX_GROUP, MAX_PAGES, MAX_PORTS, MAX_STEPS, MIN_PAGES, NUMBER_LIMIT, PAGE_BYTES, SLICE}
pub use Rattle.tp_model.specs.declared.link.Arrival.{Arrival}
pub use Rattle.tp_model.specs.declared.link.InEnd.{InEnd}
pub use Rattle.tp_model.specs.declared.link.InEnd.TheVariants.{Enabled, Idle, Idle as InIdle, Inputs}
pub use Rattle.tp_model.specs.declared.link.News.{News}
pub use Rattle.tp_model.specs.declared.link.News.TheVariants.{Alternative, Nobody, Process}
pub use Rattle.tp_model.specs.declared.link.OutEnd.{OutEnd}
pub use Rattle.tp_model.specs.declared.link.OutEnd.TheVariants.{Idle as NoOutput, Idle as OutIdle, Waits}
pub use Rattle.tp_model.specs.declared.link.Received.{Received}
pub use Rattle.tp_model.specs.declared.link.Received.TheVariants.{AckThenData, DataThenAck, JustAck, JustData, Nothing}
pub use Rattle.tp_model.specs.declared.link.Started.{Started}
pub use Rattle.tp_model.specs.declared.link.Token.{Token}
pub use Rattle.tp_model.specs.declared.link.Token.TheVariants.{Ack, Data, Marker}
pub use Rattle.tp_model.specs.declared.link.Transfer.{Transfer}
pub use Rattle.tp_model.specs.declared.opening.OpenFault.{OpenFault}
pub use Rattle.tp_model.specs.declared.processor.Cpu.{Cpu}
pub use Rattle.tp_model.specs.declared.processor.Fault.{Fault}
pub use Rattle.tp_model.specs.declared.processor.Fault.TheVariants.{BadAddress, LinkBusy, LongPrefix, UnknownOp}
pub use Rattle.tp_model.specs.declared.processor.Queue.{Queue}
pub use Rattle.tp_model.specs.declared.processor.State.{State}
pub use Rattle.tp_model.specs.declared.processor.State.TheVariants.{High, Idle as NoneRuns, Low}
pub use Rattle.tp_model.specs.declared.request.ChannelWord.{ChannelWord}
pub use Rattle.tp_model.specs.declared.request.ChannelWord.TheVariants.{Input, Internal, Output}
pub use Rattle.tp_model.specs.declared.request.OutRequest.{OutRequest}
pub use Rattle.tp_model.specs.declared.request.Wish.{Wish}
pub use Rattle.tp_model.specs.declared.request.Wish.TheVariants.{Disable, Enable, Message}
