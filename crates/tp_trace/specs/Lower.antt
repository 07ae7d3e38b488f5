-- What definitions and contracts here name of the crates below.
pub use Rattle.std.specs.Fmt.{decimal, signed_decimal}
pub use Rattle.std.specs.Int.{from_le_bytes, w32}
pub use Rattle.std.specs.Option.{option_and_then, option_map, option_or}
pub use Rattle.tp_model.specs.Bytes.{u16_at, u32_at, u8_at}
pub use Rattle.tp_model.specs.Coding.{decoded, op_of, operand_of}
pub use Rattle.tp_model.specs.Image.{cpu_at, halt_of, state_of}
pub use Rattle.tp_model.specs.Memory.{byte_at, offset, word_at}
unfoldable pub use Rattle.tp_model.specs.Node.{node_step, took}
pub use Rattle.tp_model.specs.NodeState.{NodeState}
pub use Rattle.tp_model.specs.Processor.{kept_at}
pub use Rattle.tp_model.specs.Word.{not_process}
pub use Rattle.tp_model.specs.declared.instruction.Fun.{Fun}
pub use Rattle.tp_model.specs.declared.instruction.Fun.TheVariants.{Adc, Ajw, Call, Cj, Eqc, J, Ldc, Ldl, Ldlp, Ldnl, Ldnlp, Opr, Stl, Stnl}
pub use Rattle.tp_model.specs.declared.instruction.Instr.{Instr}
pub use Rattle.tp_model.specs.declared.instruction.Op.{Op}
pub use Rattle.tp_model.specs.declared.instruction.Op.TheVariants.{Add, Alt, Altend, Altwt, And, Bcnt, Bsub, Ccnt1, Csub0, Diff, Disc, Diss, Div, Enbc, Enbs, Endp, Gajw, Gcall, Gt, In, Ladd, Lb, Ldiff, Ldiv, Ldpi, Ldpri, Lend, Lmul, Lsub, Lsum, Mint, Move, Mul, Not, Or, Out, Outbyte, Outword, Prod, Rem, Ret, Rev, Runp, Sb, Seterr, Shl, Shr, Startp, Stoperr, Stopp, Sub, Sum, Testerr, Wcnt, Wsub, Xor}
pub use Rattle.tp_model.specs.declared.link.Token.{Token}
pub use Rattle.tp_model.specs.declared.link.Token.TheVariants.{Ack, Data, Marker}
pub use Rattle.tp_model.specs.declared.processor.Cpu.{Cpu}
pub use Rattle.tp_model.specs.declared.processor.Fault.{Fault}
pub use Rattle.tp_model.specs.declared.processor.Fault.TheVariants.{BadAddress, LinkBusy, LongPrefix, UnknownOp}
pub use Rattle.tp_model.specs.declared.processor.State.{State}
pub use Rattle.tp_model.specs.declared.processor.State.TheVariants.{High, Idle, Low}
pub use Rattle.tp_law_machine.specs.NodeOfBytes.{IsNodeOfBytes}
pub use Rattle.tp_node.specs.declared.standing.Standing.{Standing}
pub use Rattle.tp_node.specs.declared.standing.Standing.TheVariants.{Free, Halted, Waits}
