-- What definitions and contracts here name of the crates below.
pub use Rattle.std.specs.List.{AllByRecursion}
pub use Rattle.std.specs.Option.{option_and_then}
pub use Rattle.tp_model.specs.Acts.{Act, Begin, Close, Journal, Record, Trim}
unfoldable pub use Rattle.tp_model.specs.Acts.{acted}
pub use Rattle.tp_model.specs.Bytes.{number, padded, u16_at, zeros}
pub use Rattle.tp_model.specs.Coding.{decoded, spelling}
pub use Rattle.tp_model.specs.Device.{areas_end}
pub use Rattle.tp_model.specs.DeviceAreas.{numbered}
pub use Rattle.tp_model.specs.Entries.{HasFourLinks}
pub use Rattle.tp_model.specs.EntryBytes.{IsSpelt, data_bytes, digits, entry_bytes, is_in_range, takes_of}
unfoldable pub use Rattle.tp_model.specs.EntryBytes.{entry_at}
pub use Rattle.tp_model.specs.Format.{fresh_port}
pub use Rattle.tp_model.specs.Group.{group_at, group_bytes, group_length, rises, rows_of}
pub use Rattle.tp_model.specs.Head.{areas_of_length}
unfoldable pub use Rattle.tp_model.specs.Head.{head_bytes}
pub use Rattle.tp_model.specs.Image.{IsNode}
unfoldable pub use Rattle.tp_model.specs.Image.{image, image_head, node_of}
pub use Rattle.tp_model.specs.Journal.{cut_length, is_full, is_full_for_cut, room}
pub use Rattle.tp_model.specs.Markers.{NeverMarks}
pub use Rattle.tp_model.specs.Memory.{offset, set_byte, set_word}
pub use Rattle.tp_model.specs.Network.{Network}
unfoldable pub use Rattle.tp_model.specs.Network.{steps}
pub use Rattle.tp_model.specs.Node.{halted, t414, t414_ends}
unfoldable pub use Rattle.tp_model.specs.Node.{took}
pub use Rattle.tp_model.specs.NodeState.{NodeState}
pub use Rattle.tp_model.specs.Opening.{Opened, network_of}
unfoldable pub use Rattle.tp_model.specs.Opening.{verdict}
unfoldable pub use Rattle.tp_model.specs.Order.{after}
pub use Rattle.tp_model.specs.Registers.{error_if, op_row}
pub use Rattle.tp_model.specs.Replay.{row_entry}
pub use Rattle.tp_model.specs.Runs.{fresh}
pub use Rattle.tp_model.specs.Snapshot.{MarkedNetwork}
pub use Rattle.tp_model.specs.Sound.{KeepsFlight}
unfoldable pub use Rattle.tp_model.specs.Spelling.{front_bytes}
pub use Rattle.tp_model.specs.Topology.{Topology}
unfoldable pub use Rattle.tp_model.specs.TopologyText.{read_text}
pub use Rattle.tp_model.specs.Word.{not_process}
pub use Rattle.tp_model.specs.declared.areas.TwoAreas.{TwoAreas}
pub use Rattle.tp_model.specs.declared.entry.Entry.{Entry}
pub use Rattle.tp_model.specs.declared.entry.Entry.TheVariants.{Confirm, HostIn, Run, Take, Turn}
pub use Rattle.tp_model.specs.declared.form.Form.{Form}
pub use Rattle.tp_model.specs.declared.form.Form.TheVariants.{Plain, Turns}
pub use Rattle.tp_model.specs.declared.head.HeadVersion.{HeadVersion}
pub use Rattle.tp_model.specs.declared.head.HeadVersion.TheVariants.{Narrow, Wide}
pub use Rattle.tp_model.specs.declared.instruction.DecodeFault.TheVariants.{LongPrefix, NeedMore, UnknownOp}
pub use Rattle.tp_model.specs.declared.instruction.Fun.TheVariants.{Ldc, Opr}
pub use Rattle.tp_model.specs.declared.instruction.Op.TheVariants.{Add, Div, Ldiv, Lmul, Lsum, Rem, Sum}
pub use Rattle.tp_model.specs.declared.instruction.Regs.{Regs}
pub use Rattle.tp_model.specs.declared.limits.TheConstants.{ENTRY_BYTES, GATE_OPEN, MAX_GROUP}
pub use Rattle.tp_model.specs.declared.link.InEnd.{InEnd}
pub use Rattle.tp_model.specs.declared.link.InEnd.TheVariants.{Enabled, Idle, Idle as NoInput, Inputs}
pub use Rattle.tp_model.specs.declared.link.OutEnd.{OutEnd}
pub use Rattle.tp_model.specs.declared.link.OutEnd.TheVariants.{Idle as NoOutput, Waits}
pub use Rattle.tp_model.specs.declared.link.Received.TheVariants.{AckThenData, DataThenAck, JustAck, JustData, Nothing}
pub use Rattle.tp_model.specs.declared.link.Token.{Token}
pub use Rattle.tp_model.specs.declared.link.Token.TheVariants.{Ack, Data, Marker}
pub use Rattle.tp_model.specs.declared.link.Transfer.{Transfer}
pub use Rattle.tp_model.specs.declared.opening.OpenFault.TheVariants.{BadVersion, Damaged, NoOpenArea, NotFormatted}
pub use Rattle.tp_model.specs.declared.processor.Cpu.{Cpu}
pub use Rattle.tp_model.specs.declared.processor.Fault.TheVariants.{BadAddress, LinkBusy}
pub use Rattle.tp_model.specs.declared.processor.Queue.{Queue}
pub use Rattle.tp_model.specs.declared.processor.State.TheVariants.{Low}
pub use Rattle.tp_model.specs.declared.topology.NetFault.TheVariants.{Syntax, TwoWires, UnknownNode}
pub use Rattle.tp_model.specs.declared.wire.WireEnd.TheVariants.{Link, Port as AtPort}
