-- What definitions and contracts here name of the crates below.
pub use Rattle.std.specs.Fmt.{decimal}
pub use Rattle.std.specs.Io.KnownBytes.{Appends}
pub use Rattle.std.specs.List.{AllByRecursion, list_all, list_any, slice_split}
pub use Rattle.std.specs.Option.{option_and_then, option_map, unwrap_or}
unfoldable pub use Rattle.std.specs.Str.{is_utf8}
pub use Rattle.std.specs.Str.Parse.{digits_value}
pub use Rattle.std.specs.declared.alloc.Global.{Global}
pub use Rattle.std.specs.declared.io.ErrorKind.{ErrorKind}
pub use Rattle.std.specs.declared.io.ErrorKind.TheVariants.{FileTooLarge, IsADirectory, OutOfMemory, QuotaExceeded, StorageFull}
pub use Rattle.std.specs.declared.string.String.{String}
pub use Rattle.tp_model.specs.Bytes.{u32_at, u8_at}
pub use Rattle.tp_model.specs.Device.{area_start, areas_end}
pub use Rattle.tp_model.specs.Disk.{Moment, Sync, done}
pub use Rattle.tp_model.specs.DiskHistory.{Counts}
pub use Rattle.tp_model.specs.EndBytes.{in_end_at, out_end_at, transfer_at}
unfoldable pub use Rattle.tp_model.specs.EndBytes.{ends_at}
unfoldable pub use Rattle.tp_model.specs.Entries.{process}
pub use Rattle.tp_model.specs.Format.{start_of}
pub use Rattle.tp_model.specs.Head.{Head, version_byte, version_for}
unfoldable pub use Rattle.tp_model.specs.Head.{head_of}
pub use Rattle.tp_model.specs.Image.{halt_byte, page_count}
unfoldable pub use Rattle.tp_model.specs.Image.{image, node_at, node_of}
pub use Rattle.tp_model.specs.Journal.{cut_length, entry_room, is_roomy, reserve}
pub use Rattle.tp_model.specs.Network.{Network, Port, line_of, process_at, receiver}
pub use Rattle.tp_model.specs.NodeState.{NodeState}
pub use Rattle.tp_model.specs.Numbers.{AreNumbered}
pub use Rattle.tp_model.specs.Opening.{Opened, next_of}
unfoldable pub use Rattle.tp_model.specs.Opening.{verdict}
pub use Rattle.tp_model.specs.Results.{◌>>=◌}
pub use Rattle.tp_model.specs.Topology.{Topology, line_count}
unfoldable pub use Rattle.tp_model.specs.Topology.{is_topology}
pub use Rattle.tp_model.specs.TopologyWords.{is_digit}
pub use Rattle.tp_model.specs.Turn.{by_link}
pub use Rattle.tp_model.specs.Word.{most_neg}
pub use Rattle.tp_model.specs.declared.areas.TwoAreas.{TwoAreas}
pub use Rattle.tp_model.specs.declared.entry.Entry.{Entry}
pub use Rattle.tp_model.specs.declared.entry.Entry.TheVariants.{Confirm, HostIn, Run, Take, Turn}
pub use Rattle.tp_model.specs.declared.form.Form.{Form}
pub use Rattle.tp_model.specs.declared.form.Form.TheVariants.{Plain, Turns}
pub use Rattle.tp_model.specs.declared.limits.TheConstants.{AREA_HEAD_BYTES, IMAGE_HEAD_BYTES, MAX_HELD, MAX_NODES}
pub use Rattle.tp_model.specs.declared.link.InEnd.{InEnd}
pub use Rattle.tp_model.specs.declared.link.InEnd.TheVariants.{Enabled, Idle as InIdle}
pub use Rattle.tp_model.specs.declared.link.OutEnd.{OutEnd}
pub use Rattle.tp_model.specs.declared.link.OutEnd.TheVariants.{Idle as OutIdle}
pub use Rattle.tp_model.specs.declared.link.Received.{Received}
pub use Rattle.tp_model.specs.declared.link.Received.TheVariants.{AckThenData, DataThenAck, JustAck, JustData, Nothing}
pub use Rattle.tp_model.specs.declared.link.Token.{Token}
pub use Rattle.tp_model.specs.declared.link.Token.TheVariants.{Ack, Data, Marker}
pub use Rattle.tp_model.specs.declared.link.Transfer.{Transfer}
pub use Rattle.tp_model.specs.declared.opening.OpenFault.{OpenFault}
pub use Rattle.tp_model.specs.declared.processor.Cpu.{Cpu}
pub use Rattle.tp_model.specs.declared.processor.Fault.{Fault}
pub use Rattle.tp_model.specs.declared.processor.Queue.{Queue}
pub use Rattle.tp_model.specs.declared.processor.State.{State}
pub use Rattle.tp_model.specs.declared.wire.WireEnd.{WireEnd}
pub use Rattle.tp_model.specs.declared.wire.WireEnd.TheVariants.{Link, Port as AtPort}
pub use Rattle.tp_law_machine.specs.NodeOfBytes.{IsNodeOfBytes}
pub use Rattle.tp_node.specs.NodeContents.{NodeContents}
pub use Rattle.tp_node.specs.Rest.{has_nobody}
pub use Rattle.tp_node.specs.Standing.{standing}
pub use Rattle.tp_node.specs.Waiters.{listener, sender}
pub use Rattle.tp_node.specs.declared.standing.Standing.{Standing}
pub use Rattle.tp_node.specs.declared.standing.Standing.TheVariants.{Free, Halted}
pub use Rattle.tp_node.specs.declared.waiter.Deed.{Deed}
pub use Rattle.tp_node.specs.declared.waiter.Deed.TheVariants.{Chooses, Inputs, Sends}
pub use Rattle.tp_node.specs.declared.waiter.Waiter.{Waiter}
pub use Rattle.tp_turn.specs.Output.{IsOutput, TrialAs}
pub use Rattle.tp_turn.specs.Tried.{fresh_image}
pub use Rattle.tp_turn.specs.declared.image.TryFault.{TryFault}
pub use Rattle.tp_turn.specs.declared.image.TryFault.TheVariants.{BadImage, Memory, Memory as NodeMemory}
pub use Rattle.tp_trace.specs.Hex.{hex_byte, hex_word}
pub use Rattle.tp_trace.specs.Lines.{step_text, stop_line, take_line}
pub use Rattle.tp_trace.specs.Names.{fault_name, state_name}
pub use Rattle.tp_trace.specs.Others.{Attended, IsLinked, attended, came}
pub use Rattle.tp_trace.specs.Steps.{heard, seen, stepped, took_one}
pub use Rattle.tp_trace.specs.Stops.{instruction_at, memory_of}
pub use Rattle.tp_trace.specs.declared.hearing.Heard.{Heard}
pub use Rattle.tp_trace.specs.declared.stepping.Seen.{Seen}
pub use Rattle.tp_disk.specs.Reads.{AreTrue, WereTrue}
pub use Rattle.tp_area.specs.Capacity.{journal_of}
pub use Rattle.tp_area.specs.Fronts.{area_front}
pub use Rattle.tp_area.specs.declared.encoding.front.AreaFront.{AreaFront}
pub use Rattle.tp_recover.specs.Before.{IsImage, IsImageOf, node_before}
pub use Rattle.tp_recover.specs.EntriesLeft.{entries_left}
pub use Rattle.tp_recover.specs.Nodes.{AreAllThawed, live_node}
pub use Rattle.tp_recover.specs.Reading.{LeavesAlone, LeavesNothingNew, ReadAnswer, found, has_read}
pub use Rattle.tp_recover.specs.declared.unopened.Unopened.{Unopened}
pub use Rattle.tp_words.specs.declared.args.TheConstants.{MAX_AREA}
pub use Rattle.tp_words.specs.declared.trace_args.TraceLines.{TraceLines}
pub use Rattle.tp_words.specs.declared.trace_args.TraceLines.TheVariants.{Every, Sending}
pub use Rattle.tp_words.specs.declared.views.JournalPart.{JournalPart}
pub use Rattle.tp_words.specs.declared.views.TracePart.{TracePart}
pub use Rattle.tp_words.specs.declared.views.View.{View}
pub use Rattle.tp_words.specs.declared.views.View.TheVariants.{Image, Journal, Node, NodeJson, Outputs, OutputsJson, Pending, PendingJson, Waits, WaitsDot, WaitsJson}
