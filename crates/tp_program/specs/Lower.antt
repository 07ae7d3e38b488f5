-- What definitions and contracts here name of the crates below.
pub use Rattle.std.specs.Borrow.{ftrue}
pub use Rattle.std.specs.Duration.{as_nanos}
pub use Rattle.std.specs.Fmt.{decimal}
pub use Rattle.std.specs.Io.KnownBytes.{Appends}
pub use Rattle.std.specs.IoError.{error_kind}
pub use Rattle.std.specs.NonZero.{non_zero_usize_get}
pub use Rattle.std.specs.Option.{option_map}
pub use Rattle.std.specs.declared.alloc.Global.{Global}
pub use Rattle.std.specs.declared.num.NonZeroUsize.{NonZeroUsize}
pub use Rattle.std.specs.declared.string.String.{String}
pub use Rattle.std.specs.declared.time.Duration.{Duration}
pub use Rattle.tp_model.specs.Device.{areas_end, fits_device}
pub use Rattle.tp_model.specs.Disk.{Moment}
pub use Rattle.tp_model.specs.DiskHistory.{LeavesOnly, State}
pub use Rattle.tp_model.specs.Format.{start_of}
pub use Rattle.tp_model.specs.Head.{areas_of_length, version_for}
unfoldable pub use Rattle.tp_model.specs.Image.{node_of}
pub use Rattle.tp_model.specs.Network.{Network}
pub use Rattle.tp_model.specs.NodeState.{NodeState}
pub use Rattle.tp_model.specs.Opening.{Opened}
unfoldable pub use Rattle.tp_model.specs.Opening.{verdict}
pub use Rattle.tp_model.specs.Topology.{Topology}
unfoldable pub use Rattle.tp_model.specs.Topology.{is_topology}
unfoldable pub use Rattle.tp_model.specs.TopologyText.{read_text}
pub use Rattle.tp_model.specs.declared.limits.TheConstants.{MAX_STEPS}
unfoldable pub use Rattle.tp_net.specs.NodeNames.{node_names}
pub use Rattle.tp_turn.specs.Tried.{fresh_image}
pub use Rattle.tp_disk.specs.FileState.{begins}
pub use Rattle.tp_disk.specs.History.{Medium}
pub use Rattle.tp_disk.specs.Reads.{AreTrue, Reading, WereTrue}
pub use Rattle.tp_area.specs.Formatting.{Formatted, IsOldOrNew}
pub use Rattle.tp_area.specs.Rights.{Copies, Formats}
pub use Rattle.tp_recover.specs.Copies.{AskedLast, CopyAnswer, HasStayed, IsCopy, area_kept}
pub use Rattle.tp_recover.specs.Reading.{LeavesNothingNew}
pub use Rattle.tp_recover.specs.declared.copy.fault.CopyFault.{CopyFault}
pub use Rattle.tp_recover.specs.declared.copy.fault.CopyFault.TheVariants.{DeviceFailed as NotWritten, Memory as NoMemory, ReadFailed as NotRead}
pub use Rattle.tp_recover.specs.declared.reading.asked.AreaAsked.{AreaAsked}
pub use Rattle.tp_recover.specs.declared.unopened.Unopened.{Unopened}
pub use Rattle.tp_work.specs.declared.start.TheConstants.{MAX_WORKERS}
pub use Rattle.tp_flush.specs.Known.{Began}
pub use Rattle.tp_flush.specs.Rights.{Steps}
pub use Rattle.tp_stream_files.specs.Any.{path_from}
pub use Rattle.tp_stream_files.specs.Inputs.{GivenInput, given_input, named_input}
pub use Rattle.tp_stream_files.specs.Named.{HaveOwnPaths, inputs_named, outputs_named}
pub use Rattle.tp_stream_files.specs.Outputs.{OutputValue}
pub use Rattle.tp_stream_files.specs.declared.ending.Ended.{Ended}
pub use Rattle.tp_stream_files.specs.declared.ending.Ending.{Ending}
pub use Rattle.tp_stream_files.specs.declared.ending.Ending.TheVariants.{Halted}
pub use Rattle.tp_stream_files.specs.declared.ends.EndFault.{EndFault}
pub use Rattle.tp_stream_files.specs.declared.ends.EndFault.TheVariants.{SameFile, Twice}
pub use Rattle.tp_stream_files.specs.declared.ends.Ends.{Ends}
pub use Rattle.tp_stream_files.specs.declared.ends.PortFile.{PortFile}
pub use Rattle.tp_run.specs.Answered.{AnswerFor}
pub use Rattle.tp_run.specs.Compacted.{CompactAnswer, Compacted, GrewByOne, StaysUnopened}
pub use Rattle.tp_run.specs.Faults.{IsSilent, IsUnbegun}
pub use Rattle.tp_run.specs.Outlet.{OutletValue, unnoted}
pub use Rattle.tp_run.specs.Ran.{History, RanInto}
pub use Rattle.tp_run.specs.declared.compacting.CompactFault.{CompactFault}
pub use Rattle.tp_run.specs.declared.compacting.Compaction.{Compaction}
pub use Rattle.tp_run.specs.declared.fault.RunFault.{RunFault}
pub use Rattle.tp_run.specs.declared.job.Job.{Job}
pub use Rattle.tp_stream.specs.Put.{StreamedInto}
pub use Rattle.tp_stream.specs.Quiet.{IsAsked}
pub use Rattle.tp_stream.specs.Streamed.{StaysUnstreamed}
pub use Rattle.tp_stream.specs.declared.fault.StreamFault.{StreamFault}
pub use Rattle.tp_stream.specs.declared.fault.StreamFault.TheVariants.{Opening, Port, Spare, Unnamed}
pub use Rattle.tp_stream.specs.declared.task.Task.{Task}
pub use Rattle.tp_words.specs.Args.{IsInRange}
unfoldable pub use Rattle.tp_words.specs.Args.{IsRun}
pub use Rattle.tp_words.specs.Commands.{HasCommandPlaces, IsCommandInRange, WasCommandTyped}
pub use Rattle.tp_words.specs.Explaining.{is_help}
pub use Rattle.tp_words.specs.Lines.{asks_help}
pub use Rattle.tp_words.specs.Refused.{IsRefusedLine}
unfoldable pub use Rattle.tp_words.specs.StreamArgs.{IsStreamRun}
pub use Rattle.tp_words.specs.Typed.{has_word}
pub use Rattle.tp_words.specs.declared.args.Asked.{Asked}
pub use Rattle.tp_words.specs.declared.args.Asked.TheVariants.{Check, Compact, Format, Help, Recover, Run as Runs, Show, Status, Trace, TraceDevice, Try}
pub use Rattle.tp_words.specs.declared.args.NewDevice.{NewDevice}
pub use Rattle.tp_words.specs.declared.args.Run.{Run}
pub use Rattle.tp_words.specs.declared.args.TheConstants.{MAX_AREA}
pub use Rattle.tp_words.specs.declared.command.Command.{Command}
pub use Rattle.tp_words.specs.declared.command.Command.TheVariants.{Backup, Other, Stop, Stream}
pub use Rattle.tp_words.specs.declared.command.CommandFault.{CommandFault}
pub use Rattle.tp_words.specs.declared.stop_args.StopRequest.{StopRequest}
pub use Rattle.tp_words.specs.declared.stream_args.StreamRun.{StreamRun}
pub use Rattle.tp_words.specs.declared.trace_args.ImageTrace.{ImageTrace}
pub use Rattle.tp_words.specs.declared.views.TracePart.{TracePart}
pub use Rattle.tp_words.specs.declared.views.View.{View}
pub use Rattle.tp_views.specs.Attempt.{PrintsTrial}
pub use Rattle.tp_views.specs.Checked.{topology_said, wanted_area}
pub use Rattle.tp_views.specs.EntriesTraced.{device_text, device_traced}
pub use Rattle.tp_views.specs.Explained.{memory_text}
pub use Rattle.tp_views.specs.Front.{AppendsFront, PrintsFront}
pub use Rattle.tp_views.specs.Looks.{StatusTells}
pub use Rattle.tp_views.specs.Maps.{Maps, Row, no_maps, read_map, rows_of}
pub use Rattle.tp_views.specs.NodeMaps.{maps_seen}
pub use Rattle.tp_views.specs.Opens.{Prints, recovered, shown}
pub use Rattle.tp_views.specs.Placing.{place_of, range_of}
pub use Rattle.tp_views.specs.Refused.{IsPrintFault}
pub use Rattle.tp_views.specs.Status.{look_text}
pub use Rattle.tp_views.specs.Traced.{Traces, node_traced}
pub use Rattle.tp_views.specs.Views.{HasNone, LacksShown, PrintsShown, PrintsView, view_text}
pub use Rattle.tp_views.specs.declared.refusal.Refusal.{Refusal}
pub use Rattle.tp_views.specs.declared.refusal.Refusal.TheVariants.{DeviceFailed, Memory, ReadFailed, Topology as NoTopology}
pub use Rattle.tp_views.specs.declared.text.status.Seen.{Seen}
pub use Rattle.tp_views.specs.declared.trace.stops.Stops.{Stops}
