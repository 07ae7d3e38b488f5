-- What proofs here name of the crates below.
pub use Rattle.std.proofs.lemmas.List.{take_all}
pub use Rattle.std.proofs.lemmas.List.Elements.{All-map}
pub use Rattle.std.proofs.lemmas.Simd.{map-map}
pub use Rattle.std.specs.declared.alloc.Global.{Global}
pub use Rattle.std.specs.declared.string.String.{String}
pub use Rattle.tp_model.specs.Bytes.{u64_at}
pub use Rattle.tp_model.specs.Disk.{Moment}
pub use Rattle.tp_model.specs.DiskHistory.{State}
pub use Rattle.tp_model.specs.Network.{Network}
pub use Rattle.tp_model.specs.Node.{t414, t414_ends}
pub use Rattle.tp_model.specs.NodeState.{NodeState}
pub use Rattle.tp_model.specs.Opening.{Opened}
unfoldable pub use Rattle.tp_model.specs.Opening.{verdict}
pub use Rattle.tp_model.specs.WriteOrder.{Resting}
pub use Rattle.tp_disk.specs.History.{Medium}
pub use Rattle.tp_disk.specs.Reads.{AreTrue, WereTrue}
pub use Rattle.tp_area.proofs.OpenedPlace.{opening_place}
pub use Rattle.tp_area.proofs.OtherArea.{own_open}
pub use Rattle.tp_area.proofs.Placed.{is_placed, place_lies}
pub use Rattle.tp_area.specs.Places.{place_at}
pub use Rattle.tp_area.specs.declared.encoding.front.AreaFront.{AreaFront}
pub use Rattle.tp_recover.proofs.Areas.{generation_of-content}
pub use Rattle.tp_recover.proofs.Leaving.{then_leaves}
pub use Rattle.tp_recover.specs.Copies.{AskedLast, CopyAnswer, HasStayed, IsCopy, area_kept, kept_start}
pub use Rattle.tp_recover.specs.Reading.{LeavesNothingNew}
pub use Rattle.tp_recover.specs.declared.copy.copying.Copied.{Copied}
pub use Rattle.tp_recover.specs.declared.unopened.Unopened.{Unopened}
pub use Rattle.tp_stream_files.specs.Any.{path_from}
pub use Rattle.tp_stream_files.specs.Inputs.{GivenInput, NamedInput, given_input, named_input}
pub use Rattle.tp_stream_files.specs.Named.{HaveOwnPaths, input_from, inputs_named, outputs_named}
pub use Rattle.tp_stream_files.specs.Outputs.{OutputValue}
pub use Rattle.tp_stream_files.specs.declared.ending.Ended.{Ended}
pub use Rattle.tp_stream_files.specs.declared.ends.Ends.{Ends}
pub use Rattle.tp_run.specs.Answered.{AnswerFor}
pub use Rattle.tp_run.specs.Compacted.{StaysUnopened}
pub use Rattle.tp_run.specs.Faults.{IsSilent, IsUnbegun}
pub use Rattle.tp_run.specs.Ran.{History, RanInto}
pub use Rattle.tp_run.specs.declared.compacting.CompactFault.{CompactFault}
pub use Rattle.tp_run.specs.declared.compacting.Compaction.{Compaction}
pub use Rattle.tp_run.specs.declared.fault.RunFault.{RunFault}
pub use Rattle.tp_run.specs.declared.fault.RunFault.TheVariants.{ConfirmRefused, FlushFailed, LastFlushFailed, Memory, OfferRefused, OutputFailed, Port, Spare, Unaccounted}
pub use Rattle.tp_run.specs.declared.job.Job.{Job}
pub use Rattle.tp_stream.specs.Put.{StreamedInto}
pub use Rattle.tp_stream.specs.declared.fault.StreamFault.{StreamFault}
pub use Rattle.tp_stream.specs.declared.fault.StreamFault.TheVariants.{Opening}
pub use Rattle.tp_words.specs.Args.{IsInRange}
pub use Rattle.tp_words.specs.Commands.{WasCommandTyped}
pub use Rattle.tp_words.specs.Typed.{has_word}
pub use Rattle.tp_words.specs.declared.args.Asked.{Asked}
pub use Rattle.tp_words.specs.declared.command.Command.{Command}
pub use Rattle.tp_words.specs.declared.command.Command.TheVariants.{Backup, Other, Stop, Stream}
