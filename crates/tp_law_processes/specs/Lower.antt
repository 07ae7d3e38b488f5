-- What definitions and contracts here name of the crates below.
pub use Rattle.std.specs.Io.KnownBytes.{Appends}
pub use Rattle.std.specs.List.{AllByRecursion}
pub use Rattle.tp_model.specs.Counted.{is_at}
pub use Rattle.tp_model.specs.DeviceAreas.{device_areas}
pub use Rattle.tp_model.specs.DiskHistory.{IsSynced, MayHaveLeft, State, moment}
pub use Rattle.tp_model.specs.Network.{Network, Port, receiver}
pub use Rattle.tp_model.specs.Node.{t414}
pub use Rattle.tp_model.specs.NodeState.{NodeState}
pub use Rattle.tp_model.specs.Opening.{Opened, next_of}
unfoldable pub use Rattle.tp_model.specs.Opening.{verdict}
unfoldable pub use Rattle.tp_model.specs.Order.{after}
pub use Rattle.tp_model.specs.Runs.{BeginsFormatted, World}
pub use Rattle.tp_model.specs.declared.entry.Entry.{Entry}
pub use Rattle.tp_model.specs.declared.entry.Entry.TheVariants.{Confirm, HostIn, Run, Take, Turn}
pub use Rattle.tp_model.specs.declared.link.Token.TheVariants.{Ack, Data, Marker}
pub use Rattle.tp_model.specs.declared.wire.WireEnd.{WireEnd}
pub use Rattle.tp_recover.specs.Reading.{LeavesNothingNew}
pub use Rattle.tp_shared.specs.BytesIn.{bytes_in}
pub use Rattle.tp_flush.specs.Known.{Began}
pub use Rattle.tp_stream_files.specs.Inputs.{GivenInput}
pub use Rattle.tp_stream_files.specs.Outputs.{OutputValue, given_of}
pub use Rattle.tp_stream_files.specs.declared.ending.Ended.{Ended}
pub use Rattle.tp_run.specs.Compacted.{Compacted}
pub use Rattle.tp_run.specs.Outlet.{OutletValue}
pub use Rattle.tp_run.specs.Outset.{outset_in}
pub use Rattle.tp_run.specs.Ran.{IsCalled, RanInto}
pub use Rattle.tp_run.specs.Worked.{Worked}
pub use Rattle.tp_run.specs.declared.compacting.CompactFault.{CompactFault}
pub use Rattle.tp_run.specs.declared.compacting.Compaction.{Compaction}
pub use Rattle.tp_run.specs.declared.fault.RunFault.{RunFault}
pub use Rattle.tp_run.specs.declared.job.Job.{Job}
pub use Rattle.tp_stream.specs.Accounted.{MadeByTurns}
pub use Rattle.tp_stream.specs.Confirmed.{WasPutUpto}
pub use Rattle.tp_stream.specs.HandedFrom.{CameFrom}
pub use Rattle.tp_stream.specs.Put.{AreShown, EachWith, Got, PutPiece, StreamedInto, port_or_fresh}
pub use Rattle.tp_stream.specs.Standing.{from_of, stands_opened}
pub use Rattle.tp_stream.specs.declared.fault.StreamFault.{StreamFault}
