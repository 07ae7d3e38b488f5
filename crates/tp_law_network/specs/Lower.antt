-- What definitions and contracts here name of the crates below.
pub use Rattle.std.specs.List.{AllByRecursion, count_by}
pub use Rattle.std.specs.Option.{option_map}
pub use Rattle.tp_model.specs.Acknowledged.{IsAcknowledged, IsShown}
pub use Rattle.tp_model.specs.Acts.{Act, Begin, Close, CutHolds, IsOpened, Journal, Record, Trim}
unfoldable pub use Rattle.tp_model.specs.Acts.{acted, happens}
pub use Rattle.tp_model.specs.Areas.{Areas, AreasHold, Held, gate_closed, gate_open, next_number}
pub use Rattle.tp_model.specs.Counted.{accepted, came_out, is_input, is_output}
pub use Rattle.tp_model.specs.Disk.{AreWithin, Call, IsWithin, MayBe, Moment, Read, Sync, Write, done, written}
pub use Rattle.tp_model.specs.DiskHistory.{LeavesOnly, State}
unfoldable pub use Rattle.tp_model.specs.Entries.{acts, does, next, process, takes}
pub use Rattle.tp_model.specs.Halves.{BookState, marked, whole_in, with_begin, with_close, with_close_over, with_half, with_record, with_trim}
pub use Rattle.tp_model.specs.Markers.{before, has_marker, markers, plain_network}
pub use Rattle.tp_model.specs.Network.{Machine, Network, OfHost, OfNode, Own, Port, for_line, has_wire, is_first, on_line, ◌>>=◌}
unfoldable pub use Rattle.tp_model.specs.Network.{own, steps, taken}
pub use Rattle.tp_model.specs.Node.{t414, t414_ends}
pub use Rattle.tp_model.specs.NodeState.{NodeState}
pub use Rattle.tp_model.specs.Order.{AreIndependent, Reorder, post, pre}
unfoldable pub use Rattle.tp_model.specs.Order.{after, chosen, made}
pub use Rattle.tp_model.specs.Replay.{Replay, row_entry}
unfoldable pub use Rattle.tp_model.specs.Replay.{after_rows}
pub use Rattle.tp_model.specs.Runs.{Acts, BeginsFormatted, Copies, Does, Event, HasCut, Raises, Recovers, Reopens, Run, Step, World, fresh, is_trim, reopened}
pub use Rattle.tp_model.specs.Snapshot.{MarkedNetwork, Snapshot, count_of, has_recorded, is_closed, taker}
pub use Rattle.tp_model.specs.Sound.{Sound, acks, datas, owner}
pub use Rattle.tp_model.specs.StoreCalls.{clear_calls, group_calls, put_calls, switch_calls, tail_calls}
pub use Rattle.tp_model.specs.Turn.{by_line, by_link, comes_in}
unfoldable pub use Rattle.tp_model.specs.Turn.{turned}
pub use Rattle.tp_model.specs.Walks.{AreWalked, RecoversTo, Walks}
pub use Rattle.tp_model.specs.WholeCut.{IsWhole, WholeCut, all_some, count_in}
unfoldable pub use Rattle.tp_model.specs.WholeCut.{whole}
pub use Rattle.tp_model.specs.WriteOrder.{Allows, Body, Cleared, Gate, Opened, Opening, Position, Ready, Resting, Tail, left, reached}
pub use Rattle.tp_model.specs.declared.entry.Entry.{Entry}
pub use Rattle.tp_model.specs.declared.entry.Entry.TheVariants.{HostIn, Take, Turn}
pub use Rattle.tp_model.specs.declared.form.Form.{Form}
pub use Rattle.tp_model.specs.declared.limits.TheConstants.{GATE_CLOSED, GATE_OPEN, MAX_STEPS, NUMBER_LIMIT}
pub use Rattle.tp_model.specs.declared.link.Received.{Received}
pub use Rattle.tp_model.specs.declared.link.Token.{Token}
pub use Rattle.tp_model.specs.declared.link.Token.TheVariants.{Marker}
pub use Rattle.tp_model.specs.declared.opening.OpenFault.TheVariants.{Damaged}
