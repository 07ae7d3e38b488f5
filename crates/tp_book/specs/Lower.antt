-- What definitions and contracts here name of the crates below.
pub use Rattle.std.specs.Borrow.{ftrue}
pub use Rattle.std.specs.List.{AllByRecursion, list_all, range_with_len, zip}
pub use Rattle.std.specs.Option.{option_copied, option_map}
pub use Rattle.tp_model.specs.Acts.{Act, Begin, Close, CutHolds, IsOpened as IsFirst, Journal, Journal as Journalled, Record, Trim}
unfoldable pub use Rattle.tp_model.specs.Acts.{acted, happens}
pub use Rattle.tp_model.specs.CutTail.{tail_of}
pub use Rattle.tp_model.specs.Entries.{port_took}
unfoldable pub use Rattle.tp_model.specs.Entries.{process}
pub use Rattle.tp_model.specs.EntryBytes.{AreOf, IsSpelt, is_in_range, is_of, is_received}
pub use Rattle.tp_model.specs.Halves.{BookState, live, marked, with_half, with_trim}
unfoldable pub use Rattle.tp_model.specs.Image.{node_at, node_of}
pub use Rattle.tp_model.specs.Journal.{entry_room, is_full, is_full_for_cut, is_full_for_snapshot}
pub use Rattle.tp_model.specs.Markers.{before, has_marker, is_marker, markers, plain, plain_network, unmarked}
pub use Rattle.tp_model.specs.Network.{Network, Port, has_wire, is_first, is_wired, on_line, process_at, receiver}
unfoldable pub use Rattle.tp_model.specs.Network.{pushed, sent, steps, taken}
pub use Rattle.tp_model.specs.Node.{on_link, t414, t414_ends}
unfoldable pub use Rattle.tp_model.specs.Node.{took}
pub use Rattle.tp_model.specs.NodeState.{NodeState}
pub use Rattle.tp_model.specs.Numbers.{AreNumbered}
pub use Rattle.tp_model.specs.Opening.{Opened}
pub use Rattle.tp_model.specs.OpensTo.{book_of}
pub use Rattle.tp_model.specs.Order.{post, pre}
unfoldable pub use Rattle.tp_model.specs.Order.{after, made}
pub use Rattle.tp_model.specs.Runs.{HasCut}
pub use Rattle.tp_model.specs.Snapshot.{MarkedNetwork, Snapshot, closed_over, collected, count_of, first_snapshot, has_recorded, host_markers, is_closed, node_markers, with_closed, with_count}
pub use Rattle.tp_model.specs.Sound.{Sound, acks, datas}
pub use Rattle.tp_model.specs.Turn.{by_line, by_link, incoming, received}
unfoldable pub use Rattle.tp_model.specs.Turn.{turned}
pub use Rattle.tp_model.specs.WholeCut.{IsWhole, WholeCut, all_closed, all_some, count_in, network_in, whole_of}
unfoldable pub use Rattle.tp_model.specs.WholeCut.{whole}
pub use Rattle.tp_model.specs.declared.entry.Entry.{Entry}
pub use Rattle.tp_model.specs.declared.entry.Entry.TheVariants.{Confirm, HostIn, Run, Take, Turn}
pub use Rattle.tp_model.specs.declared.form.Form.{Form}
pub use Rattle.tp_model.specs.declared.form.Form.TheVariants.{Turns}
pub use Rattle.tp_model.specs.declared.limits.TheConstants.{MAX_HELD, MAX_NODES, MAX_PORTS, MAX_STEPS, NUMBER_LIMIT}
pub use Rattle.tp_model.specs.declared.link.Received.{Received}
pub use Rattle.tp_model.specs.declared.link.Received.TheVariants.{AckThenData, DataThenAck, JustAck, JustData, Nothing}
pub use Rattle.tp_model.specs.declared.link.Token.{Token}
pub use Rattle.tp_model.specs.declared.link.Token.TheVariants.{Ack, Data, Marker}
pub use Rattle.tp_model.specs.declared.wire.WireEnd.{WireEnd}
pub use Rattle.tp_model.specs.declared.wire.WireEnd.TheVariants.{Link, Port as AtPort}
pub use Rattle.tp_law_machine.specs.NodeOfBytes.{CarryBytes}
pub use Rattle.tp_law_network.specs.Invariant.{CutInvariant}
pub use Rattle.tp_law_network.specs.Reserved.{HasTurned, turn_acts, turn_entries}
pub use Rattle.tp_net.specs.declared.line.TheConstants.{LINE_TOKENS}
