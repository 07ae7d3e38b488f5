-- What definitions and contracts here name of the crates below.
pub use Rattle.std.specs.Option.{option_map}
pub use Rattle.tp_model.specs.Entries.{confirmed, handed_in, port_took}
unfoldable pub use Rattle.tp_model.specs.Entries.{acts, next, process, takes}
pub use Rattle.tp_model.specs.EntryBytes.{AreOf}
unfoldable pub use Rattle.tp_model.specs.Flight.{flights_in}
unfoldable pub use Rattle.tp_model.specs.Image.{image, node_at, node_of}
pub use Rattle.tp_model.specs.Markers.{is_marker, markers}
pub use Rattle.tp_model.specs.Network.{Machine, Network, Port, has_wire, is_first, on_line, receiver, ◌>>=◌}
unfoldable pub use Rattle.tp_model.specs.Network.{pushed, sent, steps, taken}
pub use Rattle.tp_model.specs.Node.{on_link, t414, t414_ends}
unfoldable pub use Rattle.tp_model.specs.Node.{node_step, took}
pub use Rattle.tp_model.specs.NodeState.{NodeState}
pub use Rattle.tp_model.specs.Numbers.{AreNumbered}
unfoldable pub use Rattle.tp_model.specs.Order.{after}
pub use Rattle.tp_model.specs.Replay.{Replay, after_entry, after_row, is_number, replay_from}
unfoldable pub use Rattle.tp_model.specs.Replay.{after_rows}
pub use Rattle.tp_model.specs.Sound.{Sound, Wired}
pub use Rattle.tp_model.specs.Turn.{by_line, by_link, comes_in, incoming, is_link, received}
unfoldable pub use Rattle.tp_model.specs.Turn.{took_all, turned}
pub use Rattle.tp_model.specs.declared.entry.Entry.{Entry}
pub use Rattle.tp_model.specs.declared.entry.Entry.TheVariants.{Confirm, HostIn, Run, Take, Turn}
pub use Rattle.tp_model.specs.declared.form.Form.{Form}
pub use Rattle.tp_model.specs.declared.limits.TheConstants.{MAX_NODES, MAX_PORTS, MAX_STEPS, NUMBER_LIMIT}
pub use Rattle.tp_model.specs.declared.link.Received.{Received}
pub use Rattle.tp_model.specs.declared.link.Token.{Token}
pub use Rattle.tp_model.specs.declared.link.Token.TheVariants.{Data}
pub use Rattle.tp_model.specs.declared.opening.OpenFault.{OpenFault}
pub use Rattle.tp_model.specs.declared.opening.OpenFault.TheVariants.{Damaged as DamagedAt}
pub use Rattle.tp_model.specs.declared.processor.State.TheVariants.{Idle}
pub use Rattle.tp_model.specs.declared.wire.WireEnd.{WireEnd}
pub use Rattle.tp_model.specs.declared.wire.WireEnd.TheVariants.{Link}
pub use Rattle.tp_law_machine.specs.NodeOfBytes.{CarriesByte, CarryBytes, IsNodeOfBytes}
unfoldable pub use Rattle.tp_law_network.specs.InPiece.{next_in}
pub use Rattle.tp_law_network.specs.Piece.{Agrees, Covers, Piece, sends}
unfoldable pub use Rattle.tp_law_network.specs.Piece.{from_piece}
unfoldable pub use Rattle.tp_law_network.specs.Reach.{after_by, reach}
pub use Rattle.tp_law_network.specs.Readable.{bare}
pub use Rattle.tp_law_network.specs.Stops.{IsOverfull, StopsAt}
pub use Rattle.tp_law_network.specs.Turns.{IsFront}
pub use Rattle.tp_node.specs.NodeContents.{NodeContents}
pub use Rattle.tp_book.specs.Counted.{AreCounted}
pub use Rattle.tp_book.specs.Parts.{network_made}
pub use Rattle.tp_book.specs.PortParts.{port_made}
pub use Rattle.tp_book.specs.Ports.{PortValue}
pub use Rattle.tp_book.specs.Room.{from_line}
pub use Rattle.tp_book.specs.Sends.{sends_on}
pub use Rattle.tp_book.specs.declared.parts.NetParts.{NetParts}
