-- What definitions and contracts here name of the crates below.
pub use Rattle.std.specs.Borrow.{ftrue}
pub use Rattle.std.specs.List.{AllByRecursion}
pub use Rattle.std.specs.declared.alloc.Global.{Global}
pub use Rattle.tp_model.specs.CutImage.{is_port_of, node_with, or_damaged, port_with}
unfoldable pub use Rattle.tp_model.specs.CutImage.{lines_in, nodes_in, ports_in}
pub use Rattle.tp_model.specs.Device.{area_start, areas_end, content_of}
pub use Rattle.tp_model.specs.Disk.{MayBe, Moment, Sync, done, written}
pub use Rattle.tp_model.specs.DiskHistory.{Counts, LeavesOnly, State}
unfoldable pub use Rattle.tp_model.specs.Entries.{next}
pub use Rattle.tp_model.specs.EntryBytes.{AreOf, IsSpelt, is_in_range}
pub use Rattle.tp_model.specs.Flight.{is_in_one_place}
unfoldable pub use Rattle.tp_model.specs.Flight.{flights_in}
pub use Rattle.tp_model.specs.Group.{group_at, group_length}
pub use Rattle.tp_model.specs.Head.{Head, head_length}
unfoldable pub use Rattle.tp_model.specs.Head.{head_of}
pub use Rattle.tp_model.specs.Image.{page_count}
unfoldable pub use Rattle.tp_model.specs.Image.{image}
pub use Rattle.tp_model.specs.Journal.{image_length, is_roomy, room}
pub use Rattle.tp_model.specs.Markers.{markers}
pub use Rattle.tp_model.specs.Network.{Network, Port, back, on_line}
pub use Rattle.tp_model.specs.Node.{t414, t414_ends}
pub use Rattle.tp_model.specs.NodeState.{NodeState}
pub use Rattle.tp_model.specs.Numbers.{AreNumbered}
pub use Rattle.tp_model.specs.Opening.{Opened, base_of, choice, closed_in, groups_place, lines_place, next_of, nodes_place, ports_place}
unfoldable pub use Rattle.tp_model.specs.Opening.{area_in, chosen_area, cut_in, verdict}
unfoldable pub use Rattle.tp_model.specs.Order.{after}
pub use Rattle.tp_model.specs.Replay.{Listing, Replay, after_row, group_rows_at, replay_from, row_entry}
unfoldable pub use Rattle.tp_model.specs.Replay.{after_rows, listing}
pub use Rattle.tp_model.specs.Results.{◌>>=◌}
pub use Rattle.tp_model.specs.Sound.{acks, datas, end_holds, end_waits}
pub use Rattle.tp_model.specs.Spelling.{IsCut, are_lines}
pub use Rattle.tp_model.specs.Topology.{line_count}
unfoldable pub use Rattle.tp_model.specs.Topology.{is_topology}
pub use Rattle.tp_model.specs.declared.entry.Entry.{Entry}
pub use Rattle.tp_model.specs.declared.form.Form.{Form}
pub use Rattle.tp_model.specs.declared.group.BadGroup.{BadGroup}
pub use Rattle.tp_model.specs.declared.head.HeadVersion.TheVariants.{Wide}
pub use Rattle.tp_model.specs.declared.limits.TheConstants.{AREA_HEAD_BYTES, GATE_CLOSED, GATE_OPEN, GROUP_HEAD_BYTES, MAX_HELD, NUMBER_LIMIT}
pub use Rattle.tp_model.specs.declared.link.Token.{Token}
pub use Rattle.tp_model.specs.declared.opening.OpenFault.{OpenFault}
pub use Rattle.tp_model.specs.declared.opening.OpenFault.TheVariants.{Damaged}
pub use Rattle.tp_model.specs.declared.wire.WireEnd.{WireEnd}
pub use Rattle.tp_law_machine.specs.NodeOfBytes.{IsNodeOfBytes}
unfoldable pub use Rattle.tp_law_network.specs.Reach.{reach}
pub use Rattle.tp_law_network.specs.Readable.{bare, may_have}
unfoldable pub use Rattle.tp_law_network.specs.Readable.{readable}
pub use Rattle.tp_law_network.specs.RowsStop.{least_behind}
pub use Rattle.tp_node.specs.NodeContents.{NodeContents}
pub use Rattle.tp_net.specs.declared.line.TheConstants.{LINE_TOKENS}
pub use Rattle.tp_book.specs.Counted.{AreCounted}
pub use Rattle.tp_book.specs.Joined.{FitsRoom}
pub use Rattle.tp_book.specs.Opened.{IsWellOpen, cut_of, now_of}
pub use Rattle.tp_book.specs.PortParts.{port_made}
pub use Rattle.tp_replay.specs.Apart.{CanSplit, network_apart}
pub use Rattle.tp_replay.specs.Flat.{IsFlat}
pub use Rattle.tp_replay.specs.NodesInside.{AreLive}
pub use Rattle.tp_replay.specs.Rows.{ReplaysRow, ReplaysRows}
pub use Rattle.tp_replay.specs.declared.fault.ReplayFault.{ReplayFault}
pub use Rattle.tp_replay.specs.declared.fault.ReplayFault.TheVariants.{Damaged as Damages, Memory as WantsMemory}
pub use Rattle.tp_disk.specs.Reads.{AreTrue, WereTrue}
pub use Rattle.tp_area.specs.Appended.{append_refusal}
pub use Rattle.tp_area.specs.Capacity.{left_behind}
pub use Rattle.tp_area.specs.Fronts.{area_front, front_given}
pub use Rattle.tp_area.specs.Heads.{head_in, version_in}
pub use Rattle.tp_area.specs.Lines.{tokens_on}
pub use Rattle.tp_area.specs.Places.{place_at}
pub use Rattle.tp_area.specs.Ports.{port_said as record_of}
pub use Rattle.tp_area.specs.Rights.{Copies}
pub use Rattle.tp_area.specs.Tails.{tail_refusal}
pub use Rattle.tp_area.specs.declared.encoding.front.CutFront.{CutFront}
pub use Rattle.tp_area.specs.declared.encoding.front.TheConstants.{AREA_FRONT_BYTES}
pub use Rattle.tp_area.specs.declared.journal.JournalRoom.{JournalRoom}
pub use Rattle.tp_area.specs.declared.layout_place.Places.{Places}
pub use Rattle.tp_area.specs.declared.place.Place.{Place}
