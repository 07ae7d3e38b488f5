-- What definitions and contracts here name of the crates below.
pub use Rattle.std.specs.List.{AllByRecursion, count_by}
pub use Rattle.tp_model.specs.Acknowledged.{IsAcknowledged, IsShown}
pub use Rattle.tp_model.specs.Acts.{Act, Begin, Close, CutHolds, IsOpened, Journal, Record}
unfoldable pub use Rattle.tp_model.specs.Acts.{acted, happens}
pub use Rattle.tp_model.specs.Areas.{AreasHold, Held, gate_open, next_number}
pub use Rattle.tp_model.specs.Bytes.{zeros}
pub use Rattle.tp_model.specs.CopySpelt.{CopySpelt}
pub use Rattle.tp_model.specs.Counted.{accepted, came_out, is_input, is_output}
pub use Rattle.tp_model.specs.CutOrder.{HasOrder}
pub use Rattle.tp_model.specs.CutTail.{tail_of}
pub use Rattle.tp_model.specs.Device.{area_start, content_of, fits_device}
pub use Rattle.tp_model.specs.DeviceAreas.{areas_of, device_areas, has_room, numbered, other_content, other_is_open, other_start}
pub use Rattle.tp_model.specs.Disk.{IsWithin, MayBe, written}
unfoldable pub use Rattle.tp_model.specs.Entries.{next, process}
pub use Rattle.tp_model.specs.Format.{IsFormatted, fresh_port, start_of}
pub use Rattle.tp_model.specs.FrozenAs.{IsFrozenAs}
pub use Rattle.tp_model.specs.Group.{group_bytes, group_length, rows_of}
pub use Rattle.tp_model.specs.Head.{areas_of_length, head_length, keeps_limits, version_for}
unfoldable pub use Rattle.tp_model.specs.Head.{head_bytes, head_of}
pub use Rattle.tp_model.specs.Image.{IsNode, page_count}
unfoldable pub use Rattle.tp_model.specs.Image.{image, image_head}
pub use Rattle.tp_model.specs.Journal.{cut_length, entry_room, is_full, is_full_for_cut, is_roomy, reserve, room}
pub use Rattle.tp_model.specs.KeptRun.{HasByte, KeptRun}
pub use Rattle.tp_model.specs.Markers.{markers, plain_network}
pub use Rattle.tp_model.specs.Network.{Machine, Network, Port, on_line}
pub use Rattle.tp_model.specs.Node.{t414, t414_ends}
pub use Rattle.tp_model.specs.NodeState.{NodeState}
pub use Rattle.tp_model.specs.Numbers.{AreNumbered}
pub use Rattle.tp_model.specs.OpenedCopy.{opened_copy}
pub use Rattle.tp_model.specs.Opening.{Opened, StandsFor, groups_place, held_of, network_of, next_of}
unfoldable pub use Rattle.tp_model.specs.Opening.{verdict}
pub use Rattle.tp_model.specs.OpensTo.{OpensTo, book_of}
pub use Rattle.tp_model.specs.Order.{AreIndependent, post, pre}
unfoldable pub use Rattle.tp_model.specs.Order.{after}
pub use Rattle.tp_model.specs.PiecesStand.{IsSized, IsThere, PiecesStand}
pub use Rattle.tp_model.specs.Runs.{BeginsFormatted, Event, HasCut, Recovers, Reopens, Step, World, copy_of, fresh, is_trim, reopened}
pub use Rattle.tp_model.specs.Snapshot.{MarkedNetwork}
pub use Rattle.tp_model.specs.Sound.{EndsSeen, Sound}
pub use Rattle.tp_model.specs.Spelling.{DeviceSpells, IsCut, IsGroup, SpellsArea, entries_in}
unfoldable pub use Rattle.tp_model.specs.Spelling.{front_bytes, groups_bytes}
pub use Rattle.tp_model.specs.StoreCalls.{all_done, put_calls}
pub use Rattle.tp_model.specs.Topology.{Topology}
unfoldable pub use Rattle.tp_model.specs.Topology.{is_topology}
pub use Rattle.tp_model.specs.WholeCut.{IsWhole, WholeCut, all_some, count_in, network_in, trimmed}
unfoldable pub use Rattle.tp_model.specs.WholeCut.{whole}
pub use Rattle.tp_model.specs.WriteOrder.{Resting}
pub use Rattle.tp_model.specs.declared.areas.TwoAreas.{TwoAreas}
pub use Rattle.tp_model.specs.declared.entry.Entry.{Entry}
pub use Rattle.tp_model.specs.declared.entry.Entry.TheVariants.{Run, Take, Turn}
pub use Rattle.tp_model.specs.declared.form.Form.{Form}
pub use Rattle.tp_model.specs.declared.form.Form.TheVariants.{Plain, Turns}
pub use Rattle.tp_model.specs.declared.head.HeadVersion.{HeadVersion}
pub use Rattle.tp_model.specs.declared.head.HeadVersion.TheVariants.{Narrow}
pub use Rattle.tp_model.specs.declared.limits.TheConstants.{AREA_HEAD_BYTES, ENTRY_BYTES, GATE_CLOSED, GATE_OPEN, GROUP_HEAD_BYTES, IMAGE_HEAD_BYTES, MAX_GROUP, NUMBER_LIMIT, PAGE_BYTES}
pub use Rattle.tp_model.specs.declared.link.Received.TheVariants.{JustAck, Nothing}
pub use Rattle.tp_model.specs.declared.link.Token.TheVariants.{Ack, Data}
pub use Rattle.tp_model.specs.declared.opening.OpenFault.TheVariants.{Damaged}
pub use Rattle.tp_model.specs.declared.wire.WireEnd.TheVariants.{Link, Port as AtPort}
pub use Rattle.tp_law_machine.specs.NodeOfBytes.{IsNodeOfBytes}
pub use Rattle.tp_law_machine.specs.OneNode.{one_after, one_before, one_node}
pub use Rattle.tp_law_machine.specs.Transfers.{awaits, sending_node}
