-- What definitions and contracts here name of the crates below.
pub use Rattle.std.specs.List.{AllByRecursion, list_all}
pub use Rattle.std.specs.Option.{is_some}
pub use Rattle.tp_model.specs.CutImage.{is_line_of, is_port_of}
pub use Rattle.tp_model.specs.DeviceAreas.{numbered}
pub use Rattle.tp_model.specs.EntryBytes.{IsSpelt, is_in_range, is_of}
unfoldable pub use Rattle.tp_model.specs.Image.{node_of}
pub use Rattle.tp_model.specs.Network.{on_line}
pub use Rattle.tp_model.specs.NodeState.{NodeState}
pub use Rattle.tp_model.specs.Numbers.{AreNumbered}
pub use Rattle.tp_model.specs.Spelling.{are_lines, has_record}
pub use Rattle.tp_model.specs.declared.entry.Entry.{Entry}
pub use Rattle.tp_model.specs.declared.form.Form.TheVariants.{Turns}
pub use Rattle.tp_model.specs.declared.limits.TheConstants.{MAX_GROUP, NUMBER_LIMIT}
pub use Rattle.tp_law_machine.specs.NodeOfBytes.{IsNodeOfBytes}
pub use Rattle.tp_node.specs.NodeContents.{NodeContents}
pub use Rattle.tp_book.specs.Book.{BookValue}
pub use Rattle.tp_book.specs.Opened.{IsWellOpen, now_of}
pub use Rattle.tp_book.specs.PortParts.{port_made}
pub use Rattle.tp_replay.specs.Flat.{CanCount}
pub use Rattle.tp_turn.specs.Moments.{IsNodeOf}
pub use Rattle.tp_disk.specs.Reads.{AreTrue}
pub use Rattle.tp_area.specs.Other.{OtherIsClosed}
