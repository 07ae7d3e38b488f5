-- What definitions and contracts here name of the crates below.
pub use Rattle.std.specs.List.{AllByRecursion}
pub use Rattle.tp_model.specs.DiskHistory.{IsSynced}
pub use Rattle.tp_model.specs.Journal.{is_roomy, room}
pub use Rattle.tp_model.specs.Node.{t414_ends}
pub use Rattle.tp_model.specs.Opening.{Opened}
unfoldable pub use Rattle.tp_model.specs.Opening.{verdict}
pub use Rattle.tp_model.specs.Spelling.{IsCut}
pub use Rattle.tp_model.specs.declared.limits.TheConstants.{MAX_STEPS}
pub use Rattle.tp_law_machine.specs.NodeOfBytes.{IsNodeOfBytes}
pub use Rattle.tp_disk.specs.Reads.{AreTrue}
pub use Rattle.tp_area.specs.Places.{place_at}
pub use Rattle.tp_shared.specs.Named.{Names}
pub use Rattle.tp_work.specs.declared.start.TheConstants.{MAX_SEATS}
pub use Rattle.tp_flush.specs.Made.{IsMadeOf}
pub use Rattle.tp_flush.specs.Rights.{Steps}
