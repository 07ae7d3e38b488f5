-- What definitions and contracts here name of the crates below.
pub use Rattle.std.specs.Coded.{Coded-set, coded_list, coded_ℕ}
pub use Rattle.std.specs.Int.{div_ceil}
pub use Rattle.std.specs.List.{AllByRecursion, AllByRecursion-prop, range_with_len}
pub use Rattle.tp_model.specs.Disk.{Call, MayBe, Moment, Read, Sync, Write, broken, done, within, written}
pub use Rattle.tp_model.specs.DiskHistory.{Counts, Fails, LeavesOnly, MomentPassed, State, moment}
pub use Rattle.tp_model.specs.StoreCalls.{Broke, Called}
