-- What proofs here name of the crates below.
pub use Rattle.std.proofs.Math.Seq.{drop-length}
pub use Rattle.std.proofs.lemmas.Bool.{cases_lt}
pub use Rattle.std.proofs.lemmas.Bool.Decides.{nat_tests}
pub use Rattle.std.proofs.lemmas.Grind.{same_number_lists}
pub use Rattle.std.proofs.lemmas.List.{append-nil, drop-append-le, get_or-append_right, get_or-drop, get_or-take, get_or_append_left, get_or_past, length-replicate, length-take, length-take-le, take-replicate}
pub use Rattle.std.proofs.lemmas.List.FromFn.{map-range_with_len_more}
pub use Rattle.std.proofs.lemmas.Result.{IfOk-from_err, on_err_weaker}
pub use Rattle.std.specs.Int.{div_ceil}
pub use Rattle.std.specs.List.{range_with_len}
pub use Rattle.tp_model.specs.Disk.{Call, IsOutside, IsWithin, MayBe, Moment, Read, SameOutside, Sync, Write, broken, done, within, written}
pub use Rattle.tp_model.specs.DiskHistory.{Fails, IsSynced, LeavesOnly, MayHaveLeft, MomentPassed, SomeMay, State, moment}
pub use Rattle.tp_model.specs.StoreCalls.{Broke, Called, all_done, moments_of}
pub use Rattle.tp_law_machine.proofs.Partial.{all_append}
