-- What proofs here name of the crates below.
pub use Rattle.atomic_table.specs.Table.{Allows, Joins, Me, Splits, State, keeps}
pub use Rattle.crossbeam_queue.proofs.Lists.{at_set, at_snoc, set_else}
pub use Rattle.crossbeam_queue.specs.Fifo.{Forks, Learns, Merges, Pops, Pushes}
pub use Rattle.crossbeam_queue.specs.Passes.{ruled_capacity, view}
pub use Rattle.std.proofs.lemmas.Bool.Decides.{nat_tests}
pub use Rattle.std.proofs.lemmas.List.{take-append-drop}
pub use Rattle.std.proofs.lemmas.List.Elements.{All-push}
pub use Rattle.std.proofs.lemmas.List.Sums.{sum_by-append, sum_by-cons, sum_by_push}
pub use Rattle.std.specs.List.{enumerate_from}
pub use base.Algebras.{pcs, shares}
pub use base.Fml.{Fml, Lft, Share, fbor, flft, fobs, fsep, ftrue}
pub use base.Fraction.{full_share}
pub use base.FractionLaws.{not-OpDef-full_share}
pub use base.Logic.{SProp, emp, ent, ex, ex_e, ex_i, guard, guard_e, guard_i, id⊢, sep, upd, upd_i, upd_mono, via}
pub use base.SetCodes.{SetCoded-set, coded}
pub use base.Share.{quarter, quarters, three_quarters, three_quarters_once}
pub use base.Shift.{Keyless}
pub use base.Stored.{Coded, Gv, gnil}
pub use mathlib.Core.Logic.{dite}
pub use mathlib.Core.Option.{some, some-injective, some-ne-none}
pub use mathlib.Core.Path.{Path}
pub use mathlib.Mathlib.Data.Part.{◌∈◌}
pub use native.Mathlib.Decide.{dec_le, ℕ_discrete}
