-- What the walks by hand cite.
pub use Rattle.std.proofs.Common.{ℕ, List, [], ◌∷◌, ◌++◌, refl, w64}
pub use Rattle.std.proofs.raw_atomic.Walks.{proved}
pub use base.Fml.{ftrue, fsep, feq, flft}
pub use mir.MapTy.{inst_fn}
pub use mir.Syntax.{Fn, a_type, named}
pub use mir.Val.{Val, vunit, vstruct, vcons, vnil, of_list}
pub use types.Kit.{‵, raw, ◌⊛◌, ◌$◌, ◌∵◌, !, qed, move, keep, split, join, fjoin, fjoin3, fpack, frame, suffices, feq_i}
pub use types.Run.{enter, of_opd, unit_lit, no_more, and_then, returns}
pub use types.ByLocal.{alloc_all, pass_all, free_all, look_at, get, sets}
pub use denote.Builtin.{u64, RefOf}
pub use denote.Exit.{yes}
pub use denote.Param.{layouts, param}
pub use denote.RattleType.{RattleType, Valss, owns}
pub use denote.Ref.{MutRef, mut_vals, mut_Tells, ShrRef, shr_vals, shr_Tells}
pub use denote.Signature.{plain}
pub use denote.Steps.{nothing, heard}
pub use denote.Triple.Walked.{Stays, walk_of, stay_ref, stay_dropped, Goes-ref, Goes-dropped, ends_at}
pub use types.Part.{agg}
pub use denote.Triple.Entry.{alive}
pub use denote.Plain.{uint_vals, uint_Tells}
