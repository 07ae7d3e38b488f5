-- A bundle without a slip owns nothing, so `empty` makes it out of nothing.
use Rattle.tp_ready.proofs.Walks.{[], ◌∷◌, refl, proved, ftrue, inst_fn, Fn, a_type, vstruct, vnil, ‵, raw, ◌⊛◌, ◌$◌, ◌∵◌, !, qed, move, keep, split, join, frame, suffices, enter, no_more, and_then, returns, alloc_all, pass_all, free_all, look_at, get, sets, agg, layouts, param, RattleType, alive, nothing, walk_of, ends_at}
use Rattle.tp_ready.proofs.Lent.{token, makes, tells, tells_last}
use Rattle.tp_ready.specs.contracts.slips.Slips as slips
use Rattle.tp_ready.specs.contracts.slips.empty as f
use Rattle.tp_ready.proofs.slips.empty.Statement.{statement}
use Rattle.tp_ready.proofs.slips.empty.Code as code

module _ (T : RattleType) where
  abbrev A : RattleType
  A = slips.the_row (param 0 T)

  abbrev function : Fn
  function = inst_fn (layouts (a_type ∷ []) (T, tt)) code.function

pub empty_spec : {M : Type 1} → statement M
empty_spec 𝓤 𝓛 𝓜 𝓡 wired T laws =
    let c = f.clauses T 𝓛 𝓜.mem 𝓡.returns in let W = walk_of 𝓛 (f.ended T) tt c in
    proved 𝓛 (f.ended T) tt c 𝓜 𝓡 tt (f.Key.name (layouts (a_type ∷ []) (T, tt))) (function T) (code.unfolded 𝓤 𝓛.H 𝓜 𝓡 wired (T, tt)) (λ κs. tt) (λ κs. tt) (λ κs qs bounds a name are.
    let y : W.Ghost = ((κs, qs, bounds, a, tt), name) in let none : (A T).Denot = record { marker = record {}; name = name; items = [] } in
    qed 𝓛 ((raw (alive 𝓛 (f.ended T).signature κs qs) ⊛ ‵ ftrue) ∷ raw ((c κs a).requires name) ∷ []) ∵ split ! $ keep ! (0 ∷ []) $
    enter ! _ _ _ _ _ $ alloc_all ! (λ l. pass_all ! refl tt $
    sets ! (agg ! (no_more !)) refl (tt, tt) $ sets ! (agg ! (and_then ! (get ! refl) (no_more !))) refl (tt, (tt, tt)) $
    returns ! (look_at ! 0 refl) $ free_all ! refl $
    suffices ! _ (ends_at 𝓛 (f.ended T) tt c y token none tt tt) $ nothing ! $
    makes ! (A T) none (token ∷ []) refl (λ vss. (tt, ((λ uss. (tt, tt)), tt))) ((vstruct vnil ∷ [], tt), (refl, ((tt, (refl, tt)), tt))) $
    nothing ! $ join ! $ move ! (1 ∷ 0 ∷ []) $ join ! $ frame ! $ tells ! refl $ tells_last ! refl))
