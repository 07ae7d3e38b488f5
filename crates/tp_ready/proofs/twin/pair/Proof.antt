-- `pair` makes a name, and gives each of the two its half.
use Rattle.tp_ready.proofs.Walks.{List, [], ◌∷◌, ◌++◌, refl, proved, ftrue, fsep, feq, inst_fn, Fn, a_type, Val, vstruct, vcons, vnil, of_list, ‵, raw, ◌⊛◌, ◌$◌, ◌∵◌, !, qed, move, keep, split, join, fjoin, fjoin3, fpack, frame, suffices, feq_i, enter, no_more, and_then, returns, alloc_all, pass_all, free_all, look_at, get, sets, agg, layouts, param, RattleType, Valss, owns, alive, nothing, walk_of, ends_at}
use types.Tokens.{name_new}
use Rattle.tp_ready.proofs.Lent.{token, makes, tells, tells_last}
use Rattle.tp_ready.specs.contracts.twin.Seal as seal
use Rattle.tp_ready.specs.contracts.twin.Key as key
use Rattle.tp_ready.specs.contracts.twin.pair as f
use Rattle.tp_ready.proofs.twin.pair.Statement.{statement}
use Rattle.tp_ready.proofs.twin.pair.Code as code

module _ (T : RattleType) where
  abbrev A : RattleType
  A = seal.the_row (param 0 T)

  abbrev B : RattleType
  B = key.the_row (param 0 T)

  abbrev function : Fn
  function = inst_fn (layouts (a_type ∷ []) (T, tt)) code.function

  abbrev both : Val
  both = vstruct (vcons token (vcons token vnil))

pub pair_spec : {M : Type 1} → statement M
pair_spec 𝓤 𝓛 𝓜 𝓡 wired T laws =
    let c = f.clauses T 𝓛 𝓜.mem 𝓡.returns in let W = walk_of 𝓛 (f.ended T) tt c in
    proved 𝓛 (f.ended T) tt c 𝓜 𝓡 tt (f.Key.name (layouts (a_type ∷ []) (T, tt))) (function T) (code.unfolded 𝓤 𝓛.H 𝓜 𝓡 wired (T, tt)) (λ κs. tt) (λ κs. tt) (λ κs qs bounds a first are.
    let y : W.Ghost = ((κs, qs, bounds, a, tt), first) in
    qed 𝓛 ((raw (alive 𝓛 (f.ended T).signature κs qs) ⊛ ‵ ftrue) ∷ raw ((c κs a).requires first) ∷ []) ∵ split ! $ keep ! (0 ∷ []) $
    enter ! _ _ _ _ _ $ alloc_all ! (λ l. pass_all ! refl tt $ name_new ! tt (T.coded.code first) (λ name.
    sets ! (agg ! (no_more !)) refl (tt, tt) $ sets ! (agg ! (and_then ! (get ! refl) (no_more !))) refl (tt, (tt, tt)) $
    sets ! (agg ! (no_more !)) refl (tt, tt) $ sets ! (agg ! (and_then ! (get ! refl) (no_more !))) refl (tt, (tt, tt)) $
    sets ! (agg ! (and_then ! (get ! refl) (and_then ! (get ! refl) (no_more !)))) refl (tt, ((tt, tt), ((tt, tt), tt))) $
    returns ! (look_at ! 0 refl) $ free_all ! refl $
    let s : (A T).Denot = record { marker = record {}; name = name; value = first } in let k : (B T).Denot = record { marker = record {}; name = name; value = first } in
    suffices ! _ (ends_at 𝓛 (f.ended T) tt c y (both T) (s, k) tt tt) $
    makes ! (B T) k (token ∷ []) refl (λ vss. (tt, ((λ uss. (tt, tt)), tt))) ((vstruct vnil ∷ [], tt), (refl, ((tt, (refl, tt)), tt))) $ move ! (1 ∷ []) $
    makes ! (A T) s (token ∷ []) refl (λ vss. (tt, ((λ uss. (tt, tt)), tt))) ((vstruct vnil ∷ [], tt), (refl, ((tt, (refl, tt)), tt))) $
    nothing ! $ move ! (1 ∷ 2 ∷ 0 ∷ []) $ fjoin3 ! $ feq_i ! (List Val) (both T ∷ []) (both T ∷ []) refl $ fjoin ! $
    fpack ! (Valss (A T ∷ B T ∷ [])) (λ vss. fsep (feq (List Val) (both T ∷ []) (vstruct (of_list (vss.0 ++ (vss.1.0 ++ []))) ∷ [])) (owns (A T ∷ B T ∷ []) (s, (k, tt)) vss)) (token ∷ [], (token ∷ [], tt)) $
    nothing ! $ join ! $ move ! (1 ∷ 0 ∷ []) $ join ! $ frame ! $ tells ! refl $ tells ! refl $ tells_last ! refl)))
