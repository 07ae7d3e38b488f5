-- `set` sets what both halves own to the value.
use Rattle.tp_ready.proofs.Walks.{List, [], ◌∷◌, refl, proved, ftrue, fsep, flft, inst_fn, Fn, a_type, named, Val, vunit, ‵, raw, ◌⊛◌, ◌$◌, ◌∵◌, !, qed, move, join, fjoin, frame, suffices, feq_i, enter, of_opd, unit_lit, returns, alloc_all, pass_all, free_all, look_at, sets, RefOf, ShrRef, shr_vals, shr_Tells, yes, layouts, param, RattleType, MutRef, mut_vals, mut_Tells, plain, nothing, heard, Stays, stay_ref, stay_dropped, Goes-ref, Goes-dropped, walk_of, ends_at}
use Rattle.tp_ready.proofs.Lent.{unpacks, packs, both, hears, tells, tells_last}
use Rattle.tp_ready.proofs.Twins.{turns}
use Rattle.tp_ready.specs.contracts.twin.Seal as seal
use Rattle.tp_ready.specs.contracts.twin.Key as key
use Rattle.tp_ready.specs.contracts.twin.set as f
use Rattle.tp_ready.proofs.twin.set.Statement.{statement}
use Rattle.tp_ready.proofs.twin.set.Code as code

module _ (T : RattleType) where
  abbrev A : RattleType
  A = seal.the_row (param 0 T)

  abbrev B : RattleType
  B = key.the_row (param 0 T)

module _ (T W : RattleType) where
  abbrev stayed : Stays (f.ended T W).signature.params (f.ended T W).kept
  stayed = (stay_ref (0 ∷ []) tt (plain (λ _. A T)), (stay_ref (1 ∷ []) tt (plain (λ _. B T)), (stay_dropped (RefOf (2 ∷ []) tt (plain (λ _. param 1 W)) (λ _. tt)) yes, tt)))

  abbrev function : Fn
  function = inst_fn (layouts (a_type ∷ a_type ∷ []) (T, (W, tt))) code.function

pub set_spec : {M : Type 1} → statement M
set_spec 𝓤 𝓛 𝓜 𝓡 wired T W laws laws' =
    let End = f.ended T W in let kept = stayed T W in let c = f.clauses T W 𝓛 𝓜.mem 𝓡.returns in let Walk = walk_of 𝓛 End kept c in
    proved 𝓛 End kept c 𝓜 𝓡 (Goes-ref 𝓛 5 0 tt (plain (λ _. A T)), (Goes-ref 𝓛 5 1 tt (plain (λ _. B T)), (Goes-dropped 𝓛 5 (RefOf (2 ∷ []) tt (plain (λ _. param 1 W)) (λ _. tt)) yes (λ κs x w. refl), tt)))
    (f.Key.name (layouts (a_type ∷ a_type ∷ []) (T, (W, tt)))) (function T W) (code.unfolded 𝓤 𝓛.H 𝓜 𝓡 wired (T, (W, tt)))
    (λ κs. (mut_vals, (mut_vals, (shr_vals, tt)))) (λ κs. (mut_Tells (named 0) κs.0 (A T), (mut_Tells (named 1) κs.1.0 (B T), (shr_Tells (named 2) κs.1.1.0 (param 1 W), tt))))
    (λ κs qs bounds a ghost are. let r = a.0 in let s = a.1.0 in let by = a.1.1.0 in let x = r.now in let y = s.now in
    let x' = record x { value = ghost } in let y' = record y { value = ghost } in
    let at : Walk.Ghost = ((κs, qs, bounds, a, (mut_vals r, (mut_vals s, (shr_vals by, tt)))), ghost) in
    qed 𝓛 (((‵ (flft κs.0 qs.0) ⊛ ‵ (flft κs.1.0 qs.1.0) ⊛ ‵ (flft κs.1.1.0 qs.1.1.0) ⊛ ‵ (flft κs.1.1.1.0 qs.1.1.1.0) ⊛ ‵ (flft κs.1.1.1.1.0 qs.1.1.1.1.0) ⊛ ‵ ftrue)
    ⊛ ‵ (fsep ((MutRef (named 0) κs.0 (A T)).own_val r (mut_vals r)) (fsep ((MutRef (named 1) κs.1.0 (B T)).own_val s (mut_vals s)) (fsep ((ShrRef (named 2) κs.1.1.0 (param 1 W)).own_val by (shr_vals by)) ftrue))))
    ∷ raw ((c κs a).requires ghost) ∷ []) ∵ move ! (1 ∷ []) $ hears ! (λ _. hears ! (λ _. heard ! _ (λ one. unpacks (A T) (B T) r s ! (named 0) (named 1) $
    -- [the two that are lent; the other tokens of lifetimes]
    enter ! _ _ _ _ _ $ alloc_all ! (λ l. pass_all ! refl ((tt, tt), ((tt, tt), ((tt, tt), tt))) $
    both (A T) (B T) r s ! tt x' y' _ _ _ _ _ _ (λ vs. refl) (λ vs. refl) (λ vs. refl) (λ vs. refl) (turns 𝓛 T.coded x.name y.name x.value y.value ghost one) (λ seen.
    sets ! (of_opd ! (unit_lit !)) refl (tt, tt) $ returns ! (look_at ! 0 refl) $ free_all ! refl $
    suffices ! _ (ends_at 𝓛 End kept c at vunit tt (x', (y', (tt, tt))) (tt, (tt, (tt, tt)))) $
    nothing ! $ nothing ! $ fjoin ! $ packs (A T) (B T) (record r { now = x' }) (record s { now = y' }) ! (named 0) (named 1) $
    move ! (1 ∷ []) $ feq_i ! (List Val) (vunit ∷ []) (vunit ∷ []) refl $ move ! (1 ∷ 0 ∷ []) $ join ! $ move ! (1 ∷ 0 ∷ []) $ join ! $ frame ! $
    tells ! (refl, refl) $ tells ! seen $ tells ! refl $ tells_last ! refl))))))
