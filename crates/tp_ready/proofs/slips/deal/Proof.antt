-- `deal` joins what the slips of both bundles own, and cuts it again.
use Rattle.tp_ready.proofs.Walks.{List, [], ◌∷◌, refl, proved, ftrue, fsep, flft, inst_fn, Fn, a_type, named, Val, vunit, ‵, raw, ◌⊛◌, ◌$◌, ◌∵◌, !, qed, move, join, fjoin, frame, suffices, feq_i, enter, of_opd, unit_lit, returns, alloc_all, pass_all, free_all, look_at, sets, u64, w64, uint_vals, uint_Tells, yes, layouts, param, RattleType, MutRef, mut_vals, mut_Tells, plain, nothing, heard, Stays, stay_ref, stay_dropped, Goes-ref, Goes-dropped, walk_of, ends_at}
use Rattle.tp_ready.proofs.Lent.{unpacks, packs, both, hears, tells, tells_last}
use Rattle.tp_ready.proofs.Rolls.{deals}
use Rattle.std.proofs.Common.{◌++◌, take, drop}
use Rattle.tp_ready.specs.contracts.slips.Slips as slips
use Rattle.tp_ready.specs.contracts.slips.deal as f
use Rattle.tp_ready.proofs.slips.deal.Statement.{statement}
use Rattle.tp_ready.proofs.slips.deal.Code as code

module _ (T : RattleType) where
  abbrev A : RattleType
  A = slips.the_row (param 0 T)

  abbrev B : RattleType
  B = slips.the_row (param 0 T)

module _ (T : RattleType) where
  abbrev stayed : Stays (f.ended T).signature.params (f.ended T).kept
  stayed = (stay_ref (0 ∷ []) tt (plain (λ _. A T)), (stay_ref (1 ∷ []) tt (plain (λ _. B T)), (stay_dropped (plain (λ _. u64)) yes, tt)))

  abbrev function : Fn
  function = inst_fn (layouts (a_type ∷ []) (T, tt)) code.function

pub deal_spec : {M : Type 1} → statement M
deal_spec 𝓤 𝓛 𝓜 𝓡 wired T laws =
    let End = f.ended T in let kept = stayed T in let c = f.clauses T 𝓛 𝓜.mem 𝓡.returns in let Walk = walk_of 𝓛 End kept c in
    proved 𝓛 End kept c 𝓜 𝓡 (Goes-ref 𝓛 3 0 tt (plain (λ _. A T)), (Goes-ref 𝓛 3 1 tt (plain (λ _. B T)), (Goes-dropped 𝓛 3 (plain (λ _. u64)) yes (λ κs x w. refl), tt)))
    (f.Key.name (layouts (a_type ∷ []) (T, tt))) (function T) (code.unfolded 𝓤 𝓛.H 𝓜 𝓡 wired (T, tt))
    (λ κs. (mut_vals, (mut_vals, (uint_vals w64, tt)))) (λ κs. (mut_Tells (named 0) κs.0 (A T), (mut_Tells (named 1) κs.1.0 (B T), (uint_Tells w64, tt))))
    (λ κs qs bounds a ghost are. let r = a.0 in let s = a.1.0 in let by = a.1.1.0 in let x = r.now in let y = s.now in
    let x' = record x { items = take ghost (x.items ++ y.items) } in let y' = record y { items = drop ghost (x.items ++ y.items) } in
    let at : Walk.Ghost = ((κs, qs, bounds, a, (mut_vals r, (mut_vals s, (uint_vals w64 by, tt)))), ghost) in
    qed 𝓛 (((‵ (flft κs.0 qs.0) ⊛ ‵ (flft κs.1.0 qs.1.0) ⊛ ‵ (flft κs.1.1.0 qs.1.1.0) ⊛ ‵ ftrue)
    ⊛ ‵ (fsep ((MutRef (named 0) κs.0 (A T)).own_val r (mut_vals r)) (fsep ((MutRef (named 1) κs.1.0 (B T)).own_val s (mut_vals s)) (fsep (u64.own_val by (uint_vals w64 by)) ftrue))))
    ∷ raw ((c κs a).requires ghost) ∷ []) ∵ move ! (1 ∷ []) $ hears ! (λ _. heard ! _ (λ one. unpacks (A T) (B T) r s ! (named 0) (named 1) $
    -- [the two that are lent; the other tokens of lifetimes]
    enter ! _ _ _ _ _ $ alloc_all ! (λ l. pass_all ! refl ((tt, tt), ((tt, tt), ((tt, record { fits = are.1.1.0.1 }), tt))) $
    both (A T) (B T) r s ! tt x' y' _ _ _ _ _ _ (λ vs. refl) (λ vs. refl) (λ vs. refl) (λ vs. refl) (deals 𝓛 T.coded x.name y.name one ghost x.items y.items) (λ seen.
    sets ! (of_opd ! (unit_lit !)) refl (tt, tt) $ returns ! (look_at ! 0 refl) $ free_all ! refl $
    suffices ! _ (ends_at 𝓛 End kept c at vunit tt (x', (y', (tt, tt))) (tt, (tt, (tt, tt)))) $
    nothing ! $ nothing ! $ fjoin ! $ packs (A T) (B T) (record r { now = x' }) (record s { now = y' }) ! (named 0) (named 1) $
    move ! (1 ∷ []) $ feq_i ! (List Val) (vunit ∷ []) (vunit ∷ []) refl $ move ! (1 ∷ 0 ∷ []) $ join ! $ move ! (1 ∷ 0 ∷ []) $ join ! $ frame ! $
    tells ! (refl, refl) $ tells ! refl $ tells ! refl $ tells_last ! seen)))))
