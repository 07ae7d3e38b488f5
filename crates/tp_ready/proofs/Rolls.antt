-- Rolls and bundles of slips.
--     begins        a roll begins        writes        items are written, and their slips handed out, if all slips are sound
--     deals        the slips of two bundles, which are apart, are dealt again        empties        a bundle without a slip owns nothing
--     roll_keyless, slips_keyless        what they own is of no thread
-- Assumes `Logic`.
use Rattle.std.proofs.Common.{◌≡◌, ℕ, zero, suc, ◌+◌, List, [], ◌∷◌, ◌++◌, length, take, drop, sym, refl, ap, subst, arith}
use Rattle.tp_ready.proofs.Lower.{enumerate_from, take-append-drop, full_share, not-OpDef-full_share, quarter, three_quarters, Gv, gnil, Coded, pcs, shares, ent, sep, ex, emp, guard, upd, via, guard_i, upd_i, upd_mono, ex_i, ex_e, id⊢, Share, Fml, ftrue, Keyless}
use seplogic.Ra.Pcs.{OpDef, OpDef-comm}
use seplogic.Ra.Ura.{Ura}
use types.Logic.{Logic, sem}
use types.Keyed.{entries_new, entries_take, entries_beside, entry_keyless, entries_keyless}
use types.Owned.{basic}
use types.Kit.{‵, raw, ◌⊛◌, given, ◌$◌, ◌∵◌, !, qed, by, move, drop as lets_go, split, join, learn, check, frame, suffices, settle, done, use1, use2, rewrite, updating, now, await, later}
use denote.Steps.{nothing}
use Rattle.tp_ready.specs.Owned.{shared, part, items_own, roll_owns, slips_own}
use Rattle.tp_ready.specs.Sound.{item_of, IsAway, AreApart, Sound}
use Rattle.tp_ready.proofs.Entries.{Pr, sets, agree, unwritten, differ}

items_keyless : {V : Type 0} (code : V → Gv) (name number : ℕ) (items : List V) → Keyless (items_own code name number items)
items_keyless code name number [] = entries_keyless shared name number _
items_keyless code name number (item ∷ items) = (entry_keyless shared name number _, items_keyless code name (suc number) items)

pub roll_keyless : {V : Type 0} (code : V → Gv) (name number left : ℕ) (items : List V) → Keyless (roll_owns code name number left items)
roll_keyless code name number zero items = items_keyless code name number items
roll_keyless code name number (suc left) items = (entry_keyless shared name number _, roll_keyless code name (suc number) left items)

pub slips_keyless : {V : Type 0} (code : V → Gv) (name : ℕ) (slips : List (ℕ × V)) → Keyless (slips_own code name slips)
slips_keyless code name [] = tt
slips_keyless code name (slip ∷ slips) = (entry_keyless shared name slip.0 _, slips_keyless code name slips)

module _ {M : Type 1} {𝓤 : Ura M} (𝓛 : Logic 𝓤) where
  infix 26 ◌⊢◌
  abbrev ◌⊢◌ : Pr 𝓛 → Pr 𝓛 → Type 1
  P ⊢ Q = ent 𝓤 P Q

  infixr 35 ◌∗◌
  abbrev ◌∗◌ : Pr 𝓛 → Pr 𝓛 → Pr 𝓛
  P ∗ Q = sep 𝓤 P Q

  abbrev ⟦◌⟧ : Fml → Pr 𝓛
  ⟦ P ⟧ = sem 𝓛 P

  -- ---- a roll begins
  leaves : {V : Type 0} (code : V → Gv) (name left k : ℕ) → ⟦ items_own code name k [] ⟧ ⊢ ⟦ roll_owns code name k left [] ⟧
  leaves code name zero k = id⊢ 𝓤 ⟦ items_own code name k [] ⟧
  leaves code name (suc left) k = qed 𝓛 (‵ (items_own code name k []) ∷ []) ∵
      use1 𝓛 (‵ (part name k full_share gnil) ⊛ ‵ (items_own code name (suc k) [])) (entries_take shared 𝓛 name k (λ _. (full_share, gnil))) $ split ! $ frame ! $ by ! (leaves code name left (suc k))

  pub begins : {V : Type 0} (code : V → Gv) (first : ℕ) → emp 𝓤 ⊢ 𝓛.H.⇛ (ex 𝓤 (λ (name : ℕ). ⟦ roll_owns code name 0 first [] ⟧))
  begins code first = let Blank : ℕ → Pr 𝓛 = λ name. ⟦ items_own code name 0 [] ⟧ in let Begun : ℕ → Pr 𝓛 = λ name. ⟦ roll_owns code name 0 first [] ⟧ in
      via 𝓤 (upd 𝓤 (ex 𝓤 Begun)) (via 𝓤 (upd 𝓤 (ex 𝓤 Blank)) (entries_new shared 𝓛 0 (λ _. (full_share, gnil)))
      (upd_mono 𝓤 {P = ex 𝓤 Blank} {Q = ex 𝓤 Begun} (ex_e 𝓤 Blank (λ name. via 𝓤 (Begun name) (leaves code name first 0) (ex_i 𝓤 Begun name))))) (basic 𝓛 (ex 𝓤 Begun))

  module _ {V : Type 0} (coded : Coded V) (name : ℕ) where
    abbrev rolls : ℕ → V → Fml
    rolls k v = part name k quarter (coded.code v)

    abbrev slip : ℕ → V → Fml
    slip k v = part name k three_quarters (coded.code v)

    abbrev items : ℕ → List V → Fml
    items = items_own coded.code name

    abbrev roll : ℕ → ℕ → List V → Fml
    roll = roll_owns coded.code name

    abbrev slips : List (ℕ × V) → Fml
    slips = slips_own coded.code name

    -- ---- slips beside slips
    away : (xs : List (ℕ × V)) (j : ℕ) (v : V) → ⟦ slip j v ⟧ ∗ ⟦ slips xs ⟧ ⊢ guard 𝓤 (IsAway j xs) (⟦ slip j v ⟧ ∗ ⟦ slips xs ⟧)
    away [] j v = guard_i 𝓤 (Unit {0}) (⟦ slip j v ⟧ ∗ ⟦ slips [] ⟧) tt
    away (x ∷ xs) j v = qed 𝓛 (‵ (slip j v) ∷ (‵ (slip x.0 x.1) ⊛ ‵ (slips xs)) ∷ []) ∵ move ! (1 ∷ []) $ split ! $ move ! (2 ∷ 1 ∷ []) $
        use2 𝓛 (given (IsAway j xs) (‵ (slip j v) ⊛ ‵ (slips xs))) (away xs j v) $ learn ! (λ rest. split ! $ move ! (0 ∷ 2 ∷ []) $
        use2 𝓛 (given (¬ (x.0 ≡ j)) (‵ (slip j v) ⊛ ‵ (slip x.0 x.1))) (differ 𝓛 name j x.0 (coded.code v) (coded.code x.1)) $ learn ! (λ one. check ! (one, rest) $ split ! $ frame ! $ done !))

    apart : (xs ys : List (ℕ × V)) → ⟦ slips xs ⟧ ∗ ⟦ slips ys ⟧ ⊢ guard 𝓤 (AreApart xs ys) (⟦ slips xs ⟧ ∗ ⟦ slips ys ⟧)
    apart [] ys = guard_i 𝓤 (Unit {0}) (⟦ slips [] ⟧ ∗ ⟦ slips ys ⟧) tt
    apart (x ∷ xs) ys = qed 𝓛 ((‵ (slip x.0 x.1) ⊛ ‵ (slips xs)) ∷ ‵ (slips ys) ∷ []) ∵ split ! $ move ! (1 ∷ 2 ∷ []) $
        use2 𝓛 (given (AreApart xs ys) (‵ (slips xs) ⊛ ‵ (slips ys))) (apart xs ys) $ learn ! (λ rest. split ! $ move ! (2 ∷ 1 ∷ []) $
        use2 𝓛 (given (IsAway x.0 ys) (‵ (slip x.0 x.1) ⊛ ‵ (slips ys))) (away ys x.0 x.1) $ learn ! (λ off. check ! (off, rest) $ split ! $ move ! (0 ∷ 2 ∷ []) $ join ! $ done !))

    joins : (xs ys : List (ℕ × V)) → ⟦ slips xs ⟧ ∗ ⟦ slips ys ⟧ ⊢ ⟦ slips (xs ++ ys) ⟧
    joins [] ys = qed 𝓛 (‵ ftrue ∷ ‵ (slips ys) ∷ []) ∵ lets_go ! $ done !
    joins (x ∷ xs) ys = qed 𝓛 ((‵ (slip x.0 x.1) ⊛ ‵ (slips xs)) ∷ ‵ (slips ys) ∷ []) ∵ split ! $ frame ! $ by ! (joins xs ys)

    cuts : (xs ys : List (ℕ × V)) → ⟦ slips (xs ++ ys) ⟧ ⊢ ⟦ slips xs ⟧ ∗ ⟦ slips ys ⟧
    cuts [] ys = qed 𝓛 (‵ (slips ys) ∷ []) ∵ nothing ! $ frame ! $ done !
    cuts (x ∷ xs) ys = qed 𝓛 ((‵ (slip x.0 x.1) ⊛ ‵ (slips (xs ++ ys))) ∷ []) ∵ split ! $ move ! (1 ∷ []) $ use1 𝓛 (‵ (slips xs) ⊛ ‵ (slips ys)) (cuts xs ys) $ split ! $ move ! (2 ∷ 0 ∷ []) $ join ! $ done !

    dealt : (k : ℕ) (xs ys : List (ℕ × V)) → ⟦ slips xs ⟧ ∗ ⟦ slips ys ⟧ ⊢ ⟦ slips (take k (xs ++ ys)) ⟧ ∗ ⟦ slips (drop k (xs ++ ys)) ⟧
    dealt k xs ys = let all = xs ++ ys in via 𝓤 ⟦ slips all ⟧ (joins xs ys)
        (subst (λ (zs : List (ℕ × V)). ⟦ slips zs ⟧ ⊢ ⟦ slips (take k all) ⟧ ∗ ⟦ slips (drop k all) ⟧) (take-append-drop k all) (cuts (take k all) (drop k all)))

    -- ---- a slip beside the roll shows the item of its number
    shows : (vs : List V) (k i j : ℕ) (v : V) → j ≡ k + i → ⟦ items k vs ⟧ ∗ ⟦ slip j v ⟧ ⊢ guard 𝓤 (item_of 0 vs i ≡ v ∷ []) (⟦ items k vs ⟧ ∗ ⟦ slip j v ⟧)
    shows [] k i j v e = let Blank : Share × Gv = (full_share, gnil) in qed 𝓛 (‵ (items k []) ∷ ‵ (slip j v) ∷ []) ∵ move ! (1 ∷ 0 ∷ []) $
        use2 𝓛 (given (OpDef shared.op (three_quarters, coded.code v) Blank) (‵ (slip j v) ⊛ ‵ (items k []))) (entries_beside shared 𝓛 name k j (λ _. Blank) (three_quarters, coded.code v) (omega arith)) $
        learn ! (λ both. absurd (not-OpDef-full_share three_quarters ((OpDef-comm (pcs shares) {a = three_quarters} {b = full_share}).0 both.0)))
    shows (w ∷ ws) k zero j v e = let is : j ≡ k = omega arith in qed 𝓛 ((‵ (rolls k w) ⊛ ‵ (items (suc k) ws)) ∷ ‵ (slip j v) ∷ []) ∵ split ! $ rewrite ! 2 (λ (n : ℕ). ‵ (slip n v)) is refl $ move ! (0 ∷ 2 ∷ []) $
        use2 𝓛 (given (coded.code w ≡ coded.code v) (‵ (rolls k w) ⊛ ‵ (slip k v))) (agree 𝓛 name k (coded.code w) (coded.code v)) $ learn ! (λ same. check ! (ap (λ (x : V). x ∷ []) (coded.inj w v same)) $ split ! $
        rewrite ! 1 (λ (n : ℕ). ‵ (slip n v)) (sym is) refl $ move ! (0 ∷ 2 ∷ []) $ join ! $ done !)
    shows (w ∷ ws) k (suc i) j v e = qed 𝓛 ((‵ (rolls k w) ⊛ ‵ (items (suc k) ws)) ∷ ‵ (slip j v) ∷ []) ∵ split ! $ move ! (1 ∷ 2 ∷ []) $
        use2 𝓛 (given (item_of 0 ws i ≡ v ∷ []) (‵ (items (suc k) ws) ⊛ ‵ (slip j v))) (shows ws (suc k) i j v (omega arith)) $ learn ! (λ at. check ! at $ split ! $ move ! (2 ∷ 0 ∷ []) $ join ! $ done !)

    stands : (left : ℕ) (vs : List V) (k i j : ℕ) (v : V) → j ≡ k + i → ⟦ roll k left vs ⟧ ∗ ⟦ slip j v ⟧ ⊢ guard 𝓤 (item_of left vs i ≡ v ∷ []) (⟦ roll k left vs ⟧ ∗ ⟦ slip j v ⟧)
    stands zero vs k i j v e = shows vs k i j v e
    stands (suc left) vs k zero j v e = let is : j ≡ k = omega arith in qed 𝓛 ((‵ (part name k full_share gnil) ⊛ ‵ (roll (suc k) left vs)) ∷ ‵ (slip j v) ∷ []) ∵ split ! $ rewrite ! 2 (λ (n : ℕ). ‵ (slip n v)) is refl $ move ! (0 ∷ 2 ∷ []) $
        use2 𝓛 (given ⊥ (‵ ftrue)) (unwritten 𝓛 name k gnil (coded.code v) _) $ learn ! (λ no. absurd no)
    stands (suc left) vs k (suc i) j v e = qed 𝓛 ((‵ (part name k full_share gnil) ⊛ ‵ (roll (suc k) left vs)) ∷ ‵ (slip j v) ∷ []) ∵ split ! $ move ! (1 ∷ 2 ∷ []) $
        use2 𝓛 (given (item_of left vs i ≡ v ∷ []) (‵ (roll (suc k) left vs) ⊛ ‵ (slip j v))) (stands left vs (suc k) i j v (omega arith)) $ learn ! (λ at. check ! at $ split ! $ move ! (2 ∷ 0 ∷ []) $ join ! $ done !)

    sound : (first : ℕ) (vs : List V) (xs : List (ℕ × V)) → ⟦ roll 0 first vs ⟧ ∗ ⟦ slips xs ⟧ ⊢ guard 𝓤 (Sound (item_of first vs) xs) (⟦ roll 0 first vs ⟧ ∗ ⟦ slips xs ⟧)
    sound first vs [] = guard_i 𝓤 (Unit {0}) (⟦ roll 0 first vs ⟧ ∗ ⟦ slips [] ⟧) tt
    sound first vs (x ∷ xs) = qed 𝓛 (‵ (roll 0 first vs) ∷ (‵ (slip x.0 x.1) ⊛ ‵ (slips xs)) ∷ []) ∵ move ! (1 ∷ []) $ split ! $ move ! (2 ∷ 1 ∷ []) $
        use2 𝓛 (given (Sound (item_of first vs) xs) (‵ (roll 0 first vs) ⊛ ‵ (slips xs))) (sound first vs xs) $ learn ! (λ rest. split ! $ move ! (0 ∷ 2 ∷ []) $
        use2 𝓛 (given (item_of first vs x.0 ≡ x.1 ∷ []) (‵ (roll 0 first vs) ⊛ ‵ (slip x.0 x.1))) (stands first vs 0 x.0 x.0 x.1 (omega arith)) $ learn ! (λ at. split ! $ move ! (1 ∷ 2 ∷ []) $
        use2 𝓛 (given (IsAway x.0 xs) (‵ (slip x.0 x.1) ⊛ ‵ (slips xs))) (away xs x.0 x.1) $ learn ! (λ off. check ! (at, off, rest) $ move ! (1 ∷ 0 ∷ []) $ done !)))

    -- ---- the next numbers are written
    fills : (us : List V) (k j : ℕ) → j ≡ k → ⟦ items k [] ⟧ ⊢ upd 𝓤 (⟦ items k us ⟧ ∗ ⟦ slips (enumerate_from j us) ⟧)
    fills [] k j e = let Z : Pr 𝓛 = ⟦ items k [] ⟧ ∗ ⟦ slips [] ⟧ in qed 𝓛 (‵ (items k []) ∷ []) ∵ suffices ! _ (upd_i 𝓤 Z) $ frame ! $ nothing ! $ done !
    fills (u ∷ us) k j e = let Z : Pr 𝓛 = ⟦ items k (u ∷ us) ⟧ ∗ ⟦ slips (enumerate_from j (u ∷ us)) ⟧ in qed 𝓛 (‵ (items k []) ∷ []) ∵
        use1 𝓛 (‵ (part name k full_share gnil) ⊛ ‵ (items (suc k) [])) (entries_take shared 𝓛 name k (λ _. (full_share, gnil))) $ split ! $
        use1 𝓛 (raw (upd 𝓤 (⟦ rolls k u ⟧ ∗ ⟦ slip k u ⟧))) (sets 𝓛 name k gnil (coded.code u)) $ settle 𝓛 Z (‵ (rolls k u) ⊛ ‵ (slip k u)) $ split ! $ rewrite ! 1 (λ (n : ℕ). ‵ (slip n u)) (sym e) refl $ move ! (2 ∷ []) $
        use1 𝓛 (raw (upd 𝓤 (⟦ items (suc k) us ⟧ ∗ ⟦ slips (enumerate_from (j + 1) us) ⟧))) (fills us (suc k) (j + 1) (omega arith)) $ settle 𝓛 Z (‵ (items (suc k) us) ⊛ ‵ (slips (enumerate_from (j + 1) us))) $ split ! $
        suffices ! _ (upd_i 𝓤 Z) $ move ! (2 ∷ 0 ∷ []) $ join ! $ frame ! $ move ! (1 ∷ 0 ∷ []) $ join ! $ done !

    grows : (vs us : List V) (k j : ℕ) → j ≡ k + length vs → ⟦ items k vs ⟧ ⊢ upd 𝓤 (⟦ items k (vs ++ us) ⟧ ∗ ⟦ slips (enumerate_from j us) ⟧)
    grows [] us k j e = fills us k j (omega arith)
    grows (v ∷ vs) us k j e = let Z : Pr 𝓛 = ⟦ items k (v ∷ (vs ++ us)) ⟧ ∗ ⟦ slips (enumerate_from j us) ⟧ in qed 𝓛 (‵ (rolls k v) ∷ ‵ (items (suc k) vs) ∷ []) ∵ move ! (1 ∷ []) $
        use1 𝓛 (raw (upd 𝓤 (⟦ items (suc k) (vs ++ us) ⟧ ∗ ⟦ slips (enumerate_from j us) ⟧))) (grows vs us (suc k) j (omega arith)) $ settle 𝓛 Z (‵ (items (suc k) (vs ++ us)) ⊛ ‵ (slips (enumerate_from j us))) $ split ! $
        suffices ! _ (upd_i 𝓤 Z) $ move ! (2 ∷ 0 ∷ []) $ join ! $ done !

    adds : (left : ℕ) (vs us : List V) (k j : ℕ) → j ≡ k + (left + length vs) → ⟦ roll k left vs ⟧ ⊢ upd 𝓤 (⟦ roll k left (vs ++ us) ⟧ ∗ ⟦ slips (enumerate_from j us) ⟧)
    adds zero vs us k j e = grows vs us k j (omega arith)
    adds (suc left) vs us k j e = let Z : Pr 𝓛 = ⟦ roll k (suc left) (vs ++ us) ⟧ ∗ ⟦ slips (enumerate_from j us) ⟧ in qed 𝓛 (‵ (part name k full_share gnil) ∷ ‵ (roll (suc k) left vs) ∷ []) ∵ move ! (1 ∷ []) $
        use1 𝓛 (raw (upd 𝓤 (⟦ roll (suc k) left (vs ++ us) ⟧ ∗ ⟦ slips (enumerate_from j us) ⟧))) (adds left vs us (suc k) j (omega arith)) $ settle 𝓛 Z (‵ (roll (suc k) left (vs ++ us)) ⊛ ‵ (slips (enumerate_from j us))) $ split ! $
        suffices ! _ (upd_i 𝓤 Z) $ move ! (2 ∷ 0 ∷ []) $ join ! $ done !

    abbrev Numbered : ℕ → List V → List V → List (ℕ × V)
    Numbered first vs us = enumerate_from (first + length vs) us

    written : (first : ℕ) (vs us : List V) (xs : List (ℕ × V)) → ⟦ roll 0 first vs ⟧ ∗ ⟦ slips xs ⟧ ⊢ upd 𝓤 (⟦ roll 0 first (vs ++ us) ⟧ ∗ ⟦ slips (xs ++ Numbered first vs us) ⟧)
    written first vs us xs = let new = Numbered first vs us in let Z : Pr 𝓛 = ⟦ roll 0 first (vs ++ us) ⟧ ∗ ⟦ slips (xs ++ new) ⟧ in qed 𝓛 (‵ (roll 0 first vs) ∷ ‵ (slips xs) ∷ []) ∵
        use1 𝓛 (raw (upd 𝓤 (⟦ roll 0 first (vs ++ us) ⟧ ∗ ⟦ slips new ⟧))) (adds first vs us 0 (first + length vs) (omega arith)) $ settle 𝓛 Z (‵ (roll 0 first (vs ++ us)) ⊛ ‵ (slips new)) $ split ! $
        suffices ! _ (upd_i 𝓤 Z) $ frame ! $ move ! (1 ∷ 0 ∷ []) $ by ! (joins xs new)

  module _ {V : Type 0} (coded : Coded V) (name name' : ℕ) (same : name ≡ name') where
    -- ---- what a roll and a bundle of its slips go through together
    abbrev Beside : ℕ → List V → List (ℕ × V) → ℕ → Pr 𝓛
    Beside first vs xs n = ⟦ roll_owns coded.code name 0 first vs ⟧ ∗ ⟦ slips_own coded.code n xs ⟧

    pub writes : (first : ℕ) (vs us : List V) (xs : List (ℕ × V)) → Beside first vs xs name' ⊢ 𝓛.H.⇛ (guard 𝓤 (Sound (item_of first vs) xs) (Beside first (vs ++ us) (xs ++ enumerate_from (first + length vs) us) name'))
    writes first vs us xs = let S = Sound (item_of first vs) xs in let new = xs ++ enumerate_from (first + length vs) us in
        let Step : ℕ → Type 1 = λ n. Beside first vs xs n ⊢ 𝓛.H.⇛ (guard 𝓤 S (Beside first (vs ++ us) new n)) in subst Step same
        (qed 𝓛 (‵ (roll_owns coded.code name 0 first vs) ∷ ‵ (slips_own coded.code name xs) ∷ []) ∵ updating ! $
        use2 𝓛 (given S (‵ (roll_owns coded.code name 0 first vs) ⊛ ‵ (slips_own coded.code name xs))) (sound coded name first vs xs) $ learn ! (λ all. split ! $
        use2 𝓛 (later (‵ (roll_owns coded.code name 0 first (vs ++ us)) ⊛ ‵ (slips_own coded.code name new))) (via 𝓤 (upd 𝓤 (Beside first (vs ++ us) new name)) (written coded name first vs us xs) (basic 𝓛 (Beside first (vs ++ us) new name))) $
        await ! tt $ now ! $ check ! all $ done !))

    abbrev Two : List (ℕ × V) → List (ℕ × V) → ℕ → Pr 𝓛
    Two xs ys n = ⟦ slips_own coded.code name xs ⟧ ∗ ⟦ slips_own coded.code n ys ⟧

    -- ---- what two bundles go through together
    pub deals : (k : ℕ) (xs ys : List (ℕ × V)) → Two xs ys name' ⊢ 𝓛.H.⇛ (guard 𝓤 (AreApart xs ys) (Two (take k (xs ++ ys)) (drop k (xs ++ ys)) name'))
    deals k xs ys = let Step : ℕ → Type 1 = λ n. Two xs ys n ⊢ 𝓛.H.⇛ (guard 𝓤 (AreApart xs ys) (Two (take k (xs ++ ys)) (drop k (xs ++ ys)) n)) in subst Step same
        (qed 𝓛 (‵ (slips_own coded.code name xs) ∷ ‵ (slips_own coded.code name ys) ∷ []) ∵ updating ! $ now ! $
        use2 𝓛 (given (AreApart xs ys) (‵ (slips_own coded.code name xs) ⊛ ‵ (slips_own coded.code name ys))) (apart coded name xs ys) $ learn ! (λ off. check ! off $ by ! (dealt coded name k xs ys)))
