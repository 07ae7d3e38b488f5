-- One number of a roll. Its whole entry is with whoever may still write it; then a quarter is the roll's, and three quarters its slip's.
--     ◌⊢◌, ◌∗◌, ⟦◌⟧        entailment, what is held apart, what a formula says
--     cut        the whole entry is both parts        sets        the whole entry is set to a value, and gives both parts
--     agree        both parts show one value        twice        no two slips have one number        unwritten        none an unwritten one
--     differ        two slips are of two numbers
-- Assumes `Logic`.
use Rattle.std.proofs.Common.{◌≡◌, ℕ, [], ◌∷◌, sym, refl, subst}
use Rattle.tp_ready.proofs.Lower.{Path, dite, ◌∈◌, ℕ_discrete}
use seplogic.Ra.Ura.{Ura}
use seplogic.Ra.Constructions.Prod
use seplogic.Ra.Instances.Ag
use Rattle.tp_ready.proofs.Lower.{full_share, not-OpDef-full_share, quarter, three_quarters, quarters, three_quarters_once}
use base.Share
use Rattle.tp_ready.proofs.Lower.{Gv, coded, SetCoded-set, SProp, ent, sep, ex, guard, upd, via, ex_e, guard_e, guard_i, upd_mono, Share, Fml}
use types.Logic.{Logic, sem}
use types.Keyed.{entry, entry_cut, entry_glue, entry_set}
use types.Kit.{‵, ◌⊛◌, given, ◌$◌, ◌∵◌, !, qed, split, learn, check, done, use1, use2, rewrite}
use Rattle.tp_ready.specs.Owned.{ghost_value, shared, part}

module _ {M : Type 1} {𝓤 : Ura M} (𝓛 : Logic 𝓤) where
  abbrev pub Pr : Type 2
  Pr = SProp 𝓤

  infix 26 ◌⊢◌
  abbrev pub ◌⊢◌ : Pr → Pr → Type 1
  P ⊢ Q = ent 𝓤 P Q

  infixr 35 ◌∗◌
  abbrev pub ◌∗◌ : Pr → Pr → Pr
  P ∗ Q = sep 𝓤 P Q

  abbrev pub ⟦◌⟧ : Fml → Pr
  ⟦ P ⟧ = sem 𝓛 P

  module _ (name : ℕ) where
    abbrev pub whole : ℕ → Gv → Fml
    whole number value = part name number full_share value

    abbrev pub rolls : ℕ → Gv → Fml
    rolls number value = part name number quarter value

    abbrev pub slips : ℕ → Gv → Fml
    slips number value = part name number three_quarters value

    abbrev Sum : Share × Gv → Share × Gv → Share × Gv → Type 0
    Sum x y z = ◌∈◌ {α = Share × Gv} z (shared.op x y)

    parts : (v : Gv) → Sum (quarter, v) (three_quarters, v) (full_share, v)
    parts v = Prod.mk-mem-op Share.op (Ag.op (SetCoded-set (coded ghost_value))) {a = quarter} {a' = three_quarters} {x = full_share} {b = v} {b' = v} {y = v} quarters (Ag.idem (SetCoded-set (coded ghost_value)) v)

    cut : (k : ℕ) (v : Gv) → ⟦ whole k v ⟧ ⊢ ⟦ rolls k v ⟧ ∗ ⟦ slips k v ⟧
    cut k v = entry_cut shared 𝓛 name k (quarter, v) (three_quarters, v) (full_share, v) (parts v)

    pub sets : (k : ℕ) (old v : Gv) → ⟦ whole k old ⟧ ⊢ upd 𝓤 (⟦ rolls k v ⟧ ∗ ⟦ slips k v ⟧)
    sets k old v =
        let IsNew : Share × Gv → Type 0 = λ x. Path (Share × Gv) x (full_share, v) in
        let F : Share × Gv → Pr = λ x. guard 𝓤 (IsNew x) ⟦ entry shared name k x ⟧ in
        let Z : Pr = ⟦ rolls k v ⟧ ∗ ⟦ slips k v ⟧ in
        via 𝓤 (upd 𝓤 (ex 𝓤 F)) (entry_set shared 𝓛 name k (full_share, old) IsNew ∣ ((full_share, v), refl) ∣₁ (λ other sum. absurd (not-OpDef-full_share other.0 sum.0)))
        (upd_mono 𝓤 {P = ex 𝓤 F} {Q = Z} (ex_e 𝓤 F (λ x. guard_e 𝓤 (IsNew x) ⟦ entry shared name k x ⟧ (λ e. subst (λ (y : Share × Gv). ⟦ entry shared name k y ⟧ ⊢ Z) (sym e) (cut k v)))))

    -- what follows from what two parts of an entry make together
    glued : (k : ℕ) (x y : Share × Gv) (Z : Pr) → ((z : Share × Gv) → Sum x y z → ⟦ entry shared name k z ⟧ ⊢ Z) → ⟦ entry shared name k x ⟧ ∗ ⟦ entry shared name k y ⟧ ⊢ Z
    glued k x y Z then = let F : Share × Gv → Pr = λ z. guard 𝓤 (Sum x y z) ⟦ entry shared name k z ⟧ in
        via 𝓤 (ex 𝓤 F) (entry_glue shared 𝓛 name k x y) (ex_e 𝓤 F (λ z. guard_e 𝓤 (Sum x y z) ⟦ entry shared name k z ⟧ (then z)))

    joined : (k : ℕ) (v w : Gv) → ⟦ rolls k v ⟧ ∗ ⟦ slips k w ⟧ ⊢ guard 𝓤 (v ≡ w) ⟦ whole k v ⟧
    joined k v w = let Z : Pr = guard 𝓤 (v ≡ w) ⟦ whole k v ⟧ in
        glued k (quarter, v) (three_quarters, w) Z (λ z sum. subst (λ (y : Share × Gv). ⟦ entry shared name k y ⟧ ⊢ Z) sum.1 (guard_i 𝓤 (v ≡ w) ⟦ whole k v ⟧ sum.0.1))

    pub agree : (k : ℕ) (v w : Gv) → ⟦ rolls k v ⟧ ∗ ⟦ slips k w ⟧ ⊢ guard 𝓤 (v ≡ w) (⟦ rolls k v ⟧ ∗ ⟦ slips k w ⟧)
    agree k v w = qed 𝓛 (‵ (rolls k v) ∷ ‵ (slips k w) ∷ []) ∵ use2 𝓛 (given (v ≡ w) (‵ (whole k v))) (joined k v w) $ learn ! (λ same. check ! same $
        use1 𝓛 (‵ (rolls k v) ⊛ ‵ (slips k v)) (cut k v) $ split ! $ rewrite ! 1 (λ (x : Gv). ‵ (slips k x)) same refl $ done !)

    twice : (k : ℕ) (v w : Gv) (Z : Pr) → ⟦ slips k v ⟧ ∗ ⟦ slips k w ⟧ ⊢ Z
    twice k v w Z = glued k (three_quarters, v) (three_quarters, w) Z (λ z sum. absurd (three_quarters_once sum.0.0))

    pub unwritten : (k : ℕ) (v w : Gv) (Z : Pr) → ⟦ whole k v ⟧ ∗ ⟦ slips k w ⟧ ⊢ Z
    unwritten k v w Z = glued k (full_share, v) (three_quarters, w) Z (λ z sum. absurd (not-OpDef-full_share three_quarters sum.0.0))

    pub differ : (j k : ℕ) (v w : Gv) → ⟦ slips j v ⟧ ∗ ⟦ slips k w ⟧ ⊢ guard 𝓤 (¬ (k ≡ j)) (⟦ slips j v ⟧ ∗ ⟦ slips k w ⟧)
    differ j k v w = let Z : Pr = guard 𝓤 (¬ (k ≡ j)) (⟦ slips j v ⟧ ∗ ⟦ slips k w ⟧) in
        dite (ℕ_discrete k j) (λ e. subst (λ (n : ℕ). ⟦ slips j v ⟧ ∗ ⟦ slips n w ⟧ ⊢ Z) (sym e) (twice j v w Z)) (guard_i 𝓤 (¬ (k ≡ j)) (⟦ slips j v ⟧ ∗ ⟦ slips k w ⟧))
