-- Two tokens that are lent to a function without a body: they are taken apart, changed together in one ghost step, and put together again.
--     Lent        a token that is lent: what its loan shows, the loan, and the token of its lifetime
--     unpacks     two such tokens are taken out of what a function is given        packs     and put into what it has at its return
--     both        what two of them own changes in one step, which tells a fact
--     hears       a fact that is required before others is learned
--     tells       a fact is shown, where the goal has it before others        tells_last     where it has it last
--     makes       a token is made of what it is for, since its field has no bytes        token     its machine value
-- Assumes `Logic`.
use Rattle.std.proofs.Common.{◌≡◌, List, [], ◌∷◌, refl, sym, MutBor}
use Rattle.tp_ready.proofs.Lower.{SProp, ent, id⊢, sep, emp, guard, Fml, Lft, Share, fsep, fobs, fbor, flft}
use seplogic.Ra.Ura.{Ura}
use mir.Syntax.{Lifetime}
use mir.Val.{Val, vstruct, vcons, vnil}
use contract.Monad.{fact, fact_i}
use types.Logic.{Logic, sem}
use types.SemTy.{Body}
use types.Kit.{Goal, Soaks, Item, Seq, Step, step, prop, ‵, raw, ◌⊛◌, given, later, ◌$◌, by, move, drop, split, join, fsplit, fsplit3, fjoin, fjoin3, feq_i, learn, frame, use0, use1, use2, await, rewrite}
use denote.RattleType.{RattleType}
use denote.Memory.{mem}
use denote.Ref.{MutRef, mut_vals}
use denote.Shadow.{Pure, shadow, makes_shadow}
use denote.Steps.{opens, closes, heard}

module _ {M : Type 1} {𝓤 : Ura M} where
  abbrev pub Lent : (R : RattleType) → Lft → Share → MutBor R.Denot → List (Item 𝓤) → List (Item 𝓤)
  Lent R κ q r Γ = ‵ (fobs r.ghost_name (R.coded.code r.now)) ∷ ‵ (fbor κ (Body (mem R) r.ref_ptr.0 r.ref_ptr.1 r.ghost_name)) ∷ ‵ (flft κ q) ∷ Γ

  module _ {𝓛 : Logic 𝓤} {K : Type 0} {Γ : List (Item 𝓤)} {G : Goal 𝓤 𝓛.H} (A B : RattleType) {κ μ : Lft} {p q : Share} (r : MutBor A.Denot) (s : MutBor B.Denot) where
    pub unpacks : K → (ℓ ℓ' : Lifetime) {rest : Item 𝓤} {others : Fml}
        → Step K 𝓛 (Lent A κ p r (Lent B μ q s (rest ∷ Γ))) G
        (((‵ (flft κ p) ⊛ ‵ (flft μ q) ⊛ rest) ⊛ ‵ (fsep ((MutRef ℓ κ A).own_val r (mut_vals r)) (fsep ((MutRef ℓ' μ B).own_val s (mut_vals s)) others))) ∷ Γ) G
    unpacks t ℓ ℓ' = step (λ k. split t $ split t $ move t (1 ∷ []) $ split t $ move t (3 ∷ []) $ fsplit t $ fsplit3 t $ drop t $ move t (2 ∷ []) $ fsplit t $ fsplit3 t $ drop t $
        move t (2 ∷ []) $ drop t $ move t (2 ∷ 3 ∷ 6 ∷ 0 ∷ 1 ∷ 4 ∷ 5 ∷ []) $ k)

    pub packs : K → (ℓ ℓ' : Lifetime) {rest : Item 𝓤} {others : Fml}
        → Step K 𝓛 ((‵ (flft κ p) ⊛ ‵ (flft μ q) ⊛ rest) ∷ ‵ (fsep ((MutRef ℓ κ A).own_val r (mut_vals r)) (fsep ((MutRef ℓ' μ B).own_val s (mut_vals s)) others)) ∷ Γ) G
        (‵ others ∷ Lent A κ p r (Lent B μ q s (rest ∷ Γ))) G
    packs t ℓ ℓ' = step (λ k. move t (4 ∷ 5 ∷ []) $ feq_i t (List Val) (mut_vals s) (mut_vals s) refl $ fjoin3 t $ fjoin t $
        move t (1 ∷ 2 ∷ []) $ feq_i t (List Val) (mut_vals r) (mut_vals r) refl $ fjoin3 t $ fjoin t $
        move t (2 ∷ 3 ∷ []) $ join t $ move t (2 ∷ 0 ∷ []) $ join t $ k)

    -- the fields of the tokens own F and E, and the tokens themselves P and Q, which become P' and Q'
    pub both : K → Soaks G → (a' : A.Denot) (b' : B.Denot) (F E : List Val → Fml) (P P' Q Q' : Fml) {φ : Type 0}
        → ((vs : List Val) → A.own_val r.now vs ≡ fsep (F vs) P) → ((vs : List Val) → A.own_val a' vs ≡ fsep (F vs) P')
        → ((vs : List Val) → B.own_val s.now vs ≡ fsep (E vs) Q) → ((vs : List Val) → B.own_val b' vs ≡ fsep (E vs) Q')
        → ent 𝓤 (sep 𝓤 (sem 𝓛 P) (sem 𝓛 Q)) (𝓛.H.⇛ (guard 𝓤 φ (sep 𝓤 (sem 𝓛 P') (sem 𝓛 Q'))))
        → (φ → Seq K 𝓛 (Lent A κ p (record r { now = a' }) (Lent B μ q (record s { now = b' }) Γ)) G)
        → Seq K 𝓛 (Lent A κ p r (Lent B μ q s Γ)) G
    both t soaks a' b' F E P P' Q Q' {φ} old-a new-a old-b new-b change k =
        let b = r.ref_ptr.0 in let o = r.ref_ptr.1 in let b₂ = s.ref_ptr.0 in let o₂ = s.ref_ptr.1 in
        let as_it_is : Fml → Item 𝓤 = λ X. ‵ X in
        opens t soaks A b o (λ us. move t (5 ∷ 6 ∷ 7 ∷ []) $ opens t soaks B b₂ o₂ (λ vs.
        -- [the second one's memory, what it owns, its open loan; the first one's memory, what it owns, its open loan]
        move t (1 ∷ []) $ rewrite t 0 as_it_is (old-b vs) refl $ fsplit t $ move t (7 ∷ []) $ rewrite t 0 as_it_is (old-a us) refl $ fsplit t $ move t (1 ∷ 3 ∷ []) $
        use2 𝓛 (later (given φ (‵ P' ⊛ ‵ Q'))) change $ await t soaks $ learn t (λ seen. split t $
        move t (2 ∷ 0 ∷ []) $ fjoin t $ rewrite t 0 as_it_is (sym (new-a us)) refl $ move t (2 ∷ 1 ∷ []) $ fjoin t $ rewrite t 0 as_it_is (sym (new-b vs)) refl $
        move t (2 ∷ 0 ∷ 3 ∷ 4 ∷ 5 ∷ []) $ closes t soaks B b' vs b₂ o₂ $ move t (4 ∷ 3 ∷ 5 ∷ 6 ∷ 7 ∷ []) $ closes t soaks A a' us b o $ k seen)))

abbrev pub token : Val
token = vstruct (vcons (vstruct vnil) vnil)

module _ {M : Type 1} {𝓤 : Ura M} {𝓛 : Logic 𝓤} {K : Type 0} {Γ : List (Item 𝓤)} {G : Goal 𝓤 𝓛.H} where
  pub makes : K → (R : RattleType) (x : R.Denot) (vs : List Val) {F P : Fml} → R.own_val x vs ≡ fsep F P → Pure F → shadow F → Step K 𝓛 (‵ (R.own_val x vs) ∷ Γ) G (‵ P ∷ Γ) G
  makes t R x vs {F} is pure holds = step (λ k. use0 𝓛 (‵ F) (makes_shadow 𝓛 F pure holds) $ fjoin t $ rewrite t 0 (λ (X : Fml). ‵ X) (sym is) refl $ k)

module _ {M : Type 1} {𝓤 : Ura M} {𝓛 : Logic 𝓤} {K : Type 0} {Γ : List (Item 𝓤)} {φ : Type 0} where
  pub hears : K → {G : Goal 𝓤 𝓛.H} {P : SProp 𝓤} → (φ → Seq K 𝓛 (raw P ∷ Γ) G) → Seq K 𝓛 (raw (sep 𝓤 (fact 𝓤 φ) P) ∷ Γ) G
  hears t {P = P} k = use1 𝓛 (raw (fact 𝓤 φ) ⊛ raw P) (id⊢ 𝓤 _) $ split t $ heard t φ k

  pub tells : K → {P : SProp 𝓤} → φ → Step K 𝓛 Γ (prop P) Γ (prop (sep 𝓤 (fact 𝓤 φ) P))
  tells t {P} holds = step (λ k. use0 𝓛 (raw (fact 𝓤 φ)) (fact_i 𝓤 φ (emp 𝓤) holds) $ frame t $ k)

  pub tells_last : K → φ → Seq K 𝓛 Γ (prop (fact 𝓤 φ))
  tells_last t holds = by t (fact_i 𝓤 φ _ holds)
