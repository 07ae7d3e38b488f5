-- Each step on the mark keeps the rule.
use Rattle.std.proofs.Common.{◌≡◌, ◌≢◌, ℕ, zero, suc, ◌≤◌, true, false, true≢false, max, List, [], ◌∷◌, ◌++◌, set, slice_index, sym, refl, ap, ◌∙◌, subst, ⊎_elim, zero-le, le_refl, arith, append-nil, append_assoc}
use Rattle.tp_ready.proofs.Lower.{some, some-injective, some-ne-none, State, Me, Allows, Splits, Joins, keeps, at_set, at_snoc}
use lib.ListN.{get_elem?}
use Rattle.tp_ready.specs.declared.mark_view.Rise.{Rise}
use Rattle.tp_ready.specs.declared.mark_view.View.{View}
use Rattle.tp_ready.specs.MarkView.{raiser, reader, informed, SeatFits, Marks, Loaded, Audited, Raised}
use Rattle.tp_ready.specs.Seen.{RisesOn, number_from, number_of, unrisen}

-- ## Rises

rises_all : (rises : List Rise) → RisesOn rises rises
rises_all rises = ([], sym (append-nil rises))

rises_none : (rises : List Rise) → RisesOn [] rises
rises_none rises = (rises, refl)

-- one more
rises_more : (seen all : List Rise) (rise : Rise) → RisesOn seen all → RisesOn seen (all ++ rise ∷ [])
rises_more seen all rise on = (on.0 ++ rise ∷ [], ap (λ rs. rs ++ rise ∷ []) on.1 ∙ append_assoc seen on.0 (rise ∷ []))

number_from-append : (n : ℕ) (rises : List Rise) (rise : Rise) → number_from n (rises ++ rise ∷ []) ≡ rise.to
number_from-append n [] rise = refl
number_from-append n (r ∷ rises) rise = number_from-append r.to rises rise

-- the last rise is the number
pub number_of-append : (rises : List Rise) (rise : Rise) → number_of (rises ++ rise ∷ []) ≡ rise.to
number_of-append rises rise = number_from-append 0 rises rise

-- ## The rule

abbrev AllFit : List Rise → List View → Type 0
AllFit all views = (seat : ℕ) (v : View) → get_elem? views seat ≡ some v → SeatFits all seat v

abbrev pub Holds : State (Unit {0}) View → Type 0
Holds s = Marks s.words s.views

AllFit-set : (all : List Rise) (views : List View) (id : ℕ) (w : View) → SeatFits all id w → ((j : ℕ) (u : View) → j ≢ id → get_elem? views j ≡ some u → SeatFits all j u) → AllFit all (set views id w)
AllFit-set all views id w mine others j u e =
    ⊎_elim (λ (t : (j ≡ id) × (w ≡ u)). subst (λ (y : ℕ × View). SeatFits all y.0 y.1) (λ i. (sym t.0 i, t.1 i)) mine) (λ (t : (j ≢ id) × (get_elem? views j ≡ some u)). others j u t.0 t.1)
    (at_set views id j w u e)

AllFit-append : (all : List Rise) (views : List View) (w : View) → AllFit all views → ((j : ℕ) → SeatFits all j w) → AllFit all (views ++ w ∷ [])
AllFit-append all views w fit new j u e = ⊎_elim (λ (t : get_elem? views j ≡ some u). fit j u t) (λ (t : w ≡ u). subst (λ (y : View). SeatFits all j y) t (new j)) (at_snoc views w u j e)

reader_fits : (all : List Rise) (at : ℕ) (rises : List Rise) → at ≤ number_of all → RisesOn rises all → (j : ℕ) → SeatFits all j (reader at rises)
reader_fits all at rises below on j =
    let no : false ≡ true → ⊥ = λ t. true≢false (sym t) in
    ((below, zero-le, λ (t : false ≡ true). absurd (no t)), (on, rises_none all, λ (t : false ≡ true). absurd (no t)))

raiser_fits : (first seat : ℕ) (v : View) → get_elem? (raiser first ∷ []) seat ≡ some v → SeatFits (unrisen first) seat v
raiser_fits first zero v e =
    subst (λ (y : View). SeatFits (unrisen first) 0 y) (some-injective (raiser first) v e)
    ((le_refl first, zero-le, λ _. (refl, refl)), (rises_all (unrisen first), rises_none (unrisen first), λ _. refl))
raiser_fits first (suc seat) v e = absurd (some-ne-none v (sym e))

pub begins : (first : ℕ) → Marks (first ∷ []) (raiser first ∷ [])
begins first = (unrisen first, refl, raiser_fits first)

pub twins : (id : ℕ) (v : View) → Splits Holds id v v (reader v.at v.rises)
twins id v s marks at =
    let mine = marks.2 id v at in (
      marks.0,
      marks.1,
      AllFit-append marks.0 (set s.views id v) (reader v.at v.rises) (AllFit-set marks.0 s.views id v mine (λ j u _ e. marks.2 j u e)) (reader_fits marks.0 v.at v.rises mine.0.0 mine.1.0),
    )

pub tells : (id : ℕ) (v : View) (other : ℕ) (w : View) → Joins Holds id v other w (informed v w.at w.rises) (reader 0 [])
tells id v other w s marks at apart there =
    let all = marks.0 in
    let now : View = informed v w.at w.rises in
    let mine = marks.2 id v at in
    let was : get_elem? s.views other ≡ some w =
    ⊎_elim (λ (t : (other ≡ id) × (now ≡ w)). absurd (apart t.0)) (λ (t : (other ≢ id) × (get_elem? s.views other ≡ some w)). t.1) (at_set s.views id other now w there) in
    let theirs = marks.2 other w was in
    let told =
    AllFit-set all s.views id now ((mine.0.0, (let a = mine.0.1 in let b = theirs.0.0 in omega arith), mine.0.2), (mine.1.0, theirs.1.0, mine.1.2)) (λ j u _ e. marks.2 j u e) in (
      all,
      marks.1,
      AllFit-set all (set s.views id now) other (reader 0 []) (reader_fits all 0 [] zero-le (rises_none all) other) (λ j u _ e. told j u e),
    )

-- the word that is found is the number of all rises
found_is : (s : State (Unit {0}) View) (marks : Holds s) → slice_index s.words 0 ≡ number_of marks.0
found_is s marks = ap (λ l. slice_index l 0) marks.1

pub loads : (slots id : ℕ) (me : Me (Unit {0}) View) → Allows Holds slots id me 0 (λ n. n) (λ found now. Loaded me.0 found now.0 × (now.1 ≡ me.1))
loads slots id me s marks homes at small =
    let n = slice_index s.words 0 in
    let all = marks.0 in
    let here = found_is s marks in
    let mine = marks.2 id me.0 at in
    let w : View = record { raises = me.0.raises; at = n; least = me.0.least; rises = all; told = me.0.told } in (
      w,
      keeps,
      tt,
      (
        all,
        ap (λ l. set l 0 n) marks.1 ∙ ap (λ k. k ∷ []) here,
        AllFit-set all s.views id w ((omega (arith, here), mine.0.1, λ t. ((mine.0.2 t).0, here)), (rises_all all, mine.1.1, λ _. refl)) (λ j u _ e. marks.2 j u e),
      ),
      (((let a = mine.0.0 in omega (arith, here)), (let a = mine.0.1 in omega (arith, here)), mine.1.0, here, refl), refl),
    )

pub audits : (slots id : ℕ) (me : Me (Unit {0}) View) → me.0.raises ≡ true → Allows Holds slots id me 0 (λ n. n) (λ found now. Audited me.0 found now.0 × (now.1 ≡ me.1))
audits slots id me raising s marks homes at small =
    let n = slice_index s.words 0 in
    let all = marks.0 in
    let here = found_is s marks in
    let mine = marks.2 id me.0 at in (
      me.0,
      keeps,
      tt,
      (all, ap (λ l. set l 0 n) marks.1 ∙ ap (λ k. k ∷ []) here, AllFit-set all s.views id me.0 mine (λ j u _ e. marks.2 j u e)),
      ((here ∙ sym (mine.0.2 raising).1, (let a = mine.0.1 in omega (arith, here)), subst (RisesOn me.0.told) (sym (mine.1.2 raising)) mine.1.1, refl), refl),
    )

pub raises : (moment slots id to : ℕ) (me : Me (Unit {0}) View) → me.0.raises ≡ true → Allows Holds slots id me 0 (λ n. max n to) (λ found now. Raised moment to me.0 found now.0 × (now.1 ≡ me.1))
raises moment slots id to me raising s marks homes at small =
    let n = slice_index s.words 0 in
    let all = marks.0 in
    let here = found_is s marks in
    let mine = marks.2 id me.0 at in
    let is = (mine.0.2 raising).1 in
    let rise : Rise = record { to = max me.0.at to; moment = moment } in
    let more = all ++ rise ∷ [] in
    let w : View = record { raises = me.0.raises; at = max me.0.at to; least = me.0.least; rises = me.0.rises ++ rise ∷ []; told = me.0.told } in
    let whole : w.rises ≡ more = ap (λ rs. rs ++ rise ∷ []) (mine.1.2 raising) in
    let number : number_of more ≡ max me.0.at to = number_of-append all rise in
    let found : max n to ≡ number_of more = ap (λ k. max k to) (here ∙ sym is) ∙ sym number in
    let up : number_of all ≤ number_of more = omega (arith, is, number) in (
      w,
      keeps,
      tt,
      (
        more,
        ap (λ l. set l 0 (max n to)) marks.1 ∙ ap (λ k. k ∷ []) found,
        AllFit-set more s.views id w
            (((omega (arith, number)), (let a = mine.0.1 in omega (arith, up)), λ t. ((mine.0.2 t).0, sym number)), (subst (λ rs. RisesOn rs more) (sym whole) (rises_all more), rises_more me.0.told all rise mine.1.1, λ _. whole))
            (λ j u other e. let f = marks.2 j u e in let a = f.0.0 in let b = f.0.1 in (
              (omega (arith, up), omega (arith, up), λ t. absurd (other ((f.0.2 t).0 ∙ sym (mine.0.2 raising).0))),
              (rises_more u.rises all rise f.1.0, rises_more u.told all rise f.1.1, λ t. absurd (other ((f.0.2 t).0 ∙ sym (mine.0.2 raising).0))),
            )),
      ),
      ((here ∙ sym is, refl), refl),
    )
