-- Rising numbers, as the marks of outputs are: what keeps them rising, and how many of them are at most a mark.
use Rattle.std.proofs.Common.{◌≡◌, ℕ, zero, suc, ◌+◌, ◌<◌, ◌≤◌, false, cond, inl, inr, List, [], ◌∷◌, ◌++◌, length, set, drop, get_or, replicate, refl, sym, ap, subst, ◌∙◌, arith, Some, slice_get, length-set}
use Rattle.std.specs.Prelude.{count_by, nat_le}
use Rattle.tp_book.proofs.Lower.{cases_eq, cases_Bool, leb-true, leb-false, lt-leb, sum_by-cons, slice_get_within, slice_get-get_or, slice_get-set_same, slice_get-set_other}
use Rattle.tp_book.specs.Kept.{IsRising, AreRising}

pub rising_from : (least low most : ℕ) (ns : List ℕ) → IsRising least most ns → low ≤ least → IsRising low most ns
rising_from least low most [] all more = omega (arith, all)
rising_from least low most (n ∷ ns) all more = (omega (arith, all.0), all.1)

pub rising_to : (least most high : ℕ) (ns : List ℕ) → IsRising least most ns → most ≤ high → IsRising least high ns
rising_to least most high [] all more = omega (arith, all)
rising_to least most high (n ∷ ns) all more = (all.0, rising_to n most high ns all.1 more)

pub rising_push : (least most n : ℕ) (ns : List ℕ) → IsRising least most ns → most ≤ n → IsRising least n (ns ++ n ∷ [])
rising_push least most n [] all more = (omega (arith, all), omega arith)
rising_push least most n (m ∷ ns) all more = (all.0, rising_push m most n ns all.1 more)

pub rising_drop : (k least most : ℕ) (ns : List ℕ) → IsRising least most ns → IsRising least most (drop k ns)
rising_drop zero least most ns all = all
rising_drop (suc k) least most [] all = all
rising_drop (suc k) least most (n ∷ ns) all = rising_from n least most (drop k ns) (rising_drop k n most ns all.1) all.0

pub rising_zeros : (n most : ℕ) → IsRising 0 most (replicate n 0)
rising_zeros zero most = omega arith
rising_zeros (suc n) most = (omega arith, rising_zeros n most)

-- ## Of each port

pub rising_more : (next later : ℕ) (marks : List (List ℕ)) → AreRising next marks → next ≤ later → AreRising later marks
rising_more next later marks all more p ns at = rising_to 0 next later ns (all p ns at) more

pub rising_set : (next later : ℕ) (marks : List (List ℕ)) (p : ℕ) (ns : List ℕ) → AreRising next marks → IsRising 0 later ns → next ≤ later → AreRising later (set marks p ns)
rising_set next later marks p ns all one more q ms at = elim (cases_eq q p) [
  | inl same ↦
      let there : p < length marks = omega (arith, slice_get_within (set marks p ns) q ms at, length-set marks p ns, same) in
      let now : Some ns ≡ Some ms = sym (slice_get-set_same marks p ns (get_or marks p ns) (slice_get-get_or marks p ns there)) ∙ ap (slice_get (set marks p ns)) (sym same) ∙ at in
      let is : ns ≡ ms = cc in
      subst (IsRising 0 later) is one
  | inr other ↦ rising_to 0 next later ms (all q ms (sym (slice_get-set_other marks p q ns other) ∙ at)) more
]

-- ## How many

-- as many as are at most a mark
abbrev within : ℕ → List ℕ → ℕ
within mark ns = count_by (λ n. nat_le n mark) ns

within_cons : (mark n : ℕ) (ns : List ℕ) → within mark (n ∷ ns) ≡ cond (nat_le n mark) 1 0 + within mark ns
within_cons mark n ns = sum_by-cons (λ m. cond (nat_le m mark) 1 0) n ns

rising_least : (least most : ℕ) (ns : List ℕ) → IsRising least most ns → (k : ℕ) → k < length ns → least ≤ get_or ns k 0
rising_least least most [] all k below = absurd (omega arith)
rising_least least most (n ∷ ns) all zero below = all.0
rising_least least most (n ∷ ns) all (suc k) below = omega (arith, all.0, rising_least n most ns all.1 k (omega arith))

within_none : (mark least most : ℕ) (ns : List ℕ) → IsRising least most ns → mark < least → within mark ns ≡ 0
within_none mark least most [] all above = refl
within_none mark least most (n ∷ ns) all above =
    let first : within mark (n ∷ ns) ≡ cond false 1 0 + within mark ns = within_cons mark n ns ∙ ap (λ c. cond c 1 0 + within mark ns) (lt-leb n mark (omega (arith, all.0))) in
    omega (arith, first, within_none mark n most ns all.1 (omega (arith, all.0)))

-- the first ones are within,
pub within_first : (mark least most : ℕ) (ns : List ℕ) → IsRising least most ns → (k : ℕ) → k < within mark ns → get_or ns k 0 ≤ mark
within_first mark least most [] all k below = absurd (omega (arith, below))
within_first mark least most (n ∷ ns) all k below = elim (cases_Bool (nat_le n mark)) [
  | inl y ↦ first (λ j h. within_first mark n most ns all.1 j h) k (subst (λ c. k < cond c 1 0 + within mark ns) y (subst (λ m. k < m) (within_cons mark n ns) below)) (leb-true n mark y)
  | inr above ↦
      let none = within_none mark n most ns all.1 (leb-false n mark above) in
      let past : k < cond false 1 0 + within mark ns = subst (λ c. k < cond c 1 0 + within mark ns) above (subst (λ m. k < m) (within_cons mark n ns) below) in
      absurd (omega (arith, none, past))
]
  where
    first : ((j : ℕ) → j < within mark ns → get_or ns j 0 ≤ mark) → (k : ℕ) → k < 1 + within mark ns → n ≤ mark → get_or (n ∷ ns) k 0 ≤ mark
    first rest zero below y = y
    first rest (suc k) below y = rest k (omega (arith, below))

-- and no other is
pub within_last : (mark least most : ℕ) (ns : List ℕ) → IsRising least most ns → (k : ℕ) → k < length ns → within mark ns ≤ k → mark < get_or ns k 0
within_last mark least most [] all k below past = absurd (omega (arith, below))
within_last mark least most (n ∷ ns) all k below past = elim (cases_Bool (nat_le n mark)) [
  | inl y ↦ last (λ j h p. within_last mark n most ns all.1 j h p) k below (subst (λ c. cond c 1 0 + within mark ns ≤ k) y (subst (λ m. m ≤ k) (within_cons mark n ns) past))
  | inr above ↦ omega (arith, leb-false n mark above, rising_least n most (n ∷ ns) (omega arith, all.1) k below)
]
  where
    last : ((j : ℕ) → j < length ns → within mark ns ≤ j → mark < get_or ns j 0) → (k : ℕ) → k < length (n ∷ ns) → 1 + within mark ns ≤ k → mark < get_or (n ∷ ns) k 0
    last rest zero below past = absurd (omega (arith, past))
    last rest (suc k) below past = rest k (omega (arith, below)) (omega (arith, past))
