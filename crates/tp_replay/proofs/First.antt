-- What finding the first gives, over the numbers from one on.
use Rattle.std.proofs.Common.{◌≡◌, inl, inr, ℕ, zero, suc, ◌+◌, ◌<◌, ◌≤◌, Bool, true, false, List, [], ◌∷◌, length, refl, sym, subst, arith, Option, Some, None, ◌↔◌, MatchOption, All, Contains, slice_get, slice_index_or}
use Rattle.std.specs.Prelude.{IsTrue}
use Rattle.tp_replay.proofs.Lower.{AllZip, range_with_len, cases_eq, cases_lt, false≢true, filter_by_mask}
use denote.Bor.{Bor}

-- the answer tells whether the number is one of them
abbrev pub Tells : List ℕ → ℕ → Bool → Type 0
Tells stops x b = (p : Bor ℕ) × (p.now ≡ x) × (IsTrue b ↔ Contains stops p.now)

-- what is found of the numbers from `a` below `end`
abbrev pub IsFirst : List ℕ → ℕ → ℕ → Option ℕ → Type 0
IsFirst stops a end found =
    MatchOption found ((x : ℕ) → a ≤ x → x < end → Contains stops x → ⊥) (λ k. (a ≤ k) × (k < end) × Contains stops k × ((x : ℕ) → a ≤ x → x < k → Contains stops x → ⊥))

-- one more number before, which isn't one of them
further : (stops : List ℕ) (a end : ℕ) → (Contains stops a → ⊥) → (found : Option ℕ) → IsFirst stops (a + 1) end found → IsFirst stops a end found
further stops a end away None h = λ x low below is. elim (cases_eq x a) [
  | inl same ↦ away (subst (Contains stops) same is)
  | inr apart ↦ h x (omega (arith, low, apart)) below is
]
further stops a end away (Some k) h =
    let low = h.0 in (
      omega (arith, low),
      h.1,
      h.2,
      λ x from below is. elim (cases_eq x a) [
        | inl same ↦ away (subst (Contains stops) same is)
        | inr apart ↦ h.3 x (omega (arith, from, apart)) below is
      ],
    )

pub first_is : (stops : List ℕ) (a n : ℕ) (bs : List Bool) → AllZip (Tells stops) (range_with_len a n) bs → IsFirst stops a (a + n) (slice_get (filter_by_mask (range_with_len a n) bs) 0)
first_is stops a zero [] h = λ x low below is. absurd (omega (arith, low, below))
first_is stops a zero (b ∷ bs) h = absurd h
first_is stops a (suc n) [] h = absurd h
first_is stops a (suc n) (true ∷ bs) h =
    (omega arith, omega arith, subst (Contains stops) h.0.1 (h.0.2.0 refl), λ x low below is. absurd (omega (arith, low, below)))
first_is stops a (suc n) (false ∷ bs) h =
    let end : a + 1 + n ≡ a + suc n = omega arith in
    further stops a (a + suc n) (λ is. false≢true (h.0.2.1 (subst (Contains stops) (sym h.0.1) is))) (slice_get (filter_by_mask (range_with_len (a + 1) n) bs) 0)
    (subst (λ e. IsFirst stops (a + 1) e (slice_get (filter_by_mask (range_with_len (a + 1) n) bs) 0)) end (first_is stops (a + 1) n bs h.1))

-- what is read at an existing place doesn't depend on what is read past the end
pub same_read : (xs : List ℕ) (i a b : ℕ) → i < length xs → slice_index_or xs i a ≡ slice_index_or xs i b
same_read [] i a b below = absurd (omega (arith, below))
same_read (x ∷ xs) zero a b below = refl
same_read (x ∷ xs) (suc i) a b below = same_read xs i a b (omega (arith, below))

-- said of each of them
pub first_of_all : (stops : List ℕ) (count : ℕ) (found : Option ℕ) → IsFirst stops 0 count found
    → MatchOption found (All (λ at. count ≤ at) stops) (λ k. (k < count) × Contains stops k × All (λ at. k ≤ at) stops)
first_of_all stops count None h = λ i d below. elim (cases_lt (slice_index_or stops i d) count) [
  | inl less ↦ absurd (h (slice_index_or stops i d) (omega arith) less (i, below, same_read stops i _ d below))
  | inr more ↦ more
]
first_of_all stops count (Some k) h = (
  h.1,
  h.2,
  λ i d below. elim (cases_lt (slice_index_or stops i d) k) [
    | inl less ↦ absurd (h.3 (slice_index_or stops i d) (omega arith) less (i, below, same_read stops i _ d below))
    | inr more ↦ more
  ],
)
