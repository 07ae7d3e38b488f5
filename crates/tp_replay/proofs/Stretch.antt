-- Elements of a stretch of a list.
use Rattle.std.proofs.Common.{◌≡◌, ℕ, zero, suc, ◌+◌, ◌-◌, ◌<◌, ◌≤◌, List, [], ◌∷◌, ◌++◌, length, take, drop, refl, sym, ap, subst, ◌∙◌, arith, inl, inr, Option, Some, None, slice_get}
use Rattle.tp_replay.proofs.Lower.{cases_lt, length-take, slice_get_within}

-- an element at a place among the first ones
pub get_take : {A : Type 0} (count : ℕ) (xs : List A) (i : ℕ) → i < count → slice_get (take count xs) i ≡ slice_get xs i
get_take zero xs i below = absurd (omega (arith, below))
get_take (suc count) [] i below = refl
get_take (suc count) (x ∷ xs) zero below = refl
get_take (suc count) (x ∷ xs) (suc i) below = get_take count xs i (omega (arith, below))

-- at a place after the first ones
pub get_drop : {A : Type 0} (first : ℕ) (xs : List A) (i : ℕ) → slice_get (drop first xs) i ≡ slice_get xs (first + i)
get_drop zero xs i = ap (slice_get xs) (let e : i ≡ 0 + i = omega arith in e)
get_drop (suc first) [] i = refl
get_drop (suc first) (x ∷ xs) i =
    let e : suc (first + i) ≡ suc first + i = omega arith in
    get_drop first xs i ∙ ap (slice_get (x ∷ xs)) e

-- what is among the first ones, or after them, is there
pub taken_there : {A : Type 0} (count : ℕ) (xs : List A) (i : ℕ) (x : A) → slice_get (take count xs) i ≡ Some x → slice_get xs i ≡ Some x
taken_there count xs i x at = elim (cases_lt i count) [
  | inl below ↦ sym (get_take count xs i below) ∙ at
  | inr past ↦ absurd (let within = slice_get_within (take count xs) i x at in let few = length-take count xs in omega (arith, within, past, few))
]

pub left_there : {A : Type 0} (first : ℕ) (xs : List A) (i : ℕ) (x : A) → slice_get (drop first xs) i ≡ Some x → slice_get xs (first + i) ≡ Some x
left_there first xs i x at = sym (get_drop first xs i) ∙ at

-- of two lists in one, an element is in either
pub get_either : {A : Type 0} (xs ys : List A) (i : ℕ) (x : A) (P : Type 0) → slice_get (xs ++ ys) i ≡ Some x → (slice_get xs i ≡ Some x → P) → ((j : ℕ) → slice_get ys j ≡ Some x → P) → P
get_either [] ys i x P at left right = right i at
get_either (y ∷ xs) ys zero x P at left right = left at
get_either (y ∷ xs) ys (suc i) x P at left right = get_either xs ys i x P at left right

-- Lists are equal that have equal elements at each place.
pub same_items : {A : Type 0} (xs ys : List A) → ((i : ℕ) → slice_get xs i ≡ slice_get ys i) → xs ≡ ys
same_items [] [] h = refl
same_items [] (y ∷ ys) h = let none = h 0 in cc
same_items (x ∷ xs) [] h = let none = h 0 in cc
same_items (x ∷ xs) (y ∷ ys) h =
    let here : Some x ≡ Some y = h 0 in
    let same : x ≡ y = cc in
    ap (λ z. z ∷ xs) same ∙ ap (λ zs. y ∷ zs) (same_items xs ys (λ i. h (suc i)))
