-- Sums over what passes hold, and over the numbers below a count.
use Rattle.std.proofs.Common.{◌≡◌, ℕ, zero, suc, ◌+◌, ◌<◌, ◌≤◌, List, [], ◌∷◌, length, set, sum_by, sym, refl, ap, lt_of_not-le, arith}
use Rattle.tp_ready.proofs.Lower.{sum_by-cons, some, some-injective, some-ne-none, dite, dec_le, nat_tests}
use lib.ListN.{get_elem?}
use Rattle.tp_ready.specs.View.{sum_below, one_at}

module _ {A : Type 0} where
  -- the sum after a change at one place
  pub sum_by-set : (f : A → ℕ) (xs : List A) (i : ℕ) (x y : A) → get_elem? xs i ≡ some x → sum_by f (set xs i y) + f x ≡ sum_by f xs + f y
  sum_by-set f [] i x y e = absurd (some-ne-none x (sym e))
  sum_by-set f (a ∷ xs) zero x y e = let is : f a ≡ f x = ap f (some-injective a x e) in omega (arith, sum_by-cons f y xs, sum_by-cons f a xs)
  sum_by-set f (a ∷ xs) (suc i) x y e = omega (arith, sum_by-cons f a (set xs i y), sum_by-cons f a xs, sum_by-set f xs i x y e)

  -- what weighs no more one by one weighs no more together
  pub sum_by-le : (f g : A → ℕ) (xs : List A) → ((i : ℕ) (x : A) → get_elem? xs i ≡ some x → f x ≤ g x) → sum_by f xs ≤ sum_by g xs
  sum_by-le f g [] le = omega arith
  sum_by-le f g (x ∷ xs) le = omega (arith, sum_by-cons f x xs, sum_by-cons g x xs, le zero x refl, sum_by-le f g xs (λ i y e. le (suc i) y e))

  pub sum_by-ones : (xs : List A) → sum_by (λ _. 1) xs ≡ length xs
  sum_by-ones [] = refl
  sum_by-ones (x ∷ xs) = omega (arith, sum_by-cons (λ (_ : A). 1) x xs, sum_by-ones xs)

pub sum_below-ones : (n : ℕ) → sum_below (λ _. 1) n ≡ n
sum_below-ones zero = refl
sum_below-ones (suc n) = omega (arith, sum_below-ones n)

pub one_at-same : (x : ℕ) → one_at x x ≡ 1
one_at-same x = grind (arith, nat_tests)

-- a number from n on weighs nothing among those below n
pub sum_below-one_at-outside : (x n : ℕ) → n ≤ x → sum_below (one_at x) n ≡ 0
sum_below-one_at-outside x zero le = refl
sum_below-one_at-outside x (suc n) le =
    let before = sum_below-one_at-outside x n (omega arith) in
    let here : one_at x n ≡ 0 = grind (arith, nat_tests) in
    omega arith

one_at-le : (x y : ℕ) → one_at x y ≤ 1
one_at-le x y = grind (arith, nat_tests)

one_at-below : (x y : ℕ) → x < y → one_at x y ≡ 0
one_at-below x y lt = grind (arith, nat_tests)

pub sum_below-one_at : (x n : ℕ) → sum_below (one_at x) n ≤ 1
sum_below-one_at x zero = omega arith
sum_below-one_at x (suc n) =
    dite (dec_le n x) (λ le. omega (arith, sum_below-one_at-outside x n le, one_at-le x n)) (λ not_le. omega (arith, sum_below-one_at x n, one_at-below x n (lt_of_not-le not_le)))
