-- Partial functions taken apart, and elements of a list that may not be there.
use Rattle.std.proofs.Common.{◌≡◌, ◌≢◌, ℕ, zero, suc, Bool, true, false, cond, List, [], ◌∷◌, ◌++◌, set, refl, ap, subst, Option, Some, None, slice_get}
use Rattle.tp_law_machine.proofs.Lower.{AllByRecursion, list_all, option_map, and_parts, ◌>>=◌}

-- what a chain of partial functions gives, its first one gives too
pub bind_some : {A B : Type 0} (first : Option A) (f : A → Option B) (y : B) → (first >>= f) ≡ Some y → (x : A) × (first ≡ Some x) × (f x ≡ Some y)
bind_some None f y e = cc
bind_some (Some x) f y e = (x, refl, e)

pub map_some : {A B : Type 0} (f : A → B) (given : Option A) (y : B) → option_map f given ≡ Some y → (x : A) × (given ≡ Some x) × (f x ≡ y)
map_some f None y e = cc
map_some f (Some x) y e = (x, refl, cc)

pub cond_some : {A : Type 0} (b : Bool) (given : Option A) (y : A) → cond b given None ≡ Some y → (b ≡ true) × (given ≡ Some y)
cond_some true given y e = (refl, e)
cond_some false given y e = cc

pub slice_get-set_same : {A : Type 0} (xs : List A) (i : ℕ) (y x : A) → slice_get xs i ≡ Some x → slice_get (set xs i y) i ≡ Some y
slice_get-set_same [] i y x e = cc
slice_get-set_same (z ∷ zs) zero y x e = refl
slice_get-set_same (z ∷ zs) (suc i) y x e = slice_get-set_same zs i y x e

pub slice_get-set_other : {A : Type 0} (xs : List A) (i j : ℕ) (y : A) → j ≢ i → slice_get (set xs i y) j ≡ slice_get xs j
slice_get-set_other [] i j y n = refl
slice_get-set_other (z ∷ zs) zero zero y n = absurd (n refl)
slice_get-set_other (z ∷ zs) zero (suc j) y n = refl
slice_get-set_other (z ∷ zs) (suc i) zero y n = refl
slice_get-set_other (z ∷ zs) (suc i) (suc j) y n = slice_get-set_other zs i j y (λ e. n (ap suc e))

-- what is true of each element
pub all_at : {A : Type 0} (P : A → Type 0) (xs : List A) (i : ℕ) (x : A) → AllByRecursion P xs → slice_get xs i ≡ Some x → P x
all_at P [] i x all e = cc
all_at P (y ∷ ys) zero x all e = let same : y ≡ x = cc in subst P same all.0
all_at P (y ∷ ys) (suc i) x all e = all_at P ys i x all.1 e

pub all_set : {A : Type 0} (P : A → Type 0) (xs : List A) (i : ℕ) (x : A) → AllByRecursion P xs → P x → AllByRecursion P (set xs i x)
all_set P [] i x all h = tt
all_set P (y ∷ ys) zero x all h = (h, all.1)
all_set P (y ∷ ys) (suc i) x all h = (all.0, all_set P ys i x all.1 h)

pub all_append : {A : Type 0} (P : A → Type 0) (xs ys : List A) → AllByRecursion P xs → AllByRecursion P ys → AllByRecursion P (xs ++ ys)
all_append P [] ys h k = k
all_append P (x ∷ xs) ys h k = (h.0, all_append P xs ys h.1 k)

-- if all elements of a list pass a test, each one does
pub list_all_at : {A : Type 0} (test : A → Bool) (xs : List A) (i : ℕ) (x : A) → list_all test xs ≡ true → slice_get xs i ≡ Some x → test x ≡ true
list_all_at test [] i x all e = cc
list_all_at test (y ∷ ys) zero x all e = let same : y ≡ x = cc in rw (← same) (and_parts (test y) (list_all test ys) all).0
list_all_at test (y ∷ ys) (suc i) x all e = list_all_at test ys i x (and_parts (test y) (list_all test ys) all).1 e
