-- Lists.
use Rattle.std.proofs.Common.{◌≡◌, ℕ, zero, suc, ◌+◌, ◌<◌, List, [], ◌∷◌, ◌++◌, length, map, get_or, take, set, sym, ap, ◌∙◌, Some, slice_get}
use Rattle.std.proofs.lemmas.List.{map-append, take_more}

-- what was there is put there
pub set_back : {A : Type 0} (xs : List A) (i : ℕ) (x : A) → slice_get xs i ≡ Some x → set xs i x ≡ xs
set_back [] i x e = cc
set_back (y ∷ ys) zero x e = let same : y ≡ x = cc in ap (λ z. z ∷ ys) (sym same)
set_back (y ∷ ys) (suc i) x e = ap (λ zs. y ∷ zs) (set_back ys i x e)

-- one more is made of the next
pub made_more : {A B : Type 0} (f : A → B) (xs : List A) (i : ℕ) (x : A) (so_far after : List B) (y : B) → i < length xs → x ≡ get_or xs i x → so_far ≡ map f (take i xs) → y ≡ f x → after ≡ so_far ++ y ∷ []
    → after ≡ map f (take (i + 1) xs)
made_more f xs i x so_far after y there is all made pushed =
    pushed ∙ ap (λ ys. ys ++ y ∷ []) all ∙ ap (λ z. map f (take i xs) ++ z ∷ []) (made ∙ ap f is)
    ∙ sym (map-append f (take i xs) (get_or xs i x ∷ [])) ∙ ap (map f) (sym (take_more xs i x there))
