-- The item at a place, in a list and in one that is told of it.
use Rattle.std.proofs.Common.{◌≡◌, ◌∙◌, ◌<◌, ◌≤◌, ℕ, List, length, get_or, map, Some, None, ap, refl, slice_get, option_map}
use Rattle.std.proofs.lemmas.Option.{slice_get-map, slice_get_past, slice_get_read}

-- after the end there is none
pub told_past : {A B : Type 0} (f : A → B) (xs : List A) (k : ℕ) → length xs ≤ k → slice_get (map f xs) k ≡ None
told_past f xs k far = slice_get-map f xs k ∙ ap (option_map f) (slice_get_past xs k far)

-- before it there is what is told of the item
pub told_at : {A B : Type 0} (f : A → B) (xs : List A) (k : ℕ) (x : A) → k < length xs → x ≡ get_or xs k x → slice_get (map f xs) k ≡ Some (f x)
told_at f xs k x near is = slice_get-map f xs k ∙ ap (option_map f) (slice_get_read xs (length xs) k x refl near is)
