-- A list that was grown by one.
use Rattle.std.proofs.Common.{◌≡◌, ◌<◌, ◌+◌, ℕ, List, [], ◌∷◌, ◌++◌, length, map, take, get_or, refl, sym, ap, ◌∙◌, append_assoc}
use Rattle.std.proofs.lemmas.List.{map-append, take_more}

pub map_more : {X Y : Type 0} (f : X → Y) (xs : List X) (i : ℕ) (last : X) (ys now : List Y) (y : Y) → i < length xs → ys ≡ map f (take i xs) → y ≡ f (get_or xs i last)
    → now ≡ ys ++ y ∷ [] → now ≡ map f (take (i + 1) xs)
map_more f xs i last ys now y low front is grew =
    grew ∙ ap (λ front. front ++ y ∷ []) front ∙ ap (λ z. map f (take i xs) ++ z ∷ []) is
    ∙ sym (map-append f (take i xs) (get_or xs i last ∷ [])) ∙ ap (map f) (sym (take_more xs i last low))

-- so it is after what was there before
pub map_more_behind : {X Y : Type 0} (f : X → Y) (xs : List X) (i : ℕ) (last : X) (front ys now : List Y) → i < length xs → ys ≡ front ++ map f (take i xs)
    → f last ≡ f (get_or xs i last) → now ≡ ys ++ f last ∷ [] → now ≡ front ++ map f (take (i + 1) xs)
map_more_behind f xs i last front ys now low so is grew =
    grew ∙ ap (λ ys. ys ++ f last ∷ []) so ∙ append_assoc front (map f (take i xs)) (f last ∷ [])
    ∙ ap (λ rest. front ++ rest) (map_more f xs i last (map f (take i xs)) (map f (take i xs) ++ f last ∷ []) (f last) low refl is refl)

-- so it is of what is taken of each
pub map_last : {X Y : Type 0} (f : X → Y) (was now : List X) (x : X) → now ≡ was ++ x ∷ [] → map f now ≡ map f was ++ f x ∷ []
map_last f was now x grew = ap (map f) grew ∙ map-append f was (x ∷ [])
