-- If no folder of maps is named, no map is read.
use Rattle.std.proofs.Common.{◌≡◌, ℕ, List, [], map, refl, ap, ◌∙◌}
use Rattle.tp_views.specs.Maps.{Maps, after_lines, maps_in, no_maps}

none_read : maps_in [] [] ≡ no_maps
unfolding after_lines
none_read = refl

pub unread : {A : Type 0} (items : A → List ℕ) (own : List A) (all : List ℕ) (maps : Maps) → maps ≡ maps_in (map items own) all → own ≡ [] → all ≡ [] → maps ≡ no_maps
unread items own all maps is none neither = is ∙ ap (λ xs. maps_in (map items xs) all) none ∙ ap (λ ys. maps_in [] ys) neither ∙ none_read
