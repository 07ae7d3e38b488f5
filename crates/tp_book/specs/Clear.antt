-- Lines on which nothing is under way.
use Rattle.std.specs.Prelude.{Bool, true, false, if◌then◌else◌, List, [], ◌∷◌}
use Rattle.tp_book.specs.Lower.{Token, is_marker}

-- a line has no token but Markers
abbrev pub is_clear : List Token → Bool
is_clear [] = true
is_clear (t ∷ ts) = if is_marker t then is_clear ts else false
