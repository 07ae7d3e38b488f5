-- Books that were seen one after another: a store that was broken is broken from then on.
use Rattle.std.specs.Prelude.{◌≡◌, Bool, true, List, [], ◌∷◌}
use Rattle.tp_shared.specs.Lower.{AllByRecursion, BookValue}

-- After a broken book all are broken.
abbrev pub StayBroken : List BookValue → Type 0
StayBroken [] = Unit {0}
StayBroken (book ∷ later) = (book.broken ≡ true → AllByRecursion (λ b. b.broken ≡ true) later) × StayBroken later

-- If one of them was broken, it is broken now.
abbrev pub BrokenSince : Bool → List BookValue → Type 0
BrokenSince now seen = AllByRecursion (λ b. b.broken ≡ true → now ≡ true) seen
