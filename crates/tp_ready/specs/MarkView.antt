-- The rule of the word, over what each seat knows of it, and what the steps on it tell.
use Rattle.std.specs.Prelude.{◌≡◌, ℕ, ◌≤◌, true, false, max, List, [], ◌∷◌, ◌++◌}
use mathlib.Core.Option.{some}
use lib.ListN.{get_elem?}
use Rattle.tp_ready.specs.Seen.{RisesOn, number_of, unrisen}
use Rattle.tp_ready.specs.declared.mark_view.Rise.{Rise}
use Rattle.tp_ready.specs.declared.mark_view.View.{View}

-- The first seat, when the mark begins with this number.
abbrev pub raiser : ℕ → View
raiser first = record { raises = true; at = first; least = 0; rises = unrisen first; told = [] }

-- A seat that raises nothing, and has seen as much.
abbrev pub reader : ℕ → List Rise → View
reader at rises = record { raises = false; at = at; least = 0; rises = rises; told = [] }

-- The view, told that the word has reached this number, by these rises.
abbrev pub informed : View → ℕ → List Rise → View
informed v n rises = record { raises = v.raises; at = v.at; least = max v.least n; rises = v.rises; told = rises }

-- The word has reached what a seat saw and was told. Only the first seat raises, and what it saw is the word.
abbrev pub ReachedBy : ℕ → ℕ → View → Type 0
ReachedBy word seat v = (v.at ≤ word) × (v.least ≤ word) × (v.raises ≡ true → (seat ≡ 0) × (v.at ≡ word))

-- What a seat saw, and was told, are the first of all rises. The seat that raises saw all of them.
abbrev pub RisesBy : List Rise → View → Type 0
RisesBy all v = RisesOn v.rises all × RisesOn v.told all × (v.raises ≡ true → v.rises ≡ all)

abbrev pub SeatFits : List Rise → ℕ → View → Type 0
SeatFits all seat v = ReachedBy (number_of all) seat v × RisesBy all v

-- There is one word, to which the last of all rises raised it, and each seat's view fits them.
abbrev pub Marks : List ℕ → List View → Type 0
Marks words views = (all : List Rise) × (words ≡ number_of all ∷ []) × ((seat : ℕ) (v : View) → get_elem? views seat ≡ some v → SeatFits all seat v)

-- What was found is at least what was seen and told before, and is what is seen afterwards. It is the last of the rises, which go on from
-- those that were seen.
abbrev pub Loaded : View → ℕ → View → Type 0
Loaded v found w =
    (v.at ≤ found) × (v.least ≤ found) × RisesOn v.rises w.rises × (found ≡ number_of w.rises)
    × (w ≡ record { raises = v.raises; at = found; least = v.least; rises = w.rises; told = v.told })

-- What was found is what was seen before, and at least what was told. The rises go on from those that were told.
abbrev pub Audited : View → ℕ → View → Type 0
Audited v found w = (found ≡ v.at) × (v.least ≤ found) × RisesOn v.told v.rises × (w ≡ v)

-- What was found is what was seen before, and the greater of it and the number is seen afterwards, as one more rise, at the moment.
abbrev pub Raised : ℕ → ℕ → View → ℕ → View → Type 0
Raised moment to v found w =
    (found ≡ v.at)
    × (w ≡ record { raises = v.raises; at = max v.at to; least = v.least; rises = v.rises ++ record { to = max v.at to; moment = moment } ∷ []; told = v.told })
