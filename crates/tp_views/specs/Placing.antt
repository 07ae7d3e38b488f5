-- The addresses that places name.
use Rattle.std.specs.Prelude.{◌≡◌, ◌⊎◌, ℕ, Bool, true, false, nat_lt, List, if◌then◌else◌, Option, Some, None, IsSome}
use Rattle.tp_views.specs.Lower.{most_neg, option_and_then, option_map, digits_value}
use Rattle.tp_views.specs.Maps.{Row, address_of, is_address}
use Rattle.tp_views.specs.declared.refusal.Refusal.{Refusal}
use Rattle.tp_views.specs.declared.refusal.Refusal.TheVariants.{NoPlace}
use Rattle.tp_views.specs.declared.trace.stops.Range.{Range}

-- the address of a place: eight hexadecimal digits, or a label of the map
abbrev pub place_in : List Row → List ℕ → Option ℕ
place_in rows text = if is_address text then Some (digits_value 16 text) else address_of text rows

-- that of one which may be asked for
abbrev pub place_of : List Row → Option (List ℕ) → Option ℕ
place_of rows asked = option_and_then (place_in rows) asked

-- `count` bytes from an address on, if there is one
abbrev pub range_of : ℕ → Option ℕ → Option Range
range_of count from = option_map (λ (from : ℕ). record { from = from; count = count }) from

-- A place was asked for that names no address.
abbrev pub LacksPlace : List Row → Option (List ℕ) → Refusal → Type 0
LacksPlace rows asked refusal = (refusal ≡ NoPlace) × IsSome asked × (place_of rows asked ≡ None)

-- an address below memory, which begins at the most negative one
abbrev pub is_below : Option ℕ → Bool
is_below None = false
is_below (Some address) = nat_lt address most_neg

-- What is to be watched is at no address, or below memory.
abbrev pub LacksWatched : List Row → Option (List ℕ) → Refusal → Type 0
LacksWatched rows asked refusal = (refusal ≡ NoPlace) × ((IsSome asked × (place_of rows asked ≡ None)) ⊎ (is_below (place_of rows asked) ≡ true))
