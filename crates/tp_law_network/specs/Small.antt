-- A small format of a device with two areas. It shows that a format can meet what the laws of runs ask of it.
--
-- The device has two areas of nine bytes. An area is its gate, its generation, the number of entries in its cut and an image of one byte.
-- Then come two places for groups of two bytes each, and a last gate. A group is its gate and one entry: a byte that the host hands to port
-- 0. Any network may belong to an image.
use Rattle.std.specs.Prelude.{ℕ, zero, suc, ◌+◌, ◌*◌, ◌==◌, nat_lt, nat_le, Bool, true, false, not, ◌||◌, if◌then◌else◌, List, [], ◌∷◌, length, get_or, Option, Some, None}
use Rattle.tp_law_network.specs.Lower.{option_map, Entry, HostIn, GATE_OPEN, GATE_CLOSED, ◌>>=◌, Machine, Network, after, Areas, Held}

-- the byte at a place
abbrev pub small_byte : List ℕ → ℕ → ℕ
small_byte bytes place = get_or bytes place 0

-- a gate is open
abbrev pub is_small_open : List ℕ → ℕ → Bool
is_small_open bytes place = small_byte bytes place == GATE_OPEN

-- where an area begins
abbrev pub begins : Bool → ℕ
begins false = 0
begins true = 9

-- which area is the current one, by which gates are open and by whether the second is of higher generation: the only open one, or the one
-- of higher generation
abbrev pub current_of : Bool → Bool → Bool → Option Bool
current_of true true later = Some later
current_of true false later = Some false
current_of false true later = Some true
current_of false false later = None

abbrev pub current : List ℕ → Option Bool
current bytes = current_of (is_small_open bytes 0) (is_small_open bytes 9) (nat_lt (small_byte bytes 1) (small_byte bytes 10))

-- the entries of the groups from a place on, at most the number that is given, up to the first closed gate
unfoldable pub entries_at : List ℕ → ℕ → ℕ → List Entry
entries_at bytes zero place = []
entries_at bytes (suc more) place =
    if is_small_open bytes place then HostIn 0 (small_byte bytes (place + 1)) ∷ entries_at bytes more (place + 2) else []

-- what the area at a place holds
abbrev pub held_at : {Node : Type 0} → (ℕ → Network Node) → List ℕ → ℕ → Held Node
held_at image bytes place = record {
  network = image (small_byte bytes (place + 3));
  entries = entries_at bytes 2 (place + 4);
  base = small_byte bytes (place + 2);
}

-- what is held, if its entries are possible
abbrev pub if_possible : {Node : Type 0} → Machine Node → Held Node → Option (Held Node)
if_possible M h = after M h.network h.entries >>= λ last. Some h

-- what opening answers, for a device of the right size
unfoldable pub small_verdict : {Node : Type 0} → Machine Node → (ℕ → Network Node) → List ℕ → Option (Held Node)
small_verdict M image bytes =
    if length bytes == 18 then (current bytes >>= λ second. if_possible M (held_at image bytes (begins second))) else None

-- the range after a gate, if it is closed; and the gate's place, if it is open
abbrev pub behind : Bool → ℕ → ℕ × ℕ
behind true place = (0, 0)
behind false place = (place + 1, 8)

abbrev pub spare_of : List ℕ → Option Bool → ℕ × ℕ
spare_of bytes None = (0, 0)
spare_of bytes (Some second) = behind (is_small_open bytes (begins (not second))) (begins (not second))

abbrev pub open_of : List ℕ → Bool → Option ℕ
open_of bytes second = if is_small_open bytes (begins (not second)) then Some (begins (not second)) else None

-- a group of one entry, if there is a place for it
abbrev pub spelt : ℕ → ℕ → List Entry → Option (ℕ × List ℕ)
spelt place count (HostIn zero x ∷ []) = if nat_lt count 2 then Some (place + 2 * count, x ∷ GATE_CLOSED ∷ []) else None
spelt place count _ = None

abbrev pub group_of : List ℕ → List Entry → Bool → Option (ℕ × List ℕ)
group_of bytes es second = spelt (begins second + 4) (length (entries_at bytes 2 (begins second + 4))) es

-- the other area as it is once its gate is open, if that is closed and the area's generation is higher
abbrev pub other_of : {Node : Type 0} → Machine Node → (ℕ → Network Node) → List ℕ → Bool → Option (ℕ × Held Node)
other_of M image bytes second =
    if is_small_open bytes (begins (not second)) || nat_le (small_byte bytes (begins (not second) + 1)) (small_byte bytes (begins second + 1))
    then None
    else option_map (λ k. (begins (not second), k)) (if_possible M (held_at image bytes (begins (not second))))

-- The format.
abbrev pub small_areas : {Node : Type 0} → Machine Node → (ℕ → Network Node) → Areas Node
small_areas M image = record {
  verdict = small_verdict M image;
  spare = λ bytes. spare_of bytes (current bytes);
  group = λ bytes es. current bytes >>= group_of bytes es;
  open_other = λ bytes. current bytes >>= open_of bytes;
  other = λ bytes. current bytes >>= other_of M image bytes;
}
