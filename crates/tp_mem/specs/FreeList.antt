-- How a pool's frames are kept in its region: the owners beside it, and the free list in the free frames.
use Rattle.std.specs.Prelude.{◌≡◌, ◌+◌, ◌<◌, ◌^◌, ℕ, List, [], ◌∷◌, None, get_or, length}
use Rattle.tp_mem.specs.Lower.{from_le_bytes, w32, Frames, frame, owned, free_in}

-- The frames with their numbers of owners, with the bytes of the region.
abbrev pub frames_of : List ℕ → List (List ℕ) → Frames
frames_of [] bytes = []
frames_of (count ∷ counts) [] = []
frames_of (count ∷ counts) (bytes ∷ region) = owned count bytes ∷ frames_of counts region

-- A free frame begins with the number of the next one.
abbrev pub next_in : List ℕ → ℕ
next_in bytes = from_le_bytes w32 (get_or bytes 0 0 ∷ get_or bytes 1 0 ∷ get_or bytes 2 0 ∷ get_or bytes 3 0 ∷ [])

-- Each frame leads to the next.
abbrev pub AreLinked : List (List ℕ) → Type 0
AreLinked region = (i : ℕ) → i + 1 < length region → next_in (get_or region i []) ≡ i + 1

-- a number isn't in a list
abbrev pub IsApart : ℕ → List ℕ → Type 0
IsApart number [] = Unit {0}
IsApart number (other ∷ others) = (¬ (number ≡ other)) × IsApart number others

-- From the first one on, each of the frames is free and leads to the next.
abbrev pub IsChain : Frames → List (List ℕ) → ℕ → List ℕ → Type 0
IsChain frames region first [] = Unit {0}
IsChain frames region first (number ∷ numbers) =
    (first ≡ number) × (number < length frames) × (frame frames number ≡ None) × IsApart number numbers
    × IsChain frames region (next_in (get_or region number [])) numbers

-- What is true of every pool: each frame has a count of owners, and the free list has as many frames as are free.
pub record IsPool (counts : List ℕ) (region : List (List ℕ)) (first free : ℕ) : Type 0 where
  pub matched : length counts ≡ length region
  pub small : length counts < 2 ^ 32
  pub free_is : free ≡ free_in (frames_of counts region)
  pub chain : (numbers : List ℕ) × (length numbers ≡ free) × IsChain (frames_of counts region) region first numbers
