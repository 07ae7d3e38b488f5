-- The parts of a memory that copies a page before the first write to it. Each page of the frozen bytes is either the live one, while it is
-- shared, or a copy in a frame.
use Rattle.std.specs.Prelude.{◌≡◌, ℕ, ◌+◌, ◌*◌, ◌≤◌, Bool, false, not, ◌&&◌, List, [], ◌∷◌, ◌++◌, length, set, Option, Some, None, is_some, if◌then◌else◌}
use Rattle.tp_mem.specs.Lower.{Frames, owners_of, bytes_of, free_in, Kept, MAX_PAGES, PAGE_BYTES}
use Rattle.tp_mem.specs.Contents.{page_of}

-- What contracts see:
-- - the live bytes;
-- - while memory is frozen, the bytes as they were at the freeze;
-- - of each page, whether both share it;
-- - how many frames there are for copies.
pub record Paged : Type 0 where
  pub live : List ℕ
  pub frozen : Option (List ℕ)
  pub shared : List Bool
  pub spare : ℕ

-- what is kept beside the live bytes
abbrev pub kept_of : Paged → Kept
kept_of memory = record { frozen = memory.frozen; shared = memory.shared; spare = memory.spare }

-- the frozen bytes of a page
abbrev pub frozen_bytes : ℕ → List ℕ → Option ℕ → Frames → List ℕ
frozen_bytes page live None frames = page_of live page
frozen_bytes page live (Some id) frames = bytes_of frames id

-- those of the pages from one on
abbrev pub frozen_from : ℕ → List ℕ → List (Option ℕ) → Frames → List ℕ
frozen_from page live [] frames = []
frozen_from page live (copy ∷ copies) frames = frozen_bytes page live copy frames ++ frozen_from (page + 1) live copies frames

-- the pages that are shared, and how many have a copy
abbrev pub shared_of : Bool → List (Option ℕ) → List Bool
shared_of is_frozen [] = []
shared_of is_frozen (copy ∷ copies) = (is_frozen && not (is_some copy)) ∷ shared_of is_frozen copies

abbrev pub copied_in : List (Option ℕ) → ℕ
copied_in [] = 0
copied_in (None ∷ copies) = copied_in copies
copied_in (Some id ∷ copies) = 1 + copied_in copies

-- a frame isn't among the copies
abbrev pub IsElsewhere : ℕ → List (Option ℕ) → Type 0
IsElsewhere id [] = Unit {0}
IsElsewhere id (None ∷ copies) = IsElsewhere id copies
IsElsewhere id (Some other ∷ copies) = (¬ (id ≡ other)) × IsElsewhere id copies

-- each copy is a frame of a page's length that nothing else has
abbrev pub AreCopies : Frames → List (Option ℕ) → Type 0
AreCopies frames [] = Unit {0}
AreCopies frames (None ∷ copies) = AreCopies frames copies
AreCopies frames (Some id ∷ copies) =
    (owners_of frames id ≡ 1) × (length (bytes_of frames id) ≡ PAGE_BYTES) × IsElsewhere id copies × AreCopies frames copies

-- the frames without the copy of a page, if it has one
abbrev pub without_copy : Frames → Option ℕ → Frames
without_copy frames None = frames
without_copy frames (Some id) = set frames id None

-- what is true of every such memory
pub record IsPaged (live : List ℕ) (shared : List Bool) (copies : List (Option ℕ)) (frames : Frames) (is_frozen : Bool) : Type 0 where
  pub whole : length live ≡ PAGE_BYTES * length copies
  pub few : length copies ≤ MAX_PAGES
  pub flags : shared ≡ shared_of is_frozen copies
  pub own : AreCopies frames copies
  pub thawed : is_frozen ≡ false → copied_in copies ≡ 0

-- the frozen bytes, and all frames for copies
abbrev pub frozen_of : Bool → List ℕ → List (Option ℕ) → Frames → Option (List ℕ)
frozen_of is_frozen live copies frames = if is_frozen then Some (frozen_from 0 live copies frames) else None

abbrev pub spare_in : List (Option ℕ) → Frames → ℕ
spare_in copies frames = free_in frames + copied_in copies
