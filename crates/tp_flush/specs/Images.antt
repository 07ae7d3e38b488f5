-- What a turn does with the frozen images of the snapshot that runs.
use Rattle.std.specs.Prelude.{◌≡◌, ◌<◌, ℕ, Bool, true, false, List, [], ◌∷◌, ◌++◌, length, get_or, Option, Some, None}
use Rattle.tp_flush.specs.Lower.{has_recorded_in, BookValue, Look}
use Rattle.tp_flush.specs.declared.imaged.Image.{Image}
use Rattle.tp_flush.specs.declared.imaged.Image.TheVariants.{WasOut, Unrecorded, Lacking, Copied}
use Rattle.tp_flush.specs.declared.imaged.Images.{Images}
use Rattle.tp_flush.specs.declared.imaged.Images.TheVariants.{NoSnapshot, Out, Enough, Unkept}
use Rattle.tp_flush.specs.declared.progress.Progress.{Progress}
use Rattle.tp_flush.specs.Progress.{is_out}
use Rattle.tp_flush.specs.Flushing.{Flushing}

-- ## One image

-- what was done with the image of a node; `recorded` tells whether the node has recorded
abbrev pub NodeImaged : Image → Bool → ℕ → Progress → Progress → Type 0
NodeImaged WasOut recorded node old new = is_out new node ≡ true
NodeImaged Unrecorded recorded node old new = recorded ≡ false
NodeImaged Lacking recorded node old new = (recorded ≡ true) × (is_out new node ≡ false)
NodeImaged (Copied pages) recorded node old new = (is_out old node ≡ false) × (is_out new node ≡ true)

-- images that are out stay out
abbrev pub StayOut : Progress → Progress → Type 0
StayOut old new = (i : ℕ) → is_out old i ≡ true → is_out new i ≡ true

-- the turn goes on with the next node
abbrev pub HasNextImage : Image → Type 0
HasNextImage WasOut = Unit {0}
HasNextImage Unrecorded = Unit {0}
HasNextImage Lacking = ⊥
HasNextImage (Copied pages) = Unit {0}

-- or its copying ends with this
abbrev pub EndsSo : Image → ℕ → Images → Type 0
EndsSo WasOut node images = ⊥
EndsSo Unrecorded node images = ⊥
EndsSo Lacking node images = images ≡ Unkept node
EndsSo (Copied pages) node images = images ≡ Enough

-- ## All of them

-- An image went out.
pub record OneWentOut (old new : Progress) : Type 0 where
  pub node : ℕ
  pub waited : is_out old node ≡ false
  pub is : is_out new node ≡ true

-- What was done with the images of all `nodes` nodes, on a device that may have `images` images. `ran` tells whether a snapshot ran, and
-- `recorded` which nodes had recorded in it.
abbrev pub Imaged : Bool → (ℕ → Bool) → ℕ → ℕ → Images → Progress → Progress → Type 0
Imaged ran recorded nodes images NoSnapshot old new = ran ≡ false
Imaged ran recorded nodes images Out old new = (i : ℕ) → i < nodes → i < images → recorded i ≡ true → is_out new i ≡ true
Imaged ran recorded nodes images Enough old new = OneWentOut old new
Imaged ran recorded nodes images (Unkept i) old new = (i < nodes) × (recorded i ≡ true) × (is_out new i ≡ false)

-- ## In which book

-- what is read of the snapshot in a book; `None` if none runs
abbrev pub IsLookAt : ℕ → Option Look → BookValue → Type 0
IsLookAt nodes None b = has_recorded_in b.state.snapshot nodes ≡ false
IsLookAt nodes (Some look) b = (has_recorded_in b.state.snapshot nodes ≡ true) × ((i : ℕ) → i < nodes → get_or look.recorded i false ≡ has_recorded_in b.state.snapshot i)

-- The book was seen then, after those that were seen before.
pub record LookedIn (nodes : ℕ) (look : Option Look) (before seen : List BookValue) : Type 0 where
  pub found : BookValue
  pub shown : seen ≡ before ++ found ∷ []
  pub is : IsLookAt nodes look found

-- What a turn that didn't switch did with the images, as it found the snapshot in a book that was seen.
pub record ImagedIn (nodes : ℕ) (images : Images) (before seen : List BookValue) (old new : Flushing) : Type 0 where
  pub found : BookValue
  pub shown : seen ≡ before ++ found ∷ []
  pub did : Imaged (has_recorded_in found.state.snapshot nodes) (has_recorded_in found.state.snapshot) nodes (length new.topology.pages) images old.progress new.progress
