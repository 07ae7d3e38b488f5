-- Parts of a turn in order. A part is seen as the state before it, what it makes in order, and the state after it.
use Rattle.std.specs.Prelude.{◌≡◌, ℕ, zero, suc, List, [], ◌++◌}

-- one part and then another
pub record Then {S E : Type 0} (one other : S → List E → S → Type 0) (s : S) (done : List E) (t : S) : Type 0 where
  pub between : S
  pub first : List E
  pub second : List E
  pub are : done ≡ first ++ second
  pub one_did : one s first between
  pub other_did : other between second t

-- a number of parts in order, the first of them number 0
unfoldable pub InOrder : {S E : Type 0} → (ℕ → S → List E → S → Type 0) → ℕ → S → List E → S → Type 0
InOrder part zero s done t = (done ≡ []) × (t ≡ s)
InOrder part (suc count) s done t = Then (InOrder part count) (part count) s done t
