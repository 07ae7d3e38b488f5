-- What the device holds, by the flusher's position in its orders of writing.
use Rattle.std.specs.Prelude.{◌≡◌, ℕ, ◌+◌, List, [], ◌∷◌, ◌++◌, length, Some}
use Rattle.tp_law_network.specs.Lower.{Entry, Moment, AreWithin, written, Areas, Held, gate_open, gate_closed, Gate}

-- Between groups: what is unsynced comes after the other area's closed gate.
pub record RestsBetweenGroups {Node : Type 0} (A : Areas Node) (h : Held Node) (disk : Moment) : Type 0 where
  pub reads : A.verdict disk.bytes ≡ Some h
  pub loose : AreWithin (A.spare disk.bytes) disk.unsynced

-- A group was written after its closed gate, over bytes that rested.
pub record Bodied {Node : Type 0} (A : Areas Node) (h : Held Node) (disk : Moment) (place : ℕ) (es : List Entry) : Type 0 where
  pub old : List ℕ
  pub ranges : List (ℕ × ℕ)
  pub body : List ℕ
  pub reads : A.verdict old ≡ Some h
  pub loose : AreWithin (A.spare old) ranges
  pub group : A.group old es ≡ Some (place, body)
  pub is : disk ≡ record { bytes = written old (place + 1) body; unsynced = ranges ++ (place + 1, length body) ∷ [] }

-- It is synced.
pub record Readied {Node : Type 0} (A : Areas Node) (h : Held Node) (disk : Moment) (place : ℕ) (es : List Entry) : Type 0 where
  pub old : List ℕ
  pub body : List ℕ
  pub reads : A.verdict old ≡ Some h
  pub group : A.group old es ≡ Some (place, body)
  pub is : disk ≡ record { bytes = written old (place + 1) body; unsynced = [] }

-- And its gate was written open.
pub record Gated {Node : Type 0} (A : Areas Node) (h : Held Node) (disk : Moment) (place : ℕ) (es : List Entry) : Type 0 where
  pub old : List ℕ
  pub body : List ℕ
  pub reads : A.verdict old ≡ Some h
  pub group : A.group old es ≡ Some (place, body)
  pub is : disk ≡ record { bytes = written (written old (place + 1) body) place gate_open; unsynced = (place, 1) ∷ [] }

-- The other area's gate, which was open, was written closed.
pub record Clearing {Node : Type 0} (A : Areas Node) (h : Held Node) (disk : Moment) : Type 0 where
  pub old : List ℕ
  pub ranges : List (ℕ × ℕ)
  pub place : ℕ
  pub reads : A.verdict old ≡ Some h
  pub loose : AreWithin (A.spare old) ranges
  pub other : A.open_other old ≡ Some place
  pub is : disk ≡ record { bytes = written old place gate_closed; unsynced = ranges ++ (place, 1) ∷ [] }

-- The other area's gate was written open, after everything that follows it was written and synced.
pub record Switching {Node : Type 0} (A : Areas Node) (h : Held Node) (disk : Moment) (copy : Held Node) : Type 0 where
  pub old : List ℕ
  pub place : ℕ
  pub reads : A.verdict old ≡ Some h
  pub other : A.other old ≡ Some (place, copy)
  pub is : disk ≡ record { bytes = written old place gate_open; unsynced = (place, 1) ∷ [] }
