-- What a sink holds, if that is known.
use Rattle.std.specs.Prelude.{◌≡◌, ◌≤◌, ℕ, ◌+◌, List, ◌++◌, length, min, take, Option, Some, None}

-- the bytes, and how many of the first ones are safe: a crash leaves them as they are
pub record HeldBytes : Type 0 where
  pub bytes : List ℕ
  pub safe : ℕ

-- The sink has at least `n` bytes that are safe.
abbrev pub Reaches : ℕ → Option HeldBytes → Type 0
Reaches n None = Unit {0}
Reaches n (Some h) = (n ≤ h.safe) × (n ≤ length h.bytes)

-- The sink has exactly `n` bytes that are safe.
abbrev pub HasReach : ℕ → Option HeldBytes → Type 0
HasReach n None = Unit {0}
HasReach n (Some h) = n ≡ min h.safe (length h.bytes)

-- The sink has this many bytes.
abbrev pub HasLength : Option ℕ → Option HeldBytes → Type 0
HasLength n None = Unit {0}
HasLength n (Some h) = n ≡ Some (length h.bytes)

-- The sink has no more than `n` bytes.
abbrev pub HasAtMost : ℕ → Option HeldBytes → Type 0
HasAtMost n None = Unit {0}
HasAtMost n (Some h) = length h.bytes ≤ n

-- The first `n` bytes are as they were, and safe.
abbrev pub KeepsFront : ℕ → Option HeldBytes → Option HeldBytes → Type 0
KeepsFront n None None = Unit {0}
KeepsFront n None (Some new) = ⊥
KeepsFront n (Some old) None = ⊥
KeepsFront n (Some old) (Some new) = (take n new.bytes ≡ take n old.bytes) × (n ≤ new.safe) × (n ≤ length new.bytes)

-- These bytes come after the first `n`, which are as they were.
abbrev pub HasPut : ℕ → List ℕ → Option HeldBytes → Option HeldBytes → Type 0
HasPut n bytes None None = Unit {0}
HasPut n bytes None (Some new) = ⊥
HasPut n bytes (Some old) None = ⊥
HasPut n bytes (Some old) (Some new) = take (n + length bytes) new.bytes ≡ take n old.bytes ++ bytes

-- No byte has changed, and those that were safe still are.
abbrev pub KeepsBytes : Option HeldBytes → Option HeldBytes → Type 0
KeepsBytes None None = Unit {0}
KeepsBytes None (Some new) = ⊥
KeepsBytes (Some old) None = ⊥
KeepsBytes (Some old) (Some new) = (new.bytes ≡ old.bytes) × (old.safe ≤ new.safe)

-- All bytes of the sink are safe.
abbrev pub IsSafe : Option HeldBytes → Type 0
IsSafe None = Unit {0}
IsSafe (Some h) = length h.bytes ≤ h.safe
