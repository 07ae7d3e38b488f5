-- How the lock of a device's file is tried.
use Rattle.std.specs.Prelude.{◌≡◌, ◌≤◌, ℕ, ◌*◌, max, Bool, true, false, List, [], ◌∷◌, ◌++◌, replicate, Option, Some, None}
use Rattle.tp_program.specs.declared.trying.InUse.{InUse}

-- how often a lock that another process has is tried again: 20 times a second, and for a quarter of a second at least
abbrev pub tries_again : ℕ → ℕ
tries_again seconds = max (seconds * 20) 5

-- A lock was tried at once, and then `again` times, each time after a twentieth of a second. Another process had it at all tries before the last one,
-- and at that one if `taken` is true.
pub record AreTries (again : ℕ) (taken : Bool) (old new : List Bool) (before after : List (Option ℕ)) : Type 0 where
  pub answers : new ≡ old ++ (replicate again true ++ taken ∷ [])
  pub pauses : after ≡ before ++ None ∷ replicate again (Some 50)

-- No other process had the lock at the last of these tries, and there were no more of them than there may be.
pub record WasGot (seconds : ℕ) (old new : List Bool) (before after : List (Option ℕ)) : Type 0 where
  pub again : ℕ
  pub few : again ≤ tries_again seconds
  pub tries : AreTries again false old new before after

-- Either the lock was got, or another process had it at each try that there may be.
abbrev pub IsTriedFor : (seconds : ℕ) → (got : Bool) → (old new : List Bool) → (before after : List (Option ℕ)) → Type 0
IsTriedFor seconds true old new before after = WasGot seconds old new before after
IsTriedFor seconds false old new before after = AreTries (tries_again seconds) true old new before after

-- Another process had the lock at each try that there may be for these seconds: at once, and then each time after a twentieth of a second.
abbrev pub WasWaitedFor : (seconds : ℕ) → InUse → Type 0
WasWaitedFor seconds in_use = in_use.waited.told ≡ None ∷ replicate (tries_again seconds) (Some 50)

-- Another process had the lock when it was tried, once.
abbrev pub WasTriedOnce : InUse → Type 0
WasTriedOnce in_use = in_use.waited.told ≡ None ∷ []
