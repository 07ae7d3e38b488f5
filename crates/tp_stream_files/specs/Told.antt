-- Calls on files and feeds, and their answers.
use Rattle.std.specs.Prelude.{ℕ, Bool, List}
use Rattle.std.specs.declared.fs.options.OpenOptions.{OpenOptions}

-- A call, and its answer:
-- - a file was opened at a path, in some way, and that succeeded or not
-- - a folder was synced, or not
-- - an open file's length was asked for, and told or not
-- - bytes of an open file were read from an offset on, or couldn't be
-- - bytes were written to an open file at an offset, and that succeeded or not
-- - an open file was synced, or not
-- - a feed gave bytes, none at its end, or failed
pub data EndTold : Type 0 where
  Opened : (how : OpenOptions) → (path : List ℕ) → (ok : Bool) → EndTold
  SyncedFolder : (path : List ℕ) → (ok : Bool) → EndTold
  Measured : (size : ℕ) → EndTold
  MeasureFailed : EndTold
  HasRead : (at : ℕ) → (came : List ℕ) → EndTold
  ReadFailed : (at : ℕ) → EndTold
  Wrote : (at : ℕ) → (bytes : List ℕ) → (ok : Bool) → EndTold
  Synced : (ok : Bool) → EndTold
  Gave : (bytes : List ℕ) → EndTold
  GiveFailed : EndTold
