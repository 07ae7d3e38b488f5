-- What has happened to a device, as far as no byte keeps it.
use Rattle.std.specs.Prelude.{ℕ, Bool, List, [], ◌∷◌, ◌++◌}
use Rattle.tp_model.specs.Disk.{Moment}
use Rattle.tp_disk.specs.Reads.{Reading}

-- A call of the system on an open file: where it reads or writes, which bytes came or went, the length that the system answered or was
-- given, and whether it succeeded. `Syncs` forces the file and all that is kept of it, `SyncsData` its bytes.
pub data FileCall : Type 0 where
  Reads : (at : ℕ) → (came : List ℕ) → (ok : Bool) → FileCall
  Writes : (at : ℕ) → (bytes : List ℕ) → (ok : Bool) → FileCall
  Syncs : (ok : Bool) → FileCall
  SyncsData : (ok : Bool) → FileCall
  Measures : (length : ℕ) → FileCall
  Resizes : (length : ℕ) → (ok : Bool) → FileCall

-- What no call tells of a file: its bytes at first, and for each call by its number, which bytes it leaves in its range if it is a write that
-- fails. Bytes that are missing here are 00.
pub record Medium : Type 0 where
  pub first : List ℕ
  pub torn : List (List ℕ)

-- nothing but bytes 00
abbrev pub all_zero : Medium
all_zero = record { first = []; torn = [] }

-- What no call tells, how many calls have failed, the ranges written since the last sync that succeeded, the moments before each call, the reads
-- that were answered, and the calls of the system, the oldest first. Each kind of device keeps what its own contracts name.
pub record DeviceTold : Type 0 where
  pub medium : Medium
  pub failures : ℕ
  pub unsynced : List (ℕ × ℕ)
  pub past : List Moment
  pub reads : List Reading
  pub calls : List FileCall

abbrev pub nothing_told : DeviceTold
nothing_told = record { medium = all_zero; failures = 0; unsynced = []; past = []; reads = []; calls = [] }

-- one call of the system more
abbrev pub with_call : DeviceTold → FileCall → DeviceTold
with_call told call = record told { calls = told.calls ++ call ∷ [] }
