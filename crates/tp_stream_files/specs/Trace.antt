-- What a list of calls comes to.
use Rattle.std.specs.Prelude.{◌≡◌, ℕ, ◌+◌, ◌-◌, ◌^◌, Bool, true, false, ◌||◌, List, [], ◌∷◌, ◌++◌, length, min, max, take, Option, Some, None, Result, Ok, Err}
use Rattle.tp_stream_files.specs.Told.{EndTold, Opened, SyncedFolder, Measured, MeasureFailed, HasRead, ReadFailed, Wrote, Synced, Gave, GiveFailed}

-- how many bytes a file has after a call, if it had `size`
abbrev pub size_after : ℕ → EndTold → ℕ
size_after size (Measured now) = now
size_after size (Wrote at bytes true) = max size (min (at + length bytes) (2 ^ 64 - 1))
size_after size (Wrote at bytes false) = size
size_after size (Opened how path ok) = size
size_after size (SyncedFolder path ok) = size
size_after size MeasureFailed = size
size_after size (HasRead at came) = size
size_after size (ReadFailed at) = size
size_after size (Synced ok) = size
size_after size (Gave bytes) = size
size_after size GiveFailed = size

-- the path at which a file was opened, by its first call
abbrev pub path_opened : List EndTold → Option (List ℕ)
path_opened [] = None
path_opened (Opened how path ok ∷ calls) = Some path
path_opened (_ ∷ calls) = None

-- the answer to a measure
abbrev pub measured : {E : Type 0} → Result ℕ E → EndTold
measured (Ok size) = Measured size
measured (Err e) = MeasureFailed

-- the call that read from an offset on, if `out` is what the buffer has afterwards
abbrev pub read : {E : Type 0} → ℕ → Result ℕ E → List ℕ → EndTold
read at (Ok count) out = HasRead at (take count out)
read at (Err e) out = ReadFailed at

-- the call by which a feed gave what it answered
abbrev pub gave : {E : Type 0} → Result ℕ E → List ℕ → EndTold
gave (Ok count) out = Gave (take count out)
gave (Err e) out = GiveFailed

-- the bytes that a feed gave
abbrev pub bytes_given : List EndTold → List ℕ
bytes_given [] = []
bytes_given (Gave bytes ∷ calls) = bytes ++ bytes_given calls
bytes_given (_ ∷ calls) = bytes_given calls

-- no byte
abbrev pub is_none : List ℕ → Bool
is_none [] = true
is_none (byte ∷ bytes) = false

-- whether a feed said that it has come to its end
abbrev pub says_end : List EndTold → Bool
says_end [] = false
says_end (Gave bytes ∷ calls) = is_none bytes || says_end calls
says_end (_ ∷ calls) = says_end calls

-- whether a feed has failed
abbrev pub says_failed : List EndTold → Bool
says_failed [] = false
says_failed (GiveFailed ∷ calls) = true
says_failed (_ ∷ calls) = says_failed calls

-- Two lists have grown by equal calls.
abbrev pub GrewAlike : (one one' other other' : List EndTold) → Type 0
GrewAlike one one' other other' = (calls : List EndTold) × (one' ≡ one ++ calls) × (other' ≡ other ++ calls)

-- how many bytes an answer has
abbrev pub count_answered : {E : Type 0} → Result ℕ E → ℕ
count_answered (Ok count) = count
count_answered (Err e) = 0
