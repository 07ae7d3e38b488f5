-- Calls on the file that takes an output.
use Rattle.std.specs.Prelude.{◌≡◌, ◌⊎◌, ℕ, true, List, [], ◌∷◌, ◌<◌}
use Rattle.tp_stream_files.specs.Lower.{ErrorKind, BrokenPipe, ConnectionReset, ConnectionAborted}
use Rattle.tp_stream_files.specs.Folders.{HasSynced}
use Rattle.tp_stream_files.specs.Told.{EndTold, Measured, Synced}

-- the calls on a file once it is opened: its length is asked for, and it is synced
abbrev pub begin_calls : ℕ → List EndTold
begin_calls size = Measured size ∷ Synced true ∷ []

-- If a file is empty when it is opened, its folder was synced, since the file may be new. No other call was made.
abbrev pub SyncsFolder : ℕ → List ℕ → List EndTold → List EndTold → Type 0
SyncsFolder size path old new = (size ≡ 0 → HasSynced path old new) × (0 < size → new ≡ old)

-- A call on standard output says that whoever takes the bytes has gone: a pipe has no reader any more, or a socket's connection has ended.
abbrev pub SaysGone : ErrorKind → Type 0
SaysGone kind = (kind ≡ BrokenPipe) ⊎ (kind ≡ ConnectionReset) ⊎ (kind ≡ ConnectionAborted)
