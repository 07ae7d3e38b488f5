-- How the files of outputs and inputs are opened.
use Rattle.std.specs.Prelude.{◌≡◌, ◌⊎◌, ℕ, true, List, ◌++◌, All}
use Rattle.tp_stream_files.specs.Lower.{new_options, with_read, with_write, with_create, OpenOptions}
use Rattle.tp_stream_files.specs.declared.ends.EndFault.{EndFault}
use Rattle.tp_stream_files.specs.declared.ends.EndFault.TheVariants.{ReadFailed as EndReadFailed, DeviceFailed as EndDeviceFailed, SameFile, Twice, Memory}
use Rattle.tp_stream_files.specs.Told.{EndTold, Opened, SyncedFolder, Measured, MeasureFailed, HasRead, ReadFailed, Wrote, Synced, Gave, GiveFailed}

-- how a file for an output is opened: to be read and written as it is, and made if it doesn't exist
abbrev pub to_write : OpenOptions
to_write = with_create (with_write (with_read new_options true) true) true

-- how a file for an input is opened
abbrev pub to_read : OpenOptions
to_read = with_read new_options true

-- A call leaves the bytes of files: it opens a file as it is, for an output or an input.
abbrev pub KeepsBytesThere : EndTold → Type 0
KeepsBytesThere (Opened how path ok) = (how ≡ to_write) ⊎ (how ≡ to_read)
KeepsBytesThere (SyncedFolder path ok) = Unit {0}
KeepsBytesThere (Measured size) = Unit {0}
KeepsBytesThere MeasureFailed = Unit {0}
KeepsBytesThere (HasRead at came) = Unit {0}
KeepsBytesThere (ReadFailed at) = Unit {0}
KeepsBytesThere (Wrote at bytes ok) = Unit {0}
KeepsBytesThere (Synced ok) = Unit {0}
KeepsBytesThere (Gave bytes) = Unit {0}
KeepsBytesThere GiveFailed = Unit {0}

-- If a refusal names a port, it is this one.
abbrev pub NamesPort : ℕ → EndFault → Type 0
NamesPort port (EndReadFailed of) = of ≡ port
NamesPort port (EndDeviceFailed of) = of ≡ port
NamesPort port (SameFile of) = of ≡ port
NamesPort port (Twice of) = of ≡ port
NamesPort port Memory = Unit {0}

-- All calls since then left the bytes of files.
unfoldable pub KeepsFiles : List EndTold → List EndTold → Type 0
KeepsFiles old new = (more : List EndTold) × (new ≡ old ++ more) × All KeepsBytesThere more
