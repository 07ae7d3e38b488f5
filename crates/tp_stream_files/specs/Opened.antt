-- What was opened for a port's output or input.
use Rattle.std.specs.Prelude.{◌≡◌, true, false, List, [], ◌∷◌, ◌++◌, string_bytes}
use Rattle.tp_stream_files.specs.Named.{is_standard}
use Rattle.tp_stream_files.specs.Opening.{to_read, to_write}
use Rattle.tp_stream_files.specs.Sinks.{SyncsFolder, begin_calls}
use Rattle.tp_stream_files.specs.Told.{EndTold, Opened}
use Rattle.tp_stream_files.specs.declared.ends.PortFile.{PortFile}
use Rattle.tp_stream_files.specs.declared.sinks.AnySink.{AnySink}
use Rattle.tp_stream_files.specs.declared.sinks.AnySink.TheVariants.{File, Out, Nothing}
use Rattle.tp_stream_files.specs.declared.sources.AnySource.{AnySource}
use Rattle.tp_stream_files.specs.declared.sources.AnySource.TheVariants.{File as FromFile, In}

-- The sink for a port's output. Its file was opened at that path, measured and synced, and its folder was synced if it is empty. For standard output no
-- call was made.
abbrev pub IsSinkOf : {F O : Type 0} → (calls : F → List EndTold) → PortFile → List EndTold → List EndTold → AnySink F O → Type 0
IsSinkOf calls end old new (File sink) =
    (is_standard end ≡ false) × (calls sink.file ≡ Opened to_write (string_bytes end.path) true ∷ begin_calls sink.size)
    × SyncsFolder sink.size (string_bytes end.path) (old ++ Opened to_write (string_bytes end.path) true ∷ []) new
IsSinkOf calls end old new (Out out) = (is_standard end ≡ true) × (new ≡ old)
IsSinkOf calls end old new Nothing = ⊥

-- Standard input, with nothing read of it.
abbrev pub IsUnread : {F I : Type 0} → AnySource F I → Type 0
IsUnread (FromFile file) = ⊥
IsUnread (In pipe) = pipe.held.trace.told ≡ []

-- The source for a port's input: a file, which was opened at that path; or standard input, with nothing read of it.
abbrev pub IsSourceOf : {F I : Type 0} → (calls : F → List EndTold) → PortFile → List EndTold → List EndTold → AnySource F I → Type 0
IsSourceOf calls end old new (FromFile file) =
    (is_standard end ≡ false) × (calls file ≡ Opened to_read (string_bytes end.path) true ∷ []) × (new ≡ old ++ Opened to_read (string_bytes end.path) true ∷ [])
IsSourceOf calls end old new (In pipe) = (is_standard end ≡ true) × (pipe.held.trace.told ≡ []) × (new ≡ old)
