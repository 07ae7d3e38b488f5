-- The sinks and sources of the program: files, standard output and input, or nothing.
use Rattle.std.specs.Prelude.{◌≡◌, ◌<◌, ◌≤◌, ℕ, ◌-◌, ◌^◌, Bool, true, false, Option, Some, None, List, [], ◌∷◌, ◌++◌, length, take, drop, Result, IfOk, is_err}
use Rattle.std.specs.Io.KnownBytes.{Appends, Keeps}
use Rattle.tp_stream_files.specs.Said.{AppendsFront}
use Rattle.tp_stream_files.specs.Told.{EndTold, Wrote, Synced}
use Rattle.tp_stream_files.specs.Trace.{size_after, read, GrewAlike, bytes_given, path_opened, says_end, says_failed}
use Rattle.tp_stream_files.specs.declared.sinks.AnySink.{AnySink}
use Rattle.tp_stream_files.specs.declared.sinks.AnySink.TheVariants.{File, Out, Nothing}
use Rattle.tp_stream_files.specs.declared.sources.AnySource.{AnySource}
use Rattle.tp_stream_files.specs.declared.sources.AnySource.TheVariants.{File as FromFile, In}
use Rattle.tp_stream_files.specs.declared.pipes.Pipe.{Pipe}

-- the path of the file that takes an output, if a file does
abbrev pub path_to : {F O : Type 0} → (calls : F → List EndTold) → AnySink F O → Option (List ℕ)
path_to calls (File sink) = path_opened (calls sink.file)
path_to calls (Out out) = None
path_to calls Nothing = None

-- the path of the file that an input comes from, if it comes from a file
abbrev pub path_from : {F I : Type 0} → (calls : F → List EndTold) → AnySource F I → Option (List ℕ)
path_from calls (FromFile file) = path_opened (calls file)
path_from calls (In pipe) = None

-- up to which position it can be put
abbrev pub reach_of : {F O : Type 0} → AnySink F O → ℕ
reach_of (File sink) = sink.size
reach_of (Out out) = 2 ^ 64 - 1
reach_of Nothing = 2 ^ 64 - 1

-- how many bytes it has, if it has positions
abbrev pub length_of : {F O : Type 0} → AnySink F O → Option ℕ
length_of (File sink) = Some sink.size
length_of (Out out) = None
length_of Nothing = None

-- The number is `None` for a pipe: how many bytes come through it isn't known.
abbrev pub IsUnknownOfPipes : {F I : Type 0} → Option ℕ → AnySource F I → Type 0
IsUnknownOfPipes n (FromFile file) = Unit {0}
IsUnknownOfPipes n (In pipe) = n ≡ None

-- Bytes were to be put. A file was asked to write them at their offset, and has as many bytes as that call says. Standard output has them after what
-- it had; if that failed, it has some of the first ones.
abbrev pub WasPut : {F O : Type 0} → (calls : F → List EndTold) → (contents : O → Option (List ℕ)) → ℕ → List ℕ → Bool → AnySink F O → AnySink F O → Type 0
WasPut calls contents at bytes ok (File old) (File new) = (calls new.file ≡ calls old.file ++ Wrote at bytes ok ∷ []) × (new.size ≡ size_after old.size (Wrote at bytes ok))
WasPut calls contents at bytes ok (Out old) (Out new) =
    (ok ≡ true → Appends (contents old.now) (contents new.now) bytes) × AppendsFront (contents old.now) (contents new.now) bytes
WasPut calls contents at bytes ok Nothing Nothing = ok ≡ true
WasPut calls contents at bytes ok (File old) (Out new) = ⊥
WasPut calls contents at bytes ok (File old) Nothing = ⊥
WasPut calls contents at bytes ok (Out old) (File new) = ⊥
WasPut calls contents at bytes ok (Out old) Nothing = ⊥
WasPut calls contents at bytes ok Nothing (File new) = ⊥
WasPut calls contents at bytes ok Nothing (Out new) = ⊥

-- What was put was to be made safe. A file was asked to sync. Standard output has the bytes that it had.
abbrev pub WasSettled : {F O : Type 0} → (calls : F → List EndTold) → (contents : O → Option (List ℕ)) → Bool → AnySink F O → AnySink F O → Type 0
WasSettled calls contents ok (File old) (File new) = (calls new.file ≡ calls old.file ++ Synced ok ∷ []) × (new.size ≡ old.size)
WasSettled calls contents ok (Out old) (Out new) = Keeps (contents old.now) (contents new.now)
WasSettled calls contents ok Nothing Nothing = ok ≡ true
WasSettled calls contents ok (File old) (Out new) = ⊥
WasSettled calls contents ok (File old) Nothing = ⊥
WasSettled calls contents ok (Out old) (File new) = ⊥
WasSettled calls contents ok (Out old) Nothing = ⊥
WasSettled calls contents ok Nothing (File new) = ⊥
WasSettled calls contents ok Nothing (Out new) = ⊥

-- A pipe took from its feed exactly what the feed gave.
abbrev pub Took : {I : Type 0} → (given : I → List EndTold) → Pipe I → Pipe I → Type 0
Took given old new = GrewAlike (given old.feed.now) (given new.feed.now) old.held.trace.told new.held.trace.told

-- A pipe was read from a position on. It gave what its feed gave at that position, however that was cut into pieces. It gave nothing only if the feed
-- ended before the position, and failed if the feed has failed.
pub record WasPiped {I E : Type 0} (given : I → List EndTold) (at : ℕ) (result : Result ℕ E) (out : List ℕ) (old new : Pipe I) : Type 0 where
  pub took : Took given old new
  pub bytes : IfOk result (λ count. take count out ≡ take count (drop at (bytes_given new.held.trace.told)))
  pub none : IfOk result (λ count. count ≡ 0 → 0 < length out → says_end new.held.trace.told ≡ true)
  pub all : IfOk result (λ count. count ≡ 0 → 0 < length out → length (bytes_given new.held.trace.told) ≤ at)
  pub failed : says_failed new.held.trace.told ≡ true → is_err result ≡ true

-- A source was read from a position on. A file was asked for the bytes there, and its answer is the source's.
abbrev pub WasRead : {F I E : Type 0} → (calls : F → List EndTold) → (given : I → List EndTold) → ℕ → Result ℕ E → List ℕ → AnySource F I → AnySource F I → Type 0
WasRead calls given at result out (FromFile old) (FromFile new) = calls new ≡ calls old ++ read at result out ∷ []
WasRead calls given at result out (In old) (In new) = WasPiped given at result out old new
WasRead calls given at result out (FromFile old) (In new) = ⊥
WasRead calls given at result out (In old) (FromFile new) = ⊥

-- A source was asked whether it would wait. A file never does, and no call was made on it.
abbrev pub WasAsked : {F I : Type 0} → (given : I → List EndTold) → Bool → AnySource F I → AnySource F I → Type 0
WasAsked given waits (FromFile old) (FromFile new) = (waits ≡ false) × (new ≡ old)
WasAsked given waits (In old) (In new) = Took given old new
WasAsked given waits (FromFile old) (In new) = ⊥
WasAsked given waits (In old) (FromFile new) = ⊥
