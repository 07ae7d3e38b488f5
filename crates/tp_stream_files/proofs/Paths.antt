-- Ends whose files are those at the paths that were typed.
use Rattle.std.proofs.Common.{◌≡◌, ℕ, Bool, true, false, Option, Some, None, List, [], ◌∷◌, ◌++◌, Result, Ok, Err, OnOk, refl, sym, ap, ◌∙◌, if◌then◌else◌}
use Rattle.std.specs.Prelude.{string_bytes}
use Rattle.tp_stream_files.specs.Any.{path_from, path_to}
use Rattle.tp_stream_files.specs.Inputs.{NamedInput, named_input}
use Rattle.tp_stream_files.specs.Named.{fresh_output, have_in, input_from, is_standard, output_to, path_named}
use Rattle.tp_stream_files.specs.Opened.{IsSinkOf, IsSourceOf}
use Rattle.tp_stream_files.specs.Outputs.{OutputValue}
use Rattle.tp_stream_files.specs.Told.{EndTold, Opened, SyncedFolder, Measured, MeasureFailed, HasRead, ReadFailed, Wrote, Synced, Gave, GiveFailed}
use Rattle.tp_stream_files.specs.Trace.{path_opened}
use Rattle.tp_stream_files.specs.declared.ends.PortFile.{PortFile}
use Rattle.tp_stream_files.specs.declared.ends.PortNumber.{PortNumber}
use Rattle.tp_stream_files.specs.declared.sinks.AnySink.{AnySink}
use Rattle.tp_stream_files.specs.declared.sinks.AnySink.TheVariants.{File, Out, Nothing}
use Rattle.tp_stream_files.specs.declared.sources.AnySource.{AnySource}
use Rattle.tp_stream_files.specs.declared.sources.AnySource.TheVariants.{File as FromFile, In}

-- ## A call on an open file

-- a later call that opens nothing leaves the path
path_stays : (call : EndTold) → path_opened (call ∷ []) ≡ None → (calls : List EndTold) → path_opened (calls ++ call ∷ []) ≡ path_opened calls
path_stays call none [] = none
path_stays call none (Opened how path ok ∷ calls) = refl
path_stays call none (SyncedFolder path ok ∷ calls) = refl
path_stays call none (Measured size ∷ calls) = refl
path_stays call none (MeasureFailed ∷ calls) = refl
path_stays call none (HasRead at came ∷ calls) = refl
path_stays call none (ReadFailed at ∷ calls) = refl
path_stays call none (Wrote at bytes ok ∷ calls) = refl
path_stays call none (Synced ok ∷ calls) = refl
path_stays call none (Gave bytes ∷ calls) = refl
path_stays call none (GiveFailed ∷ calls) = refl

pub wrote_there : (old new : List EndTold) (at : ℕ) (bytes : List ℕ) (ok : Bool) → new ≡ old ++ Wrote at bytes ok ∷ [] → path_opened new ≡ path_opened old
wrote_there old new at bytes ok grew = ap path_opened grew ∙ path_stays (Wrote at bytes ok) refl old

pub synced_there : (old new : List EndTold) (ok : Bool) → new ≡ old ++ Synced ok ∷ [] → path_opened new ≡ path_opened old
synced_there old new ok grew = ap path_opened grew ∙ path_stays (Synced ok) refl old

-- ## Ends that were opened

path_is : (end : PortFile) → is_standard end ≡ false → path_named end ≡ Some (string_bytes end.path)
path_is end file = ap (λ standard. if standard then None else Some (string_bytes end.path)) file

no_path : (end : PortFile) → is_standard end ≡ true → path_named end ≡ None
no_path end standard = ap (λ standard. if standard then None else Some (string_bytes end.path)) standard

sink_named : {F O : Type 0} (calls : F → List EndTold) (end : PortFile) (old new : List EndTold) (sink : AnySink F O) → IsSinkOf calls end old new sink
    → path_to calls sink ≡ path_named end
sink_named calls end old new (File sink) (file, opened, synced) = ap path_opened opened ∙ sym (path_is end file)
sink_named calls end old new (Out out) (standard, same) = sym (no_path end standard)
sink_named calls end old new Nothing is = absurd is

source_named : {F I : Type 0} (calls : F → List EndTold) (end : PortFile) (old new : List EndTold) (source : AnySource F I) → IsSourceOf calls end old new source
    → path_from calls source ≡ path_named end
source_named calls end old new (FromFile source) (file, opened, grew) = ap path_opened opened ∙ sym (path_is end file)
source_named calls end old new (In pipe) (standard, unread, same) = sym (no_path end standard)

-- so the output that is added is the one that was typed
pub output_added : {F O T E : Type 0} (r : Result T E) (calls : F → List EndTold) (haves : List PortNumber) (end : PortFile) (old new : List EndTold) (sink : AnySink F O)
    → IsSinkOf calls end old new sink → (was now : List OutputValue)
    → OnOk r (now ≡ was ++ fresh_output end.port (have_in haves end.port) (path_to calls sink) ∷ []) → OnOk r (now ≡ was ++ output_to haves end ∷ [])
output_added (Ok x) calls haves end old new sink is was now grew =
    grew ∙ ap (λ (path : Option (List ℕ)). was ++ fresh_output end.port (have_in haves end.port) path ∷ []) (sink_named calls end old new sink is)
output_added (Err e) calls haves end old new sink is was now grew = tt

-- and so is the input
pub input_added : {F I T E : Type 0} (r : Result T E) (calls : F → List EndTold) (end : PortFile) (old new : List EndTold) (source : AnySource F I)
    → IsSourceOf calls end old new source → (was now : List NamedInput)
    → OnOk r (now ≡ was ++ named_input end.port (path_from calls source) ∷ []) → OnOk r (now ≡ was ++ input_from end ∷ [])
input_added (Ok x) calls end old new source is was now grew =
    grew ∙ ap (λ (path : Option (List ℕ)). was ++ named_input end.port path ∷ []) (source_named calls end old new source is)
input_added (Err e) calls end old new source is was now grew = tt
