-- Calls that leave the bytes that are there.
use Rattle.std.proofs.Common.{◌≡◌, ℕ, Bool, inl, inr, List, [], ◌∷◌, ◌++◌, refl, sym, ap, ◌∙◌, append_assoc, append-nil}
use Rattle.std.proofs.lemmas.List.Elements.{All-append, All-cons, All-nil}
use Rattle.tp_stream_files.specs.Told.{EndTold, Opened, SyncedFolder}
use Rattle.tp_stream_files.specs.Folders.{AsksFolder}
use Rattle.tp_stream_files.specs.Opening.{KeepsBytesThere, KeepsFiles, to_read, to_write}

pub keeps_none : (calls : List EndTold) → KeepsFiles calls calls
unfolding KeepsFiles
keeps_none calls = ([], sym (append-nil calls), All-nil KeepsBytesThere)

pub keeps_one : (old new : List EndTold) (call : EndTold) → KeepsBytesThere call → new ≡ old ++ call ∷ [] → KeepsFiles old new
unfolding KeepsFiles
keeps_one old new call kept grew = (call ∷ [], grew, All-cons KeepsBytesThere call [] kept (All-nil KeepsBytesThere))

pub keeps_then : (old between new : List EndTold) → KeepsFiles old between → KeepsFiles between new → KeepsFiles old new
unfolding KeepsFiles
keeps_then old between new (calls, grew, kept) (more, later, then) =
    (calls ++ more, later ∙ ap (λ front. front ++ more) grew ∙ append_assoc old calls more, All-append KeepsBytesThere calls more kept then)

-- a file that takes an output was opened, or not
pub keeps_written : (old new : List EndTold) (path : List ℕ) (ok : Bool) → new ≡ old ++ Opened to_write path ok ∷ [] → KeepsFiles old new
keeps_written old new path ok grew = keeps_one old new (Opened to_write path ok) (inl refl) grew

-- a file that an input comes from
pub keeps_read : (old new : List EndTold) (path : List ℕ) (ok : Bool) → new ≡ old ++ Opened to_read path ok ∷ [] → KeepsFiles old new
keeps_read old new path ok grew = keeps_one old new (Opened to_read path ok) (inr refl) grew

-- the folder of a path was synced, or not
pub keeps_folder : (old new : List EndTold) (path : List ℕ) (ok : Bool) → AsksFolder path ok old new → KeepsFiles old new
keeps_folder old new path ok (folder, is, grew) = keeps_one old new (SyncedFolder folder ok) tt grew
