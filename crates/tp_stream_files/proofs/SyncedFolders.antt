-- The folder of a file that is opened.
use Rattle.std.proofs.Common.{◌≡◌, ◌<◌, ℕ, List, Result, Ok, Err, OnOk, is_ok, refl, arith}
use Rattle.tp_stream_files.specs.Told.{EndTold}
use Rattle.tp_stream_files.specs.Folders.{AsksFolder}
use Rattle.tp_stream_files.specs.Sinks.{SyncsFolder}

pub folder_synced : {T E : Type 0} (r : Result T E) (size : ℕ) (path : List ℕ) (old new : List EndTold) → size ≡ 0
    → AsksFolder path (is_ok r) old new → OnOk r (SyncsFolder size path old new)
folder_synced (Ok x) size path old new none asks = (λ empty. asks, λ some. absurd (omega (arith, none, some)))
folder_synced (Err e) size path old new none asks = tt

pub folder_left : (size : ℕ) (path : List ℕ) (calls : List EndTold) → 0 < size → SyncsFolder size path calls calls
folder_left size path calls some = (λ none. absurd (omega (arith, none, some)), λ has. refl)
