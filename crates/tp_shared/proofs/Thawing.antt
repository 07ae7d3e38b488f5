-- Seals once no node's pages are kept any more.
use Rattle.std.proofs.Common.{◌≡◌, ℕ, true, false, List, set, sym, ◌∙◌, Some, slice_get}
use Rattle.tp_shared.proofs.Lower.{true≢false, all_at, all_set, NodeState, World, HasCut, has_recorded_in, world_of}
use Rattle.tp_shared.specs.Seals.{Stage}
use Rattle.tp_shared.specs.Told.{ToldSince, told_of}
use Rattle.tp_shared.specs.Thawed.{HasThawed, ThawedAsTold}
use Rattle.tp_shared.specs.declared.nodes.seal.NodeSeal.{NodeSeal}
use Rattle.tp_shared.specs.declared.flusher.told.Told.{Told}
use Rattle.tp_shared.proofs.Cuts.{stays_whole, whole_recorded}

-- nothing is told of pages
pub thaws_none : (t : Told) (seals : List NodeSeal) → t.thawed ≡ false → ThawedAsTold t seals
thaws_none t seals e h = absurd (true≢false (sym h ∙ e))

-- one seal becomes another, with the flag that no pages are kept
pub thaws_set : (t : Told) (seals : List NodeSeal) (i : ℕ) (s : NodeSeal) → ThawedAsTold t seals → (HasThawed t seals → s.frozen ≡ false) → ThawedAsTold t (set seals i s)
thaws_set t seals i s T kept h =
    let H = T h in
    record { cut = H.cut; nodes = H.nodes; has = H.has; holds = H.holds; none = all_set (λ x. x.frozen ≡ false) seals i s H.none (kept H) }

pub thawed_at : (t : Told) (seals : List NodeSeal) (i : ℕ) (s : NodeSeal) → HasThawed t seals → slice_get seals i ≡ Some s → s.frozen ≡ false
thawed_at t seals i s H e = all_at (λ x. x.frozen ≡ false) seals i s H.none e

-- the cut is whole still
pub thawed_cut : (before : World NodeState) (first : ℕ) (t : Told) (seals : List NodeSeal) (stage : Stage) → (H : HasThawed t seals) → ToldSince t (told_of before first stage) → HasCut (world_of stage.book) H.cut H.nodes
thawed_cut before first t seals stage H S = stays_whole H.cut H.nodes t.net (world_of stage.book) H.holds H.has S.acts S.none S.net

-- and all have recorded in it
pub thawed_recorded : (before : World NodeState) (first : ℕ) (t : Told) (seals : List NodeSeal) (stage : Stage) → HasThawed t seals → ToldSince t (told_of before first stage) → (p : ℕ) → has_recorded_in stage.book.state.snapshot p ≡ true
thawed_recorded before first t seals stage H S p = whole_recorded (world_of stage.book) H.cut H.nodes (thawed_cut before first t seals stage H S) p
