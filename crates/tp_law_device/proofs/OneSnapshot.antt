-- The acts of the computed checkpoint.
use Rattle.std.proofs.Common.{◌≡◌, true, false, [], ◌∷◌, ◌++◌, refl, Some, None}
use Rattle.tp_law_device.proofs.Lower.{Ack, NodeState, step_of, node_step, took, t414, steps, own, put, taken, pushed, sent, process, takes, of_port, receives, does, next, acts, after, chosen, made, fresh_port, MarkedNetwork, WholeCut, trimmed, whole, happens, acted, HasCut, copy_of, fresh, one_before, one_after, awaits}
use Rattle.tp_law_device.specs.OneCheckpoint.{inside, outside_checkpoint, before_snapshot, snapshot, checkpoint_network}

-- the book before the snapshot, and when its cut is whole
abbrev pub early : MarkedNetwork NodeState
early = record { start = one_before; entries = inside; live = checkpoint_network; snapshot = None; frozen = [] }

abbrev pub late : MarkedNetwork NodeState
late = record {
  start = one_before;
  entries = inside ++ outside_checkpoint;
  live = one_after;
  snapshot = Some (record {
    counts = Some 1 ∷ Some 1 ∷ [];
    ports = record fresh_port { outputs = 0x41 ∷ [] } ∷ [];
    lines = [] ∷ [] ∷ [] ∷ [] ∷ (Ack ∷ []) ∷ [];
    closed = true ∷ false ∷ false ∷ false ∷ true ∷ [];
    size = 2;
  });
  frozen = Some awaits ∷ [];
}

abbrev pub one_cut : WholeCut
one_cut = record {
  counts = 1 ∷ 1 ∷ [];
  ports = record fresh_port { outputs = 0x41 ∷ [] } ∷ [];
  lines = [] ∷ [] ∷ [] ∷ [] ∷ (Ack ∷ []) ∷ [];
  size = 2;
}

pub early_acted : acted t414 (fresh one_before) before_snapshot ≡ Some early
unfolding step_of node_step took steps own put taken pushed sent process takes of_port receives does next acts chosen made whole happens acted
early_acted = refl

pub late_acted : acted t414 early snapshot ≡ Some late
unfolding step_of node_step took steps own put taken pushed sent process takes of_port receives does next acts chosen made whole happens acted
late_acted = refl

pub late_cut : HasCut late one_cut (awaits ∷ [])
unfolding whole
late_cut = record { is = refl; images = refl }

-- what the flusher copies, and the book that is trimmed
pub one_copy : copy_of late 0 one_cut (awaits ∷ []) ≡ record { network = checkpoint_network; entries = outside_checkpoint; base = 2 }
unfolding process chosen
one_copy = refl

pub one_trimmed : trimmed late one_cut (awaits ∷ []) ≡ record { start = checkpoint_network; entries = outside_checkpoint; live = one_after; snapshot = None; frozen = [] }
unfolding process chosen
one_trimmed = refl

pub outside_leads : after t414 checkpoint_network outside_checkpoint ≡ Some one_after
unfolding step_of node_step took steps own put taken pushed sent process takes of_port receives does next acts after
outside_leads = refl
