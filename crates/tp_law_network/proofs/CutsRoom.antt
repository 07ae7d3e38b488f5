-- How many tokens a line may have: at most one Marker, and none before its sender records.
use Rattle.std.proofs.Common.{ℕ, ◌+◌, ◌≤◌, Bool, true, false, cond, not, inl, inr, length, sym, ap, subst, arith, Option, Some, None}
use Rattle.std.specs.Prelude.{◌&&◌}
use Rattle.tp_law_network.proofs.Lower.{cases_Bool, Machine, has_wire, on_line, EndsSeen, Sound, owner, markers, plain_network, Snapshot, MarkedNetwork, has_recorded, is_closed}
use Rattle.tp_law_network.proofs.Room.{line_room as sound_room, sound_marked}
use Rattle.tp_law_network.specs.Invariant.{Inside, CutInvariant}

module _ {Node : Type 0} (M : Machine Node) (w : MarkedNetwork Node) (H : CutInvariant M w) where
  -- a line has at most one Marker
  pub few_markers : (l : ℕ) → markers (on_line w.live.lines l) ≤ 1
  few_markers l = go w.snapshot H.inside
    where
      most : (b : Bool) → cond b 1 0 ≤ 1
      most true = omega arith
      most false = omega arith

      go : (given : Option Snapshot) → Inside M w given → markers (on_line w.live.lines l) ≤ 1
      go None I = let none = I l in omega arith
      go (Some snap) K = elim (cases_Bool (has_wire w.live.wires l)) [
        | inl y ↦ subst (λ n. n ≤ 1) (sym (K.marks l y)) (most (has_recorded snap (owner (length w.live.nodes) l) && not (is_closed snap l)))
        | inr n ↦ let none = ap markers (H.base.unwired l n) in omega arith
      ]

  -- Over a sound network a line has at most a Data and an Ack besides its Marker.
  pub line_room : (E : EndsSeen Node) → Sound E (plain_network w.live) → (l : ℕ) → length (on_line w.live.lines l) ≤ 2 + markers (on_line w.live.lines l)
  line_room E sound l = sound_room (sound_marked w.live sound H.base.unwired) l
