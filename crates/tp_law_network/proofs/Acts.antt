-- Acts taken apart: what each needs, and what it leads to.
use Rattle.std.proofs.Common.{◌≡◌, ℕ, ◌<◌, true, false, not, List, length, refl, Option, Some, None}
use Rattle.std.specs.Prelude.{nat_lt, ◌&&◌}
use Rattle.tp_law_network.proofs.Lower.{and_parts, not-true, ltb-true, Entry, ◌>>=◌, Machine, Network, on_line, next, has_marker, Snapshot, MarkedNetwork, has_recorded, taker, begun, recorded, journalled, line_closed, WholeCut, trimmed, begin, record_node, close_line, trim}
use Rattle.tp_law_network.proofs.Partial.{bind_some, cond_some}

module _ {Node : Type 0} (w v : MarkedNetwork Node) where
  pub begin_parts : (given : Option Snapshot) → begin w given ≡ Some v → (given ≡ None) × (begun w ≡ v)
  begin_parts None e = (refl, cc)
  begin_parts (Some snap) e = cc

  pub record_parts : (given : Option Snapshot) (i : ℕ) → record_node w given i ≡ Some v
      → (snap : Snapshot) × (given ≡ Some snap) × (i < length w.live.nodes) × (has_recorded snap i ≡ false) × (recorded w snap i ≡ v)
  record_parts None i e = cc
  record_parts (Some snap) i e =
      let C = cond_some (nat_lt i (length w.live.nodes) && not (has_recorded snap i)) (Some (recorded w snap i)) v e in
      let A = and_parts (nat_lt i (length w.live.nodes)) (not (has_recorded snap i)) C.0 in
      let is : recorded w snap i ≡ v = let leads = C.1 in cc in
      (snap, refl, ltb-true i (length w.live.nodes) A.0, not-true (has_recorded snap i) A.1, is)

  pub close_parts : (given : Option Snapshot) (line : ℕ) → close_line w given line ≡ Some v
      → (snap : Snapshot) × (given ≡ Some snap) × (has_marker (on_line w.live.lines line) ≡ true) × (has_recorded snap (taker w.live line) ≡ true) × (line_closed w snap line ≡ v)
  close_parts None line e = cc
  close_parts (Some snap) line e =
      let C = cond_some (has_marker (on_line w.live.lines line) && has_recorded snap (taker w.live line)) (Some (line_closed w snap line)) v e in
      let A = and_parts (has_marker (on_line w.live.lines line)) (has_recorded snap (taker w.live line)) C.0 in
      let is : line_closed w snap line ≡ v = let leads = C.1 in cc in
      (snap, refl, A.0, A.1, is)

  pub journal_parts : (M : Machine Node) (e : Entry) → (next M w.live e >>= λ live. Some (journalled w e live)) ≡ Some v
      → (live : Network Node) × (next M w.live e ≡ Some live) × (journalled w e live ≡ v)
  journal_parts M e h =
      let L = bind_some (next M w.live e) (λ live. Some (journalled w e live)) v h in
      let is : journalled w e L.0 ≡ v = let leads = L.2 in cc in
      (L.0, L.1, is)

  pub trim_parts : (given : Option WholeCut) (images : Option (List Node)) → trim w given images ≡ Some v
      → (cut : WholeCut) × (nodes : List Node) × (given ≡ Some cut) × (images ≡ Some nodes) × (trimmed w cut nodes ≡ v)
  trim_parts None images e = cc
  trim_parts (Some cut) None e = cc
  trim_parts (Some cut) (Some nodes) e = (cut, nodes, refl, refl, cc)
