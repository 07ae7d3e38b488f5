-- The book goes on from a whole cut.
use Rattle.std.proofs.Common.{◌≡◌, ℕ, Bool, true, false, cond, not, inl, inr, List, length, refl, sym, ap, ◌∙◌, Some}
use Rattle.std.specs.Prelude.{◌&&◌}
use Rattle.tp_law_network.proofs.Lower.{cases_Bool, Machine, has_wire, on_line, process, HasFourLinks, after, pre, post, owner, markers, plain_network, MarkedNetwork, has_recorded, is_closed, WholeCut, count_in, all_some, whole, network_in, trimmed, CutHolds}
use Rattle.tp_law_network.proofs.Reorder.{after_front, after_shape}
use Rattle.tp_law_network.specs.Invariant.{CutInvariant}
use Rattle.tp_law_network.proofs.Whole.{all_some-map, all_closed_at, whole_parts, running, whole_holds}

-- the frozen nodes and the cut are the network that the entries in the cut lead to
pub cut_network : {Node : Type 0} (M : Machine Node) → HasFourLinks M → (w : MarkedNetwork Node) (cut : WholeCut) (nodes : List Node) → (C : CutHolds M w cut) → all_some w.frozen ≡ Some nodes
    → network_in w.start cut nodes ≡ C.consistent.state
cut_network {Node} M four w cut nodes C e =
    let shape = after_shape M four w.start C.consistent.state (pre (process w.start.wires (length w.start.nodes)) (count_in cut) w.entries) C.consistent.is in
    let there : Some nodes ≡ Some C.consistent.state.nodes = sym e ∙ ap all_some C.nodes ∙ all_some-map C.consistent.state.nodes in
    let same_nodes : nodes ≡ C.consistent.state.nodes = cc in
    ap (λ wires. record (network_in w.start cut nodes) { wires = wires }) (sym shape.wires)
    ∙ ap (λ items. record (network_in C.consistent.state cut nodes) { nodes = items }) same_nodes
    ∙ ap (λ ports. record (network_in C.consistent.state cut C.consistent.state.nodes) { ports = ports }) (sym C.ports)
    ∙ ap (λ lines. record C.consistent.state { lines = lines }) (sym C.lines)

module _ {Node : Type 0} (M : Machine Node) (w : MarkedNetwork Node) (H : CutInvariant M w) (cut : WholeCut) (is : whole w ≡ Some cut) where
  -- if a cut is whole no Marker is on its way
  pub whole_unmarked : (l : ℕ) → ◌≡◌ {A = ℕ} (markers (on_line w.live.lines l)) 0
  whole_unmarked l =
      let P = whole_parts w cut is in
      let K = running M w H P.snap P.runs in
      elim (cases_Bool (has_wire w.live.wires l)) [
        | inl y ↦ K.marks l y ∙ none (has_recorded P.snap (owner (length w.live.nodes) l)) (is_closed P.snap l)
            (all_closed_at (has_wire w.live.wires) (is_closed P.snap) (length w.live.lines) P.shut l (H.base.wired l y) y)
        | inr n ↦ ap markers (H.base.unwired l n)
      ]
    where
      none : (b c : Bool) → c ≡ true → ◌≡◌ {A = ℕ} (cond (b && not c) 1 0) 0
      none true c h = ap (λ d. cond (not d) 1 0) h
      none false c h = refl

-- A book that is trimmed to a whole cut keeps what holds.
pub trim_holds : {Node : Type 0} (M : Machine Node) → HasFourLinks M → (w : MarkedNetwork Node) → CutInvariant M w → (cut : WholeCut) (nodes : List Node)
    → whole w ≡ Some cut → all_some w.frozen ≡ Some nodes → CutInvariant M (trimmed w cut nodes)
trim_holds M four w H cut nodes is images = record {
  base = record { now = now; lines = H.base.lines; wired = H.base.wired; unwired = H.base.unwired };
  inside = whole_unmarked M w H cut is;
}
  where
    C : CutHolds M w cut
    C = whole_holds M four w H cut is

    now : after M (network_in w.start cut nodes) (post (process w.start.wires (length w.start.nodes)) (count_in cut) w.entries) ≡ Some (plain_network w.live)
    now = ap (λ s. after M s (post (process w.start.wires (length w.start.nodes)) (count_in cut) w.entries)) (cut_network M four w cut nodes C images)
        ∙ sym (after_front M w.start C.consistent.state (pre (process w.start.wires (length w.start.nodes)) (count_in cut) w.entries) (post (process w.start.wires (length w.start.nodes)) (count_in cut) w.entries) C.consistent.is)
        ∙ C.same ∙ H.base.now
