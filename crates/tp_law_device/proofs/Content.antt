-- A content that spells a cut and its tail.
use Rattle.std.proofs.Common.{◌≡◌, ℕ, ◌+◌, ◌-◌, ◌*◌, ◌<◌, ◌≤◌, true, List, [], ◌∷◌, ◌++◌, length, refl, sym, ap, subst, ◌∙◌, arith, length-append, le_refl, Some}
use Rattle.std.specs.Prelude.{map}
use Rattle.tp_law_device.proofs.Lower.{AllByRecursion, leb-true, length-replicate, Entry, GATE_CLOSED, NUMBER_LIMIT, zeros, Turns, NodeState, IsNode, t414, t414_ends, Network, after, EndsSeen, AreNumbered, Topology, is_topology, entry_room, room, is_roomy, front_bytes, groups_bytes, entries_in, IsCut, SpellsArea, groups_place, node_of-image}
use Rattle.tp_law_device.proofs.Forms.{are_of_turns}
use Rattle.tp_law_device.proofs.Formattable.{length-front_bytes}
use Rattle.tp_law_device.proofs.Wires.{has_shape}
use Rattle.tp_law_device.proofs.SpeltCuts.{IsReadBack, ReadsBack}
use Rattle.tp_law_device.specs.InGroups.{in_groups}
use Rattle.tp_law_device.proofs.TailGroups.{AreSpelt, parted_entries, parted_groups, parted_bytes}

nodes_back : (nodes : List NodeState) → AllByRecursion IsNode nodes → AllByRecursion IsReadBack nodes
nodes_back [] h = tt
nodes_back (n ∷ ns) h = (node_of-image n h.0, nodes_back ns h.1)

pub cut_back : (E : EndsSeen NodeState) (t : Topology) (base : ℕ) (s : Network NodeState) → IsCut E t base s → ReadsBack E t base s
cut_back E t base s C = record {
  wires = C.wires;
  nodes = nodes_back s.nodes C.nodes;
  pages = C.pages;
  lines = C.lines;
  count = C.count;
  ports = C.ports;
  flights = C.flights;
  base_fits = C.base_fits;
}

-- what is written into an area of `area` bytes
pub record AreaSpelling (t : Topology) (area generation base : ℕ) (s : Network NodeState) (tail : List (Entry × ℕ)) (now : Network NodeState) : Type 0 where
  pub content : List ℕ
  pub long : length content ≡ area - 1
  pub spells : SpellsArea t414 t414_ends t content generation Turns base s (in_groups tail) now

pub can_be_spelt : (t : Topology) (area generation base : ℕ) (s : Network NodeState) (tail : List (Entry × ℕ)) (now : Network NodeState) → is_topology t ≡ true → is_roomy t area ≡ true → generation < NUMBER_LIMIT
    → IsCut t414_ends t base s → AreSpelt tail → AreNumbered 0 base (map (λ (e : Entry × ℕ). e.1) tail) → base + length tail ≤ NUMBER_LIMIT - 1
    → after t414 s (map (λ (e : Entry × ℕ). e.0) tail) ≡ Some now → entry_room * length tail ≤ room t area → AreaSpelling t area generation base s tail now
can_be_spelt t area generation base s tail now topology roomy young C spelt numbered last leads fits =
    let groups = in_groups tail in
    let front = front_bytes t generation Turns base s in
    let bytes = groups_bytes groups in
    let size : length front ≡ groups_place t = length-front_bytes t414_ends t (has_shape t topology) generation Turns base s (cut_back t414_ends t base s C) in
    let few = parted_bytes (length tail) tail spelt in
    let wide = leb-true _ _ roomy in
    let rest = zeros (area - 2 - length front - length bytes) in
    let same : entries_in groups ≡ tail = parted_entries (length tail) tail (le_refl (length tail)) in
    record {
      content = front ++ (bytes ++ GATE_CLOSED ∷ rest);
      long = omega (arith, size, few, fits, wide, length-append front (bytes ++ GATE_CLOSED ∷ rest), length-append bytes (GATE_CLOSED ∷ rest), length-replicate {A = ℕ} (area - 2 - length front - length bytes) 0);
      spells = record {
        gate = GATE_CLOSED;
        rest = rest;
        shut = refl;
        spelled = refl;
        generation_fits = young;
        cut = C;
        each = parted_groups (length tail) tail spelt;
        of_form = are_of_turns (entries_in groups);
        numbers = subst (λ es. AreNumbered 0 base (map (λ (e : Entry × ℕ). e.1) es)) (sym same) numbered;
        last = omega (arith, last, ap length same);
        leads = ap (λ es. after t414 s (map (λ (e : Entry × ℕ). e.0) es)) same ∙ leads;
      };
    }
