-- A snapshot begins.
use Rattle.std.proofs.Common.{◌≡◌, ◌≢◌, ℕ, ◌+◌, ◌*◌, ◌/◌, ◌<◌, ◌≤◌, true, false, cond, not, inl, inr, List, [], ◌∷◌, ◌++◌, length, map, replicate, get_or, refl, sym, ap, subst, ◌∙◌, arith, Option, Some, None, append-nil, length-append, eq-eqb, ne_eqb}
use Rattle.std.specs.Prelude.{◌&&◌, is_some}
use Rattle.tp_law_network.proofs.Lower.{option_map, cases_eq, cases_lt, cases_order, true≢false, lt-ltb, le-ltb, length-replicate, get_or-replicate, get_or_append_left, get_or_at, get_or_past, length-map, slice_get_past, Token, WireEnd, Entry, Machine, Network, Own, OfNode, OfHost, own, has_wire, is_wired, receiver, process_at, on_line, for_line, process, HasFourLinks, after, Reorder, same, made, owner, before, markers, plain, plain_network, Snapshot, MarkedNetwork, first_snapshot, count_of, has_recorded, is_closed, taker, with_markers, host_markers}
use Rattle.tp_law_network.proofs.Local.{step_of, own_node, own_host, own-node, own-host, own-lines, next_shape}
use Rattle.tp_law_network.proofs.Choice.{made-other, chosen_all, chosen_none}
use Rattle.tp_law_network.proofs.Reorder.{first_possible, process_next}
use Rattle.tp_law_network.proofs.Flight.{owner_host}
use Rattle.tp_law_network.proofs.Room.{on_line-plain}
use Rattle.tp_law_network.proofs.CutsMarks.{AreMarkers, plain_unmarked, before_unmarked}
use Rattle.tp_law_network.specs.Invariant.{in_count, in_cut, early, late, as_recorded, Base, Marking}
use Rattle.tp_law_network.proofs.Shape.{live_nodes}
use Rattle.tp_law_network.proofs.Sending.{host_marked, host_markers_all, host_elsewhere, owner_most, before_marked, markers_marked, marked_length}

-- ## Processes past the host

-- a process with a state is a node or the host
pub own_within : {Node : Type 0} (s : Network Node) (p : ℕ) (x : Own Node) → own s p ≡ Some x → p ≤ length s.nodes
own_within s p (OfNode n) e = let at = own_node s p n e in let below = at.0 in omega arith
own_within s p (OfHost ports) e = let at = own_host s p ports e in let same_number = at.0 in omega arith

pub own_past : {Node : Type 0} (s : Network Node) (p : ℕ) → length s.nodes < p → own s p ≡ None
own_past s p h = own-node s p (λ e. omega arith) ∙ ap (option_map OfNode) (slice_get_past s.nodes p (omega arith))

-- there are no entries of others
pub made_past : {Node : Type 0} (M : Machine Node) → HasFourLinks M → (s t : Network Node) (es : List Entry) → after M s es ≡ Some t
    → (p : ℕ) → length s.nodes < p → ◌≡◌ {A = ℕ} (made (process s.wires (length s.nodes)) p es) 0
unfolding made
made_past M four s t [] h p past = refl
made_past M four s t (e ∷ es) h p past =
    let F = first_possible M s t e es h in
    let S = step_of M s e F.0 F.1 in
    let within : process s.wires (length s.nodes) e ≤ length s.nodes = own_within s (process s.wires (length s.nodes) e) S.was S.own_was in
    let shape = next_shape M four s e F.0 F.1 in
    let still : length F.0.nodes < p = subst (λ n. n < p) (sym shape.nodes) past in
    made-other (process s.wires (length s.nodes)) p e es (λ x. omega arith)
    ∙ ap (λ of. made of p es) (sym (process_next M four s e F.0 F.1))
    ∙ made_past M four F.0 t es F.2 p still

-- a line that comes in to a node has a wire
pub taker_wired : {Node : Type 0} (s : Network Node) (l : ℕ) → taker s l ≢ length s.nodes → has_wire s.wires l ≡ true
taker_wired s l other = go (receiver s.wires l) other
  where
    go : (end : Option WireEnd) → process_at (length s.nodes) end ≢ length s.nodes → is_wired end ≡ true
    go None h = absurd (h refl)
    go (Some end) h = refl

owner_past : (N l : ℕ) → 4 * N ≤ l → owner N l ≡ N
owner_past N l h = ap (λ b. cond b (l / 4) N) (le-ltb l (4 * N) h)

module _ {Node : Type 0} (M : Machine Node) (four : HasFourLinks M) (w : MarkedNetwork Node) (B : Base M w) (unmarked : (l : ℕ) → markers (on_line w.live.lines l) ≡ 0) where
  abbrev N : ℕ
  N = length w.live.nodes

  abbrev marks : List (ℕ × Token)
  marks = host_markers N (length w.live.ports)

  abbrev snap : Snapshot
  snap = first_snapshot N (length w.live.lines) (made (process w.start.wires (length w.start.nodes)) N w.entries) w.live.ports (length w.entries)

  all : AreMarkers marks
  all = host_markers_all N (length w.live.ports)

  -- ## What the snapshot knows

  count_node : (p : ℕ) → p < N → count_of snap p ≡ None
  count_node p h =
      get_or_append_left (replicate N None) (Some (made (process w.start.wires (length w.start.nodes)) N w.entries) ∷ []) (Some 0) p (subst (λ n. p < n) (sym (length-replicate N None)) h)
      ∙ get_or-replicate N p None (Some 0) h

  count_host : count_of snap N ≡ Some (made (process w.start.wires (length w.start.nodes)) N w.entries)
  count_host = get_or_at (replicate N None) (Some (made (process w.start.wires (length w.start.nodes)) N w.entries)) [] (Some 0) N (length-replicate N None)

  count_length : length snap.counts ≡ N + 1
  count_length = length-append (replicate N None) (Some (made (process w.start.wires (length w.start.nodes)) N w.entries) ∷ []) ∙ ap (λ n. n + 1) (length-replicate N None)

  count_past : (p : ℕ) → N < p → count_of snap p ≡ Some 0
  count_past p h = get_or_past snap.counts p (Some 0) (omega (arith, count_length))

  has_node : (p : ℕ) → p < N → has_recorded snap p ≡ false
  has_node p h = ap is_some (count_node p h)

  has_host : has_recorded snap N ≡ true
  has_host = ap is_some count_host

  has_past : (p : ℕ) → N < p → has_recorded snap p ≡ true
  has_past p h = ap is_some (count_past p h)

  open_line : (l : ℕ) → l < length w.live.lines → is_closed snap l ≡ false
  open_line l h = get_or-replicate (length w.live.lines) l false true h

  past_line : (l : ℕ) → length w.live.lines ≤ l → is_closed snap l ≡ true
  past_line l h = get_or_past snap.closed l true (subst (λ n. n ≤ l) (sym (length-replicate (length w.live.lines) false)) h)

  nothing_yet : (l : ℕ) → on_line snap.lines l ≡ []
  nothing_yet l = elim (cases_lt l (length w.live.lines)) [
    | inl h ↦ get_or-replicate (length w.live.lines) l [] [] h
    | inr h ↦ get_or_past snap.lines l [] (subst (λ n. n ≤ l) (sym (length-replicate (length w.live.lines) [])) h)
  ]

  -- ## All entries are in the cut

  all_in : (p n : ℕ) → 0 ≤ n → n < 0 + made (process w.start.wires (length w.start.nodes)) p w.entries → in_cut snap p n ≡ true
  all_in p n low high = elim (cases_order p N) [
    | inl e ↦ ap (λ q. in_cut snap q n) e ∙ ap (λ c. in_count c n) count_host ∙ lt-ltb n (made (process w.start.wires (length w.start.nodes)) N w.entries) (at_host e)
    | inr (inl below) ↦ ap (λ c. in_count c n) (count_node p below)
    | inr (inr past) ↦ absurd (omega (arith, made_past M four w.start (plain_network w.live) w.entries B.now p (subst (λ k. k < p) (live_nodes M four w B) past)))
  ]
    where
      at_host : p ≡ N → n < made (process w.start.wires (length w.start.nodes)) N w.entries
      at_host e = subst (λ q. n < made (process w.start.wires (length w.start.nodes)) q w.entries) e (omega arith)

  begin_early : early (process w.start.wires (length w.start.nodes)) snap w.entries ≡ w.entries
  begin_early = chosen_all (process w.start.wires (length w.start.nodes)) (in_cut snap) (λ p. 0) w.entries all_in

  begin_late : late (process w.start.wires (length w.start.nodes)) snap w.entries ≡ []
  begin_late = chosen_none (process w.start.wires (length w.start.nodes)) (λ p n. not (in_cut snap p n)) (λ p. 0) w.entries (λ p n low high. ap not (all_in p n low high))

  begin_order : Reorder M w.start w.entries (early (process w.start.wires (length w.start.nodes)) snap w.entries ++ late (process w.start.wires (length w.start.nodes)) snap w.entries)
  begin_order =
      subst (λ es. Reorder M w.start w.entries es)
      (sym (ap (λ es. early (process w.start.wires (length w.start.nodes)) snap w.entries ++ es) begin_late ∙ append-nil (early (process w.start.wires (length w.start.nodes)) snap w.entries) ∙ begin_early))
      (same w.entries)

  -- ## States and lines

  begin_owns : (q : ℕ) → own (plain_network w.live) q ≡ cond (has_recorded snap q) (as_recorded N snap (replicate N None) q) (own (with_markers w.live marks) q)
  begin_owns q = own-lines w.live (map plain w.live.lines) q ∙ elim (cases_order q N) [
    | inl e ↦ ap (own w.live) e ∙ own-host w.live
        ∙ sym (ap (λ p. cond (has_recorded snap p) (as_recorded N snap (replicate N None) p) (own (with_markers w.live marks) p)) e
        ∙ ap (λ b. cond b (as_recorded N snap (replicate N None) N) (own (with_markers w.live marks) N)) has_host
        ∙ ap (λ b. cond b (Some (OfHost w.live.ports)) (option_map OfNode (get_or (replicate N None) N None))) (eq-eqb N N refl))
    | inr (inl below) ↦ sym (ap (λ b. cond b (as_recorded N snap (replicate N None) q) (own (with_markers w.live marks) q)) (has_node q below)
        ∙ own-lines w.live (with_markers w.live marks).lines q)
    | inr (inr past) ↦ own_past w.live q past
        ∙ sym (ap (λ b. cond b (as_recorded N snap (replicate N None) q) (own (with_markers w.live marks) q)) (has_past q past)
        ∙ ap (λ b. cond b (Some (OfHost w.live.ports)) (option_map OfNode (get_or (replicate N None) q None))) (ne_eqb q N (λ e. omega arith))
        ∙ ap (option_map OfNode) (get_or_past (replicate N None) q None (omega (arith, length-replicate {A = Option Node} N None))))
  ]

  begin_lines : (l : ℕ) → on_line (map plain w.live.lines) l
      ≡ cond (is_closed snap l) (on_line snap.lines l) (on_line snap.lines l ++ before (on_line (with_markers w.live marks).lines l))
  begin_lines l = elim (cases_lt l (length w.live.lines)) [
    | inl h ↦ on_line-plain w.live.lines l ∙ plain_unmarked (on_line w.live.lines l) (unmarked l)
        ∙ sym (ap (λ b. cond b (on_line snap.lines l) (on_line snap.lines l ++ before (on_line (with_markers w.live marks).lines l))) (open_line l h)
        ∙ ap (λ ts. ts ++ before (on_line (with_markers w.live marks).lines l)) (nothing_yet l)
        ∙ before_marked M w B marks all l
        ∙ before_unmarked (on_line w.live.lines l) (unmarked l))
    | inr h ↦ get_or_past (map plain w.live.lines) l [] (subst (λ n. n ≤ l) (sym (length-map w.live.lines plain)) h)
        ∙ sym (ap (λ b. cond b (on_line snap.lines l) (on_line snap.lines l ++ before (on_line (with_markers w.live marks).lines l))) (past_line l h) ∙ nothing_yet l)
  ]

  begin_marks : (l : ℕ) → has_wire w.live.wires l ≡ true
      → markers (on_line (with_markers w.live marks).lines l) ≡ cond (has_recorded snap (owner N l) && not (is_closed snap l)) 1 0
  begin_marks l y = markers_marked M w B marks all l y ∙ elim (cases_eq (owner N l) N) [
    | inl e ↦ only e ∙ sym (due l e (open_line l (B.wired l y)))
    | inr other ↦ none other ∙ sym (undue l (has_node (owner N l) (below other)))
  ]
    where
      below : owner N l ≢ N → owner N l < N
      below other = let most = owner_most N l in omega arith

      only : owner N l ≡ N → ◌≡◌ {A = ℕ} (markers (on_line w.live.lines l) + markers (for_line l marks)) 1
      only e = omega (arith, unmarked l, host_marked N (length w.live.ports) l (owner_host N l e) (subst (λ n. l < n) B.lines (B.wired l y)))

      none : owner N l ≢ N → ◌≡◌ {A = ℕ} (markers (on_line w.live.lines l) + markers (for_line l marks)) 0
      none other = omega (arith, unmarked l, ap markers (host_elsewhere N (length w.live.ports) l other))

      due : (k : ℕ) → owner N k ≡ N → is_closed snap k ≡ false → ◌≡◌ {A = ℕ} (cond (has_recorded snap (owner N k) && not (is_closed snap k)) 1 0) 1
      due k e free = ap (λ q. cond (has_recorded snap q && not (is_closed snap k)) 1 0) e ∙ ap (λ b. cond (b && not (is_closed snap k)) 1 0) has_host ∙ ap (λ b. cond (not b) 1 0) free

      undue : (k : ℕ) → has_recorded snap (owner N k) ≡ false → ◌≡◌ {A = ℕ} (cond (has_recorded snap (owner N k) && not (is_closed snap k)) 1 0) 0
      undue k n = ap (λ b. cond (b && not (is_closed snap k)) 1 0) n

  begin_fresh : (l : ℕ) → has_recorded snap (taker w.live l) ≡ false → (is_closed snap l ≡ false) × (on_line snap.lines l ≡ [])
  begin_fresh l n =
      let apart : taker w.live l ≢ N = (λ e. true≢false (sym (ap (has_recorded snap) e ∙ has_host) ∙ n)) in
      (open_line l (B.wired l (taker_wired w.live l apart)), nothing_yet l)

  begin_closed : (l : ℕ) → is_closed snap l ≡ true → has_recorded snap (owner N l) ≡ true
  begin_closed l y = elim (cases_lt l (length w.live.lines)) [
    | inl h ↦ absurd (true≢false (sym y ∙ open_line l h))
    | inr h ↦ ap (has_recorded snap) (owner_past N l (omega (arith, B.lines))) ∙ has_host
  ]

  begin_counted : (p k : ℕ) → count_of snap p ≡ Some k → k ≤ made (process w.start.wires (length w.start.nodes)) p w.entries
  begin_counted p k h = elim (cases_order p N) [
    | inl e ↦ let is : Some (made (process w.start.wires (length w.start.nodes)) N w.entries) ≡ Some k = sym count_host ∙ ap (count_of snap) (sym e) ∙ h in
        let same_count : made (process w.start.wires (length w.start.nodes)) N w.entries ≡ k = cc in
        subst (λ q. k ≤ made (process w.start.wires (length w.start.nodes)) q w.entries) (sym e) (omega arith)
    | inr (inl below) ↦ let none : None ≡ Some k = sym (count_node p below) ∙ h in cc
    | inr (inr past) ↦ let is : Some 0 ≡ Some k = sym (count_past p past) ∙ h in
        let zero_is : 0 ≡ k = cc in
        omega arith
  ]

  -- A snapshot that begins has what holds while one runs: all entries so far are in the cut, and no other.
  pub begins : Marking M w.start w.entries (with_markers w.live marks) (replicate N None) snap
  begins = record {
    mid = plain_network w.live;
    consistent = ap (after M w.start) begin_early ∙ B.now;
    order = begin_order;
    owns = begin_owns;
    on_lines = begin_lines;
    marks = begin_marks;
    fresh = begin_fresh;
    closed_after = begin_closed;
    counted = begin_counted;
    sized = ap length (sym begin_early);
    cut_lines = length-replicate (length w.live.lines) [] ∙ sym (marked_length M w B marks all);
    cut_closed = length-replicate (length w.live.lines) false ∙ sym (marked_length M w B marks all);
    cut_counts = count_length;
    images = length-replicate N None;
  }
