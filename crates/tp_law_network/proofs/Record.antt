-- A node records.
use Rattle.std.proofs.Common.{◌≡◌, ◌≢◌, ℕ, ◌+◌, ◌<◌, ◌≤◌, true, false, cond, not, inl, inr, List, ◌++◌, length, get_or, set, refl, sym, ap, subst, ◌∙◌, arith, Option, Some, None, slice_get, length-set, get_or-set_same, get_or-set_other, ne_eqb}
use Rattle.std.specs.Prelude.{◌==◌, ◌&&◌, is_some}
use Rattle.tp_law_network.proofs.Lower.{option_map, cases_eq, cases_Bool, true≢false, lt-ltb, Machine, OfNode, OfHost, own, has_wire, on_line, for_line, process, after, Reorder, made, owner, markers, Snapshot, MarkedNetwork, count_of, has_recorded, is_closed, taker, with_count, with_markers, node_markers}
use Rattle.tp_law_network.proofs.Local.{own-node, own-lines}
use Rattle.tp_law_network.proofs.Choice.{chosen_agree}
use Rattle.tp_law_network.specs.Invariant.{in_count, in_cut, early, late, as_recorded, Base, Marking}
use Rattle.tp_law_network.proofs.Sending.{node_marked, node_markers_all, node_elsewhere, owner_node, before_marked, markers_marked, marked_length}

module _ {Node : Type 0} (M : Machine Node) (w : MarkedNetwork Node) (B : Base M w)
    (snap : Snapshot) (K : Marking M w.start w.entries w.live w.frozen snap) (i : ℕ) (below : i < length w.live.nodes) (new : has_recorded snap i ≡ false) where
  abbrev count : ℕ
  count = made (process w.start.wires (length w.start.nodes)) i w.entries

  abbrev counts : Snapshot
  counts = with_count snap i count

  -- ## What the snapshot knows

  count_here : count_of counts i ≡ Some count
  count_here = get_or-set_same snap.counts i (Some count) (Some 0) (omega (arith, K.cut_counts))

  count_other : (q : ℕ) → q ≢ i → count_of counts q ≡ count_of snap q
  count_other q other = get_or-set_other snap.counts i q (Some count) (Some 0) other

  has_here : has_recorded counts i ≡ true
  has_here = ap is_some count_here

  has_other : (q : ℕ) → q ≢ i → has_recorded counts q ≡ has_recorded snap q
  has_other q other = ap is_some (count_other q other)

  has_more : (q : ℕ) → has_recorded snap q ≡ true → has_recorded counts q ≡ true
  has_more q h = has_other q (λ e. true≢false (sym h ∙ ap (has_recorded snap) e ∙ new)) ∙ h

  -- one that still hasn't recorded hadn't
  new_other : (q : ℕ) → has_recorded counts q ≡ false → has_recorded snap q ≡ false
  new_other q h = sym (has_other q (λ e. true≢false (sym (ap (has_recorded counts) e ∙ has_here) ∙ h))) ∙ h

  -- ## The cut so far stays

  cut_agrees : (p n : ℕ) → 0 ≤ n → n < 0 + made (process w.start.wires (length w.start.nodes)) p w.entries → in_cut counts p n ≡ in_cut snap p n
  cut_agrees p n low high = elim (cases_eq p i) [
    | inl same ↦ ap (λ q. in_cut counts q n) same ∙ ap (λ c. in_count c n) count_here ∙ lt-ltb n count (inside same) ∙ sym (all (count_of snap p) (ap (has_recorded snap) same ∙ new))
    | inr other ↦ ap (λ c. in_count c n) (count_other p other)
  ]
    where
      inside : p ≡ i → n < count
      inside same = subst (λ k. n < k) (ap (λ q. made (process w.start.wires (length w.start.nodes)) q w.entries) same) (omega arith)

      all : (c : Option ℕ) → is_some c ≡ false → in_count c n ≡ true
      all None h = refl
      all (Some k) h = cc

  early_same : early (process w.start.wires (length w.start.nodes)) counts w.entries ≡ early (process w.start.wires (length w.start.nodes)) snap w.entries
  early_same = chosen_agree (process w.start.wires (length w.start.nodes)) (in_cut counts) (in_cut snap) (λ p. 0) w.entries cut_agrees

  late_same : late (process w.start.wires (length w.start.nodes)) counts w.entries ≡ late (process w.start.wires (length w.start.nodes)) snap w.entries
  late_same = chosen_agree (process w.start.wires (length w.start.nodes)) (λ p n. not (in_cut counts p n)) (λ p n. not (in_cut snap p n)) (λ p. 0) w.entries (λ p n low high. ap not (cut_agrees p n low high))

  record_order : Reorder M w.start w.entries (early (process w.start.wires (length w.start.nodes)) counts w.entries ++ late (process w.start.wires (length w.start.nodes)) counts w.entries)
  record_order =
      subst (λ es. Reorder M w.start w.entries es)
      (ap (λ es. es ++ late (process w.start.wires (length w.start.nodes)) snap w.entries) (sym early_same) ∙ ap (λ es. early (process w.start.wires (length w.start.nodes)) counts w.entries ++ es) (sym late_same)) K.order

  -- ## States and lines

  abbrev images : List (Option Node)
  images = set w.frozen i (slice_get w.live.nodes i)

  image_here : as_recorded (length w.live.nodes) counts images i ≡ own w.live i
  image_here =
      ap (λ b. cond b (Some (OfHost snap.ports)) (option_map OfNode (get_or images i None))) (ne_eqb i (length w.live.nodes) (λ e. omega arith))
      ∙ ap (option_map OfNode) (get_or-set_same w.frozen i (slice_get w.live.nodes i) None (subst (λ n. i < n) (sym K.images) below))
      ∙ sym (own-node w.live i (λ e. omega arith))

  record_owns : (q : ℕ) → own K.mid q ≡ cond (has_recorded counts q) (as_recorded (length w.live.nodes) counts images q) (own (with_markers w.live (node_markers i)) q)
  record_owns q = elim (cases_eq q i) [
    | inl same ↦ ap (own K.mid) same ∙ K.owns i ∙ ap (λ b. cond b (as_recorded (length w.live.nodes) snap w.frozen i) (own w.live i)) new
        ∙ sym (ap (λ p. cond (has_recorded counts p) (as_recorded (length w.live.nodes) counts images p) (own (with_markers w.live (node_markers i)) p)) same
        ∙ ap (λ b. cond b (as_recorded (length w.live.nodes) counts images i) (own (with_markers w.live (node_markers i)) i)) has_here
        ∙ image_here)
    | inr other ↦ K.owns q
        ∙ ap (λ b. cond b (as_recorded (length w.live.nodes) snap w.frozen q) (own w.live q)) (sym (has_other q other))
        ∙ ap (λ x. cond (has_recorded counts q) (cond (q == length w.live.nodes) (Some (OfHost snap.ports)) (option_map OfNode x)) (own w.live q))
        (sym (get_or-set_other w.frozen i q (slice_get w.live.nodes i) None other))
        ∙ ap (λ x. cond (has_recorded counts q) (as_recorded (length w.live.nodes) counts images q) x) (sym (own-lines w.live (with_markers w.live (node_markers i)).lines q))
  ]

  record_marks : (l : ℕ) → has_wire w.live.wires l ≡ true
      → markers (on_line (with_markers w.live (node_markers i)).lines l) ≡ cond (has_recorded counts (owner (length w.live.nodes) l) && not (is_closed snap l)) 1 0
  record_marks l y = elim (cases_eq (owner (length w.live.nodes) l) i) [
    | inl same ↦ markers_marked M w B (node_markers i) (node_markers_all i) l y ∙ one same (K.marks l y ∙ unsent l same) (marked_here same) ∙ sym (due l same (still_open l same))
    | inr other ↦ markers_marked M w B (node_markers i) (node_markers_all i) l y
        ∙ ap (λ ts. markers (on_line w.live.lines l) + markers ts) (node_elsewhere (length w.live.nodes) i l below other)
        ∙ more (markers (on_line w.live.lines l))
        ∙ K.marks l y
        ∙ ap (λ b. cond (b && not (is_closed snap l)) 1 0) (sym (has_other (owner (length w.live.nodes) l) other))
  ]
    where
      more : (n : ℕ) → n + 0 ≡ n
      more n = omega arith

      -- there was none, since its sender hadn't recorded
      unsent : (k : ℕ) → owner (length w.live.nodes) k ≡ i → ◌≡◌ {A = ℕ} (cond (has_recorded snap (owner (length w.live.nodes) k) && not (is_closed snap k)) 1 0) 0
      unsent k same = rw (same, new)

      still_open : (k : ℕ) → owner (length w.live.nodes) k ≡ i → is_closed snap k ≡ false
      still_open k same = elim (cases_Bool (is_closed snap k)) [
        | inl shut ↦ absurd (true≢false (sym (K.closed_after k shut) ∙ ap (has_recorded snap) same ∙ new))
        | inr free ↦ free
      ]

      due : (k : ℕ) → owner (length w.live.nodes) k ≡ i → is_closed snap k ≡ false → ◌≡◌ {A = ℕ} (cond (has_recorded counts (owner (length w.live.nodes) k) && not (is_closed snap k)) 1 0) 1
      due k same free = rw (same, has_here, free)

      marked_here : owner (length w.live.nodes) l ≡ i → ◌≡◌ {A = ℕ} (markers (for_line l (node_markers i))) 1
      marked_here same = let O = owner_node (length w.live.nodes) l i below same in node_marked i l O.0 O.1

      one : owner (length w.live.nodes) l ≡ i → ◌≡◌ {A = ℕ} (markers (on_line w.live.lines l)) 0 → ◌≡◌ {A = ℕ} (markers (for_line l (node_markers i))) 1
          → ◌≡◌ {A = ℕ} (markers (on_line w.live.lines l) + markers (for_line l (node_markers i))) 1
      one same a b = omega arith

  record_counted : (p k : ℕ) → count_of counts p ≡ Some k → k ≤ made (process w.start.wires (length w.start.nodes)) p w.entries
  record_counted p k h = elim (cases_eq p i) [
    | inl same ↦ let is : Some count ≡ Some k = sym count_here ∙ ap (count_of counts) (sym same) ∙ h in
        let same_count : count ≡ k = cc in
        subst (λ q. k ≤ made (process w.start.wires (length w.start.nodes)) q w.entries) (sym same) (omega arith)
    | inr other ↦ K.counted p k (sym (count_other p other) ∙ h)
  ]

  -- A node that records keeps what holds.
  pub node_recorded : Marking M w.start w.entries (with_markers w.live (node_markers i)) images counts
  node_recorded = record {
    mid = K.mid;
    consistent = ap (after M w.start) early_same ∙ K.consistent;
    order = record_order;
    owns = record_owns;
    on_lines = λ l. K.on_lines l ∙ ap (λ ts. cond (is_closed snap l) (on_line snap.lines l) (on_line snap.lines l ++ ts)) (sym (before_marked M w B (node_markers i) (node_markers_all i) l));
    marks = record_marks;
    fresh = λ l n. K.fresh l (new_other (taker w.live l) n);
    closed_after = λ l y. has_more (owner (length w.live.nodes) l) (K.closed_after l y);
    counted = record_counted;
    sized = K.sized ∙ ap length (sym early_same);
    cut_lines = K.cut_lines ∙ sym (marked_length M w B (node_markers i) (node_markers_all i));
    cut_closed = K.cut_closed ∙ sym (marked_length M w B (node_markers i) (node_markers_all i));
    cut_counts = length-set snap.counts i (Some count) ∙ K.cut_counts;
    images = length-set w.frozen i (slice_get w.live.nodes i) ∙ K.images;
  }
