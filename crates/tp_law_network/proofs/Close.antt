-- The Marker of a line is taken.
use Rattle.std.proofs.Common.{◌≡◌, ◌≢◌, ℕ, ◌+◌, ◌<◌, Bool, true, false, cond, not, inl, inr, List, [], ◌++◌, length, set, refl, sym, ap, subst, ◌∙◌, arith, Option, Some, length-set, get_or-set_same, get_or-set_other}
use Rattle.std.specs.Prelude.{◌&&◌}
use Rattle.tp_law_network.proofs.Lower.{cases_eq, cases_Bool, and_parts, not-true, true≢false, false≢true, Token, Machine, Network, has_wire, on_line, owner, before, markers, has_marker, unmarked, Snapshot, MarkedNetwork, has_recorded, is_closed, taker, closed_over}
use Rattle.tp_law_network.proofs.Lines.{on_set_same, on_set_other}
use Rattle.tp_law_network.proofs.Local.{own-lines}
use Rattle.tp_law_network.proofs.CutsMarks.{marker_gone, marker_there, unmarked_markers}
use Rattle.tp_law_network.specs.Invariant.{as_recorded, Base, Marking}

module _ {Node : Type 0} (M : Machine Node) (w : MarkedNetwork Node) (B : Base M w) (line : ℕ) (marker : has_marker (on_line w.live.lines line) ≡ true) where
  abbrev rest : List Token
  rest = unmarked (on_line w.live.lines line)

  abbrev left : Network Node
  left = record w.live { lines = set w.live.lines line rest }

  there : line < length w.live.lines
  there = marker_there w.live.lines line marker

  -- a line with a Marker has a wire
  pub marker_wired : has_wire w.live.wires line ≡ true
  marker_wired = elim (cases_Bool (has_wire w.live.wires line)) [
    | inl y ↦ y
    | inr n ↦ absurd (false≢true (sym (ap has_marker (B.unwired line n)) ∙ marker))
  ]

  one_less : markers (on_line w.live.lines line) ≡ markers rest + 1
  one_less = unmarked_markers (on_line w.live.lines line) marker

  left_here : on_line left.lines line ≡ rest
  left_here = on_set_same w.live.lines line rest there

  left_other : (l : ℕ) → l ≢ line → on_line left.lines l ≡ on_line w.live.lines l
  left_other l other = on_set_other w.live.lines line l rest other

  left_unwired : (l : ℕ) → has_wire w.live.wires l ≡ false → on_line left.lines l ≡ []
  left_unwired l n = left_other l (λ e. true≢false (sym (ap (has_wire w.live.wires) e ∙ marker_wired) ∙ n)) ∙ B.unwired l n

  -- A Marker that is taken keeps what holds at any time.
  pub base_closed : (snapshot : Option Snapshot) (frozen : List (Option Node)) → Base M (record w { live = left; snapshot = snapshot; frozen = frozen })
  base_closed snapshot frozen = record {
    now = B.now ∙ ap (λ lines. Some (record w.live { lines = lines })) (sym (marker_gone w.live.lines line));
    lines = length-set w.live.lines line rest ∙ B.lines;
    wired = λ l y. subst (λ n. l < n) (sym (length-set w.live.lines line rest)) (B.wired l y);
    unwired = left_unwired;
  }

  module _ (snap : Snapshot) (K : Marking M w.start w.entries w.live w.frozen snap) where
    -- its sender has recorded, it was open, and there is no other Marker on it
    sender_recorded : (has_recorded snap (owner (length w.live.nodes) line) ≡ true) × (is_closed snap line ≡ false) × (◌≡◌ {A = ℕ} (markers rest) 0)
    sender_recorded = go (has_recorded snap (owner (length w.live.nodes) line) && not (is_closed snap line)) refl (sym one_less ∙ K.marks line marker_wired)
      where
        go : (b : Bool) → (has_recorded snap (owner (length w.live.nodes) line) && not (is_closed snap line)) ≡ b → markers rest + 1 ≡ cond b 1 0
            → (has_recorded snap (owner (length w.live.nodes) line) ≡ true) × (is_closed snap line ≡ false) × (◌≡◌ {A = ℕ} (markers rest) 0)
        go true is h =
            let A = and_parts (has_recorded snap (owner (length w.live.nodes) line)) (not (is_closed snap line)) is in
            (A.0, not-true (is_closed snap line) A.1, omega arith)
        go false is h = absurd (omega arith)

    -- a snapshot closes a line once
    pub was_open : is_closed snap line ≡ false
    was_open = sender_recorded.1

    abbrev closes : Snapshot
    closes = closed_over snap line (before (on_line w.live.lines line))

    cut_here : on_line closes.lines line ≡ on_line snap.lines line ++ before (on_line w.live.lines line)
    cut_here = on_set_same snap.lines line (on_line snap.lines line ++ before (on_line w.live.lines line)) (subst (λ n. line < n) (sym K.cut_lines) there)

    cut_other : (l : ℕ) → l ≢ line → on_line closes.lines l ≡ on_line snap.lines l
    cut_other l other = on_set_other snap.lines line l (on_line snap.lines line ++ before (on_line w.live.lines line)) other

    shut_here : is_closed closes line ≡ true
    shut_here = get_or-set_same snap.closed line true true (subst (λ n. line < n) (sym K.cut_closed) there)

    shut_other : (l : ℕ) → l ≢ line → is_closed closes l ≡ is_closed snap l
    shut_other l other = get_or-set_other snap.closed line l true true other

    module _ (has : has_recorded snap (taker w.live line) ≡ true) where
      close_lines : (l : ℕ) → on_line K.mid.lines l ≡ cond (is_closed closes l) (on_line closes.lines l) (on_line closes.lines l ++ before (on_line left.lines l))
      close_lines l = elim (cases_eq l line) [
        | inl same ↦ subst (λ k. on_line K.mid.lines k ≡ cond (is_closed closes k) (on_line closes.lines k) (on_line closes.lines k ++ before (on_line left.lines k))) (sym same) at_line
        | inr other ↦ K.on_lines l
            ∙ ap (λ b. cond b (on_line snap.lines l) (on_line snap.lines l ++ before (on_line w.live.lines l))) (sym (shut_other l other))
            ∙ ap (λ ts. cond (is_closed closes l) (on_line snap.lines l) (on_line snap.lines l ++ before ts)) (sym (left_other l other))
            ∙ ap (λ ts. cond (is_closed closes l) ts (ts ++ before (on_line left.lines l))) (sym (cut_other l other))
      ]
        where
          at_line : on_line K.mid.lines line ≡ cond (is_closed closes line) (on_line closes.lines line) (on_line closes.lines line ++ before (on_line left.lines line))
          at_line = K.on_lines line
              ∙ ap (λ b. cond b (on_line snap.lines line) (on_line snap.lines line ++ before (on_line w.live.lines line))) was_open
              ∙ sym cut_here
              ∙ ap (λ b. cond b (on_line closes.lines line) (on_line closes.lines line ++ before (on_line left.lines line))) (sym shut_here)

      close_marks : (l : ℕ) → has_wire w.live.wires l ≡ true
          → markers (on_line left.lines l) ≡ cond (has_recorded snap (owner (length w.live.nodes) l) && not (is_closed closes l)) 1 0
      close_marks l y = elim (cases_eq l line) [
        | inl same ↦ ap (λ k. markers (on_line left.lines k)) same ∙ ap markers left_here ∙ sender_recorded.2 ∙ sym (gone l same)
        | inr other ↦ ap markers (left_other l other) ∙ K.marks l y
            ∙ ap (λ b. cond (has_recorded snap (owner (length w.live.nodes) l) && not b) 1 0) (sym (shut_other l other))
      ]
        where
          none : (b c : Bool) → c ≡ true → ◌≡◌ {A = ℕ} (cond (b && not c) 1 0) 0
          none true c h = ap (λ d. cond (not d) 1 0) h
          none false c h = refl

          gone : (k : ℕ) → k ≡ line → ◌≡◌ {A = ℕ} (cond (has_recorded snap (owner (length w.live.nodes) k) && not (is_closed closes k)) 1 0) 0
          gone k same = none (has_recorded snap (owner (length w.live.nodes) k)) (is_closed closes k) (ap (is_closed closes) same ∙ shut_here)

      close_fresh : (l : ℕ) → has_recorded snap (taker w.live l) ≡ false → (is_closed closes l ≡ false) × (on_line closes.lines l ≡ [])
      close_fresh l n =
          let F = K.fresh l n in
          let other : l ≢ line = λ e. true≢false (sym (ap (λ k. has_recorded snap (taker w.live k)) e ∙ has) ∙ n) in
          (shut_other l other ∙ F.0, cut_other l other ∙ F.1)

      close_after : (l : ℕ) → is_closed closes l ≡ true → has_recorded snap (owner (length w.live.nodes) l) ≡ true
      close_after l y = elim (cases_eq l line) [
        | inl same ↦ ap (λ k. has_recorded snap (owner (length w.live.nodes) k)) same ∙ sender_recorded.0
        | inr other ↦ K.closed_after l (sym (shut_other l other) ∙ y)
      ]

      -- A Marker that is taken keeps what holds while a snapshot runs.
      pub marker_taken : Marking M w.start w.entries left w.frozen closes
      marker_taken = record {
        mid = K.mid;
        consistent = K.consistent;
        order = K.order;
        owns = λ q. K.owns q ∙ ap (λ x. cond (has_recorded snap q) (as_recorded (length w.live.nodes) snap w.frozen q) x) (sym (own-lines w.live (set w.live.lines line rest) q));
        on_lines = close_lines;
        marks = close_marks;
        fresh = close_fresh;
        closed_after = close_after;
        counted = K.counted;
        sized = K.sized;
        cut_lines = length-set snap.lines line (on_line snap.lines line ++ before (on_line w.live.lines line)) ∙ K.cut_lines ∙ sym (length-set w.live.lines line rest);
        cut_closed = length-set snap.closed line true ∙ K.cut_closed ∙ sym (length-set w.live.lines line rest);
        cut_counts = K.cut_counts;
        images = K.images;
      }
