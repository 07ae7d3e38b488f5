-- An entry is journalled while a snapshot runs.
use Rattle.std.proofs.Common.{◌≡◌, ◌≢◌, ℕ, ◌+◌, ◌<◌, ◌≤◌, Bool, true, false, cond, not, ◌⊎◌, inl, inr, List, [], ◌∷◌, ◌++◌, length, refl, sym, ap, subst, ◌∙◌, arith, Option, Some, None, append-nil, append_assoc}
use Rattle.std.specs.Prelude.{◌&&◌, is_some}
use Rattle.tp_law_network.proofs.Lower.{AllByRecursion, cases_Bool, cases_eq, cases_lt, true≢false, false≢true, le-ltb, not-true, cond_both, append_cancel_left, get_or_past, length_push, Token, Entry, Machine, Network, own, put, has_wire, on_line, taken, sent, for_line, process_at, receiver, process, takes, does, next, HasFourLinks, after, Reorder, made, owner, before, markers, plain_network, NeverMarks, Snapshot, MarkedNetwork, count_of, has_recorded, is_closed, taker, collected}
use Rattle.tp_law_network.proofs.Lines.{for_line-elsewhere, on_taken, taken_from, length_taken, on_sent, on_sent_none, length_sent}
use Rattle.tp_law_network.proofs.Local.{Step, SameShape, next_from, takes_same, step_takes, step_sends, step_lines, step_shape, step_own_same, step_own_other}
use Rattle.tp_law_network.proofs.Choice.{made-append, chosen_last_in, chosen_last_out, chosen_passed}
use Rattle.tp_law_network.proofs.Reorder.{after_front, after_last, reorder_trans, reorder_front, reorder_back, reorder_end, move_left}
use Rattle.tp_law_network.proofs.CutsMarks.{before_unmarked, before-append, before-append_marked}
use Rattle.tp_law_network.specs.Invariant.{in_count, in_cut, early, late, as_recorded, Base, Marking}
use Rattle.tp_law_network.proofs.Shape.{live_process, mid_wires, mid_nodes, mid_lines, mid_process, was_line, now_line, takes_unmarked, sends_unmarked, markers_kept, markers_left}

-- ## One line

-- The receiver has recorded: what it takes from an open line was before the Marker, and is now collected.
late_line : (closed wired : Bool) (kept mid live out ms sends : List Token)
    → mid ≡ cond closed kept (kept ++ before live) → live ≡ ms ++ out → markers ms ≡ 0
    → (closed ≡ false → before (out ++ cond wired sends []) ≡ before out)
    → mid ≡ cond closed (kept ++ cond (not closed) ms []) ((kept ++ cond (not closed) ms []) ++ before (out ++ cond wired sends []))
late_line true wired kept mid live out ms sends m l u b = m ∙ sym (append-nil kept)
late_line false wired kept mid live out ms sends m l u b =
    m ∙ ap (λ ts. kept ++ before ts) l ∙ ap (λ ts. kept ++ ts) (before-append ms out u) ∙ sym (append_assoc kept ms (before out)) ∙ ap (λ ts. (kept ++ ms) ++ ts) (sym (b refl))

-- What an unrecorded receiver takes is at the front in the cut, too; what is left there is what is left before the Marker.
rest_line : (closed : Bool) (kept mid rest live out ms : List Token)
    → mid ≡ cond closed kept (kept ++ before live) → live ≡ ms ++ out → mid ≡ ms ++ rest → markers ms ≡ 0
    → (ms ≡ []) ⊎ ((closed ≡ false) × (kept ≡ [])) → rest ≡ cond closed kept (kept ++ before out)
rest_line closed kept mid rest live out ms m l r u one = elim one [
  | inl none ↦ ap (λ ts. ts ++ rest) (sym none) ∙ sym r ∙ m ∙ ap (λ ts. cond closed kept (kept ++ before ts)) (l ∙ ap (λ ts. ts ++ out) none)
  | inr new ↦ append_cancel_left ms rest (cond closed kept (kept ++ before out))
      (sym r ∙ m ∙ plainly new.0 new.1 (before live) ∙ ap before l ∙ before-append ms out u ∙ ap (λ ts. ms ++ ts) (sym (plainly new.0 new.1 (before out))))
]
  where
    plainly : closed ≡ false → kept ≡ [] → (ts : List Token) → cond closed kept (kept ++ ts) ≡ ts
    plainly shut none ts = ap (λ b. cond b kept (kept ++ ts)) shut ∙ ap (λ us. us ++ ts) none

-- What it sends then comes last on both.
early_line : (closed : Bool) (kept rest out sends : List Token) → rest ≡ cond closed kept (kept ++ before out)
    → (closed ≡ true → sends ≡ []) → (closed ≡ false → before (out ++ sends) ≡ before out ++ sends)
    → rest ++ sends ≡ cond closed kept (kept ++ before (out ++ sends))
early_line true kept rest out sends r none b = ap (λ ts. rest ++ ts) (none refl) ∙ append-nil rest ∙ r
early_line false kept rest out sends r none b = ap (λ ts. ts ++ sends) r ∙ append_assoc kept (before out) sends ∙ ap (λ ts. kept ++ ts) (sym (b refl))

-- what comes after a line without Markers
behind_unmarked : (out sends : List Token) → markers out ≡ 0 → markers sends ≡ 0 → before (out ++ sends) ≡ before out ++ sends
behind_unmarked out sends h k = before-append out sends h ∙ ap (λ ts. out ++ ts) (before_unmarked sends k) ∙ ap (λ ts. ts ++ sends) (sym (before_unmarked out h))

behind_none : (out sends : List Token) → sends ≡ [] → before (out ++ sends) ≡ before out ++ sends
behind_none out sends none = ap before (ap (λ ts. out ++ ts) none ∙ append-nil out) ∙ sym (append-nil (before out)) ∙ ap (λ ts. before out ++ ts) (sym none)

-- ## Whether an entry is in the cut

unrecorded_in : (count : Option ℕ) (n : ℕ) → is_some count ≡ false → in_count count n ≡ true
unrecorded_in None n h = refl
unrecorded_in (Some k) n h = cc

recorded_out : (count : Option ℕ) (n : ℕ) → is_some count ≡ true → ((k : ℕ) → count ≡ Some k → k ≤ n) → in_count count n ≡ false
recorded_out None n h most = cc
recorded_out (Some k) n h most = le-ltb n k (most k refl)

-- an entry of a process that hasn't recorded is never out of the cut
out_recorded : (count : Option ℕ) (n : ℕ) → not (in_count count n) ≡ true → is_some count ≡ true
out_recorded None n h = absurd (false≢true h)
out_recorded (Some k) n h = refl

-- an open line is one of the lines
pub open_within : (snap : Snapshot) (l : ℕ) → is_closed snap l ≡ false → l < length snap.closed
open_within snap l h = elim (cases_lt l (length snap.closed)) [
  | inl below ↦ below
  | inr past ↦ absurd (true≢false (sym (get_or_past snap.closed l true past) ∙ h))
]

module _ {Node : Type 0} (M : Machine Node) (four : HasFourLinks M) (never : NeverMarks M) (w : MarkedNetwork Node) (B : Base M w)
    (snap : Snapshot) (K : Marking M w.start w.entries w.live w.frozen snap) (e : Entry) (v : Network Node) (S : Step M w.live e v) where
  -- the process whose entry it is
  abbrev whose : ℕ
  whose = process w.start.wires (length w.start.nodes) e

  shape : SameShape w.live v
  shape = step_shape M four w.live e v S

  whose_live : process w.live.wires (length w.live.nodes) e ≡ whose
  whose_live = ap (λ of. of e) (live_process M four w B)

  taker_now : (l : ℕ) → taker v l ≡ taker w.live l
  taker_now l = ap (λ N. process_at N (receiver v.wires l)) shape.nodes ∙ ap (λ wires. process_at (length w.live.nodes) (receiver wires l)) shape.wires

  -- what it takes comes in to its process, and what it sends goes out from it
  takes_elsewhere : (l : ℕ) → taker w.live l ≢ whose → for_line l (takes w.live.wires (length w.live.nodes) e) ≡ []
  takes_elsewhere l other = for_line-elsewhere (taker w.live) (process w.live.wires (length w.live.nodes) e) l (takes w.live.wires (length w.live.nodes) e) (step_takes M four w.live e v S) (λ h. other (h ∙ whose_live))

  sends_elsewhere : (l : ℕ) → owner (length w.live.nodes) l ≢ whose → for_line l S.sends ≡ []
  sends_elsewhere l other = for_line-elsewhere (owner (length w.live.nodes)) (process w.live.wires (length w.live.nodes) e) l S.sends (step_sends M four w.live e v S) (λ h. other (h ∙ whose_live))

  -- what it sends on a line, if that has a wire
  abbrev goes_out : ℕ → List Token
  goes_out l = cond (has_wire w.live.wires l) (for_line l S.sends) []

  nothing_out : (l : ℕ) → owner (length w.live.nodes) l ≢ whose → goes_out l ≡ []
  nothing_out l other = go (has_wire w.live.wires l)
    where
      go : (b : Bool) → cond b (for_line l S.sends) [] ≡ []
      go true = sends_elsewhere l other
      go false = refl

  -- what both kinds of entry keep
  marks_now : (l : ℕ) → has_wire v.wires l ≡ true → markers (on_line v.lines l) ≡ cond (has_recorded snap (owner (length v.nodes) l) && not (is_closed snap l)) 1 0
  marks_now l y = markers_kept M four w B e v S never l ∙ K.marks l (ap (λ wires. has_wire wires l) (sym shape.wires) ∙ y)
      ∙ ap (λ N. cond (has_recorded snap (owner N l) && not (is_closed snap l)) 1 0) (sym shape.nodes)

  closed_now : (l : ℕ) → is_closed snap l ≡ true → has_recorded snap (owner (length v.nodes) l) ≡ true
  closed_now l y = ap (λ N. has_recorded snap (owner N l)) shape.nodes ∙ K.closed_after l y

  counted_now : (p k : ℕ) → count_of snap p ≡ Some k → k ≤ made (process w.start.wires (length w.start.nodes)) p (w.entries ++ e ∷ [])
  counted_now p k h = let most = K.counted p k h in omega (arith, made-append (process w.start.wires (length w.start.nodes)) p w.entries (e ∷ []))

  -- ## The process has recorded

  module _ (has : has_recorded snap whose ≡ true) where
    abbrev collects : Snapshot
    collects = record snap { lines = sent (λ l. not (is_closed snap l)) snap.lines (takes w.live.wires (length w.live.nodes) e) }

    late_out : in_cut snap whose (0 + made (process w.start.wires (length w.start.nodes)) whose w.entries) ≡ false
    late_out = recorded_out (count_of snap whose) (0 + made (process w.start.wires (length w.start.nodes)) whose w.entries) has (λ k h. let most = K.counted whose k h in omega arith)

    late_early : early (process w.start.wires (length w.start.nodes)) collects (w.entries ++ e ∷ []) ≡ early (process w.start.wires (length w.start.nodes)) snap w.entries
    late_early = chosen_last_out (process w.start.wires (length w.start.nodes)) (in_cut snap) (λ p. 0) w.entries e late_out

    late_late : late (process w.start.wires (length w.start.nodes)) collects (w.entries ++ e ∷ []) ≡ late (process w.start.wires (length w.start.nodes)) snap w.entries ++ e ∷ []
    late_late = chosen_last_in (process w.start.wires (length w.start.nodes)) (λ p n. not (in_cut snap p n)) (λ p. 0) w.entries e (ap not late_out)

    late_order : Reorder M w.start (w.entries ++ e ∷ []) (early (process w.start.wires (length w.start.nodes)) collects (w.entries ++ e ∷ []) ++ late (process w.start.wires (length w.start.nodes)) collects (w.entries ++ e ∷ []))
    late_order =
        subst (λ es. Reorder M w.start (w.entries ++ e ∷ []) es)
        (append_assoc (early (process w.start.wires (length w.start.nodes)) snap w.entries) (late (process w.start.wires (length w.start.nodes)) snap w.entries) (e ∷ [])
        ∙ ap (λ es. early (process w.start.wires (length w.start.nodes)) snap w.entries ++ es) (sym late_late)
        ∙ ap (λ es. es ++ late (process w.start.wires (length w.start.nodes)) collects (w.entries ++ e ∷ [])) (sym late_early))
        (reorder_back M w.start w.entries (early (process w.start.wires (length w.start.nodes)) snap w.entries ++ late (process w.start.wires (length w.start.nodes)) snap w.entries) (e ∷ []) K.order)

    -- one that hasn't recorded is another process
    late_other : (q : ℕ) → has_recorded snap q ≡ false → q ≢ whose
    late_other q n h = true≢false (sym (ap (has_recorded snap) h ∙ has) ∙ n)

    late_owns : (q : ℕ) → own K.mid q ≡ cond (has_recorded snap q) (as_recorded (length v.nodes) collects w.frozen q) (own v q)
    late_owns q = K.owns q ∙ ap (λ N. cond (has_recorded snap q) (as_recorded N snap w.frozen q) (own w.live q)) (sym shape.nodes)
        ∙ go (has_recorded snap q) (λ n. sym (step_own_other M four w.live e v S q (λ h. late_other q n (h ∙ whose_live))))
      where
        go : (b : Bool) → (b ≡ false → own w.live q ≡ own v q)
            → cond b (as_recorded (length v.nodes) snap w.frozen q) (own w.live q) ≡ cond b (as_recorded (length v.nodes) snap w.frozen q) (own v q)
        go true h = refl
        go false h = h refl

    -- what it sends on an open line comes after the Marker
    late_behind : (l : ℕ) → is_closed snap l ≡ false → before (on_line S.out l ++ goes_out l) ≡ before (on_line S.out l)
    late_behind l n = elim (cases_eq (owner (length w.live.nodes) l) whose) [
      | inl same ↦ elim (cases_Bool (has_wire w.live.wires l)) [
        | inl y ↦ before-append_marked (on_line S.out l) (goes_out l) (omega (arith, markers_left M four w B e v S never l, K.marks l y ∙ one l same n))
        | inr no_wire ↦ ap (λ b. before (on_line S.out l ++ cond b (for_line l S.sends) [])) no_wire ∙ ap before (append-nil (on_line S.out l))
      ]
      | inr other ↦ ap (λ ts. before (on_line S.out l ++ ts)) (nothing_out l other) ∙ ap before (append-nil (on_line S.out l))
    ]
      where
        one : (k : ℕ) → owner (length w.live.nodes) k ≡ whose → is_closed snap k ≡ false → ◌≡◌ {A = ℕ} (cond (has_recorded snap (owner (length w.live.nodes) k) && not (is_closed snap k)) 1 0) 1
        one k same shut = rw (same, has, shut)

    late_collected : (l : ℕ) → on_line collects.lines l ≡ on_line snap.lines l ++ cond (not (is_closed snap l)) (for_line l (takes w.live.wires (length w.live.nodes) e)) []
    late_collected l = on_sent (λ k. not (is_closed snap k)) snap.lines (takes w.live.wires (length w.live.nodes) e) l (λ open_here. there (not-true (is_closed snap l) open_here))
      where
        there : is_closed snap l ≡ false → l < length snap.lines
        there shut = subst (λ n. l < n) (K.cut_closed ∙ sym K.cut_lines) (open_within snap l shut)

    late_lines : (l : ℕ) → on_line K.mid.lines l ≡ cond (is_closed snap l) (on_line collects.lines l) (on_line collects.lines l ++ before (on_line v.lines l))
    late_lines l =
        late_line (is_closed snap l) (has_wire w.live.wires l) (on_line snap.lines l) (on_line K.mid.lines l) (on_line w.live.lines l) (on_line S.out l) (for_line l (takes w.live.wires (length w.live.nodes) e)) (for_line l S.sends)
        (K.on_lines l) (was_line M four w B e v S l) (takes_unmarked M four w B e v S never l) (late_behind l)
        ∙ ap (λ ts. cond (is_closed snap l) ts (ts ++ before (on_line S.out l ++ goes_out l))) (sym (late_collected l))
        ∙ ap (λ ts. cond (is_closed snap l) (on_line collects.lines l) (on_line collects.lines l ++ before ts)) (sym (now_line M four w B e v S l))

    late_fresh : (l : ℕ) → has_recorded snap (taker v l) ≡ false → (is_closed snap l ≡ false) × (on_line collects.lines l ≡ [])
    late_fresh l n =
        let was : has_recorded snap (taker w.live l) ≡ false = ap (has_recorded snap) (sym (taker_now l)) ∙ n in
        let F = K.fresh l was in (
          F.0,
          on_sent_none (λ k. not (is_closed snap k)) snap.lines (takes w.live.wires (length w.live.nodes) e) l (takes_elsewhere l (late_other (taker w.live l) was)) ∙ F.1,
        )

    -- The cut so far stays, and what the entry takes is in it.
    journal_late : Marking M w.start (w.entries ++ e ∷ []) v w.frozen collects
    journal_late = record {
      mid = K.mid;
      consistent = ap (after M w.start) late_early ∙ K.consistent;
      order = late_order;
      owns = late_owns;
      on_lines = late_lines;
      marks = marks_now;
      fresh = late_fresh;
      closed_after = closed_now;
      counted = counted_now;
      sized = K.sized ∙ ap length (sym late_early);
      cut_lines = length_sent (λ l. not (is_closed snap l)) snap.lines (takes w.live.wires (length w.live.nodes) e) ∙ K.cut_lines ∙ sym shape.lines;
      cut_closed = K.cut_closed ∙ sym shape.lines;
      cut_counts = K.cut_counts ∙ ap (λ n. n + 1) (sym shape.nodes);
      images = K.images ∙ sym shape.nodes;
    }

  -- ## The process hasn't recorded

  module _ (has : has_recorded snap whose ≡ false) where
    abbrev counts : Snapshot
    counts = record snap { size = snap.size + 1 }

    whose_mid : process K.mid.wires (length K.mid.nodes) e ≡ whose
    whose_mid = ap (λ of. of e) (mid_process M four w B snap K)

    -- a line of its own was never taken from since the snapshot began
    untouched : (l : ℕ) → taker w.live l ≡ whose → (is_closed snap l ≡ false) × (on_line snap.lines l ≡ [])
    untouched l same = K.fresh l (ap (has_recorded snap) same ∙ has)

    -- what it takes is at the front in the cut, too
    mid_front : (l : ℕ) → (rest : List Token) × (on_line K.mid.lines l ≡ for_line l (takes w.live.wires (length w.live.nodes) e) ++ rest)
    mid_front l = elim (cases_eq (taker w.live l) whose) [
      | inl same ↦ (
        before (on_line S.out l),
        K.on_lines l
            ∙ ap (λ b. cond b (on_line snap.lines l) (on_line snap.lines l ++ before (on_line w.live.lines l))) (untouched l same).0
            ∙ ap (λ ts. ts ++ before (on_line w.live.lines l)) (untouched l same).1
            ∙ ap before (was_line M four w B e v S l)
            ∙ before-append (for_line l (takes w.live.wires (length w.live.nodes) e)) (on_line S.out l) (takes_unmarked M four w B e v S never l),
      )
      | inr other ↦ (on_line K.mid.lines l, ap (λ ts. ts ++ on_line K.mid.lines l) (sym (takes_elsewhere l other)))
    ]

    mid_out : (out : List (List Token)) × (taken K.mid.lines (takes w.live.wires (length w.live.nodes) e) ≡ Some out)
    mid_out = taken_from K.mid.lines (takes w.live.wires (length w.live.nodes) e) mid_front

    -- the cut's network makes the entry too
    mid_next : Network Node
    mid_next = put (record K.mid { lines = sent (has_wire K.mid.wires) mid_out.0 S.sends }) (process K.mid.wires (length K.mid.nodes) e) S.now

    mid_step : Step M K.mid e mid_next
    unfolding mid_next
    mid_step = record {
      out = mid_out.0;
      takes_out = ap (λ ms. taken K.mid.lines ms) (takes_same w.live K.mid (mid_wires M four w B snap K) (mid_nodes M four w B snap K) e) ∙ mid_out.1;
      was = S.was;
      own_was = ap (own K.mid) whose_mid ∙ K.owns whose
          ∙ ap (λ b. cond b (as_recorded (length w.live.nodes) snap w.frozen whose) (own w.live whose)) has
          ∙ ap (own w.live) (sym whose_live) ∙ S.own_was;
      now = S.now;
      sends = S.sends;
      change = ap (λ wires. does M wires (length K.mid.nodes) e S.was) (mid_wires M four w B snap K)
          ∙ ap (λ N. does M w.live.wires N e S.was) (mid_nodes M four w B snap K) ∙ S.change;
      makes = refl;
    }

    mid_possible : next M K.mid e ≡ Some mid_next
    mid_possible = next_from M K.mid e mid_next mid_step

    mid_line : (l : ℕ) → on_line mid_next.lines l ≡ on_line mid_out.0 l ++ goes_out l
    unfolding mid_step
    mid_line l = ap (λ lines. on_line lines l) (step_lines M four K.mid e mid_next mid_step)
        ∙ on_sent (has_wire K.mid.wires) mid_out.0 S.sends l there
        ∙ ap (λ wires. on_line mid_out.0 l ++ cond (has_wire wires l) (for_line l S.sends) []) (mid_wires M four w B snap K)
      where
        there : has_wire K.mid.wires l ≡ true → l < length mid_out.0
        there y =
            subst (λ n. l < n) (sym (length_taken K.mid.lines (takes w.live.wires (length w.live.nodes) e) mid_out.0 mid_out.1 ∙ mid_lines M four w B snap K))
            (B.wired l (ap (λ wires. has_wire wires l) (sym (mid_wires M four w B snap K)) ∙ y))

    -- no Marker comes before what it sends
    early_behind : (l : ℕ) → before (on_line S.out l ++ goes_out l) ≡ before (on_line S.out l) ++ goes_out l
    early_behind l = elim (cases_eq (owner (length w.live.nodes) l) whose) [
      | inl same ↦ elim (cases_Bool (has_wire w.live.wires l)) [
        | inl y ↦ behind_unmarked (on_line S.out l) (goes_out l) (markers_left M four w B e v S never l ∙ K.marks l y ∙ zero_at l same) (sends_unmarked M four w B e v S never l)
        | inr no_wire ↦ behind_none (on_line S.out l) (goes_out l) (ap (λ b. cond b (for_line l S.sends) []) no_wire)
      ]
      | inr other ↦ behind_none (on_line S.out l) (goes_out l) (nothing_out l other)
    ]
      where
        zero_at : (k : ℕ) → owner (length w.live.nodes) k ≡ whose → ◌≡◌ {A = ℕ} (cond (has_recorded snap (owner (length w.live.nodes) k) && not (is_closed snap k)) 1 0) 0
        zero_at k same = rw (same, has)

    -- nor does it send on a closed line, whose sender has recorded
    early_shut : (l : ℕ) → is_closed snap l ≡ true → goes_out l ≡ []
    early_shut l y = nothing_out l (λ same. true≢false (sym (K.closed_after l y) ∙ ap (has_recorded snap) same ∙ has))

    early_lines : (l : ℕ) → on_line mid_next.lines l ≡ cond (is_closed snap l) (on_line snap.lines l) (on_line snap.lines l ++ before (on_line v.lines l))
    early_lines l =
        mid_line l
        ∙ early_line (is_closed snap l) (on_line snap.lines l) (on_line mid_out.0 l) (on_line S.out l) (goes_out l)
        (rest_line (is_closed snap l) (on_line snap.lines l) (on_line K.mid.lines l) (on_line mid_out.0 l) (on_line w.live.lines l) (on_line S.out l) (for_line l (takes w.live.wires (length w.live.nodes) e))
        (K.on_lines l) (was_line M four w B e v S l) (on_taken K.mid.lines (takes w.live.wires (length w.live.nodes) e) mid_out.0 mid_out.1 l) (takes_unmarked M four w B e v S never l) one)
        (early_shut l) (λ shut. early_behind l)
        ∙ ap (λ ts. cond (is_closed snap l) (on_line snap.lines l) (on_line snap.lines l ++ before ts)) (sym (now_line M four w B e v S l))
      where
        one : (for_line l (takes w.live.wires (length w.live.nodes) e) ≡ []) ⊎ ((is_closed snap l ≡ false) × (on_line snap.lines l ≡ []))
        one = elim (cases_eq (taker w.live l) whose) [
          | inl same ↦ inr (untouched l same)
          | inr other ↦ inl (takes_elsewhere l other)
        ]

    early_owns : (q : ℕ) → own mid_next q ≡ cond (has_recorded snap q) (as_recorded (length v.nodes) counts w.frozen q) (own v q)
    unfolding mid_step
    early_owns q = elim (cases_eq q whose) [
      | inl same ↦ ap (own mid_next) (same ∙ sym whose_mid) ∙ step_own_same M four K.mid e mid_next mid_step
          ∙ sym (ap (own v) (same ∙ sym whose_live) ∙ step_own_same M four w.live e v S)
          ∙ ap (λ b. cond b (as_recorded (length v.nodes) counts w.frozen q) (own v q)) (sym (ap (has_recorded snap) same ∙ has))
      | inr other ↦ step_own_other M four K.mid e mid_next mid_step q (λ h. other (h ∙ whose_mid))
          ∙ K.owns q
          ∙ ap (λ N. cond (has_recorded snap q) (as_recorded N snap w.frozen q) (own w.live q)) (sym shape.nodes)
          ∙ ap (λ x. cond (has_recorded snap q) (as_recorded (length v.nodes) snap w.frozen q) x) (sym (step_own_other M four w.live e v S q (λ h. other (h ∙ whose_live))))
    ]

    early_in : in_cut snap whose (0 + made (process w.start.wires (length w.start.nodes)) whose w.entries) ≡ true
    early_in = unrecorded_in (count_of snap whose) (0 + made (process w.start.wires (length w.start.nodes)) whose w.entries) has

    early_early : early (process w.start.wires (length w.start.nodes)) counts (w.entries ++ e ∷ []) ≡ early (process w.start.wires (length w.start.nodes)) snap w.entries ++ e ∷ []
    early_early = chosen_last_in (process w.start.wires (length w.start.nodes)) (in_cut snap) (λ p. 0) w.entries e early_in

    early_late : late (process w.start.wires (length w.start.nodes)) counts (w.entries ++ e ∷ []) ≡ late (process w.start.wires (length w.start.nodes)) snap w.entries
    early_late = chosen_last_out (process w.start.wires (length w.start.nodes)) (λ p n. not (in_cut snap p n)) (λ p. 0) w.entries e (ap not early_in)

    -- the entries outside the cut are of other processes, and are possible from the cut's network on
    early_apart : AllByRecursion (λ f. process K.mid.wires (length K.mid.nodes) f ≢ process K.mid.wires (length K.mid.nodes) e) (late (process w.start.wires (length w.start.nodes)) snap w.entries)
    early_apart =
        subst (λ of. AllByRecursion (λ f. of f ≢ of e) (late (process w.start.wires (length w.start.nodes)) snap w.entries)) (sym (mid_process M four w B snap K))
        (chosen_passed (λ q. q ≢ whose) (process w.start.wires (length w.start.nodes)) (λ p n. not (in_cut snap p n)) (λ p. 0) w.entries apart)
      where
        apart : (p n : ℕ) → not (in_cut snap p n) ≡ true → p ≢ whose
        apart p n h same = true≢false (sym (out_recorded (count_of snap p) n h) ∙ ap (has_recorded snap) same ∙ has)

    rest_possible : after M K.mid (late (process w.start.wires (length w.start.nodes)) snap w.entries) ≡ Some (plain_network w.live)
    rest_possible =
        sym (after_front M w.start K.mid (early (process w.start.wires (length w.start.nodes)) snap w.entries) (late (process w.start.wires (length w.start.nodes)) snap w.entries) K.consistent)
        ∙ sym (reorder_end M four w.start w.entries (early (process w.start.wires (length w.start.nodes)) snap w.entries ++ late (process w.start.wires (length w.start.nodes)) snap w.entries) K.order)
        ∙ B.now

    early_order : Reorder M w.start (w.entries ++ e ∷ []) (early (process w.start.wires (length w.start.nodes)) counts (w.entries ++ e ∷ []) ++ late (process w.start.wires (length w.start.nodes)) counts (w.entries ++ e ∷ []))
    early_order = go (early (process w.start.wires (length w.start.nodes)) snap w.entries) (late (process w.start.wires (length w.start.nodes)) snap w.entries) early_early early_late K.consistent K.order rest_possible early_apart
      where
        go : (es ls : List Entry) → early (process w.start.wires (length w.start.nodes)) counts (w.entries ++ e ∷ []) ≡ es ++ e ∷ [] → late (process w.start.wires (length w.start.nodes)) counts (w.entries ++ e ∷ []) ≡ ls
            → after M w.start es ≡ Some K.mid → Reorder M w.start w.entries (es ++ ls) → after M K.mid ls ≡ Some (plain_network w.live)
            → AllByRecursion (λ f. process K.mid.wires (length K.mid.nodes) f ≢ process K.mid.wires (length K.mid.nodes) e) ls
            → Reorder M w.start (w.entries ++ e ∷ []) (early (process w.start.wires (length w.start.nodes)) counts (w.entries ++ e ∷ []) ++ late (process w.start.wires (length w.start.nodes)) counts (w.entries ++ e ∷ []))
        go es ls is_early is_late leads order rest apart =
            subst (λ xs. Reorder M w.start (w.entries ++ e ∷ []) xs)
            (sym (append_assoc es (e ∷ []) ls) ∙ ap (λ xs. xs ++ ls) (sym is_early) ∙ ap (λ xs. early (process w.start.wires (length w.start.nodes)) counts (w.entries ++ e ∷ []) ++ xs) (sym is_late))
            (reorder_trans M w.start (w.entries ++ e ∷ []) (es ++ (ls ++ e ∷ [])) (es ++ e ∷ ls)
            (subst (λ xs. Reorder M w.start (w.entries ++ e ∷ []) xs) (append_assoc es ls (e ∷ [])) (reorder_back M w.start w.entries (es ++ ls) (e ∷ []) order))
            (reorder_front M w.start K.mid es (ls ++ e ∷ []) (e ∷ ls) leads
            (move_left M four K.mid mid_next (plain_network w.live) ls e rest mid_possible apart)))

    early_fresh : (l : ℕ) → has_recorded snap (taker v l) ≡ false → (is_closed snap l ≡ false) × (on_line snap.lines l ≡ [])
    early_fresh l n = K.fresh l (ap (has_recorded snap) (sym (taker_now l)) ∙ n)

    -- The entry is in the cut, which makes it, too, and goes before all that are outside.
    journal_early : Marking M w.start (w.entries ++ e ∷ []) v w.frozen counts
    journal_early = record {
      mid = mid_next;
      consistent = ap (after M w.start) early_early ∙ after_last M w.start K.mid (early (process w.start.wires (length w.start.nodes)) snap w.entries) e K.consistent ∙ mid_possible;
      order = early_order;
      owns = early_owns;
      on_lines = early_lines;
      marks = marks_now;
      fresh = early_fresh;
      closed_after = closed_now;
      counted = counted_now;
      sized = ap (λ n. n + 1) K.sized ∙ sym (length_push (early (process w.start.wires (length w.start.nodes)) snap w.entries) e) ∙ ap length (sym early_early);
      cut_lines = K.cut_lines ∙ sym shape.lines;
      cut_closed = K.cut_closed ∙ sym shape.lines;
      cut_counts = K.cut_counts ∙ ap (λ n. n + 1) (sym shape.nodes);
      images = K.images ∙ sym shape.nodes;
    }

  -- An entry that is journalled while a snapshot runs keeps what holds.
  pub entry_journalled : Marking M w.start (w.entries ++ e ∷ []) v w.frozen (collected whose (takes w.live.wires (length w.live.nodes) e) snap)
  entry_journalled =
      cond_both (has_recorded snap whose) (record snap { lines = sent (λ l. not (is_closed snap l)) snap.lines (takes w.live.wires (length w.live.nodes) e) }) (record snap { size = snap.size + 1 })
      (λ after. Marking M w.start (w.entries ++ e ∷ []) v w.frozen after) journal_late journal_early
