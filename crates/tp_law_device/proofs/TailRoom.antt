-- The tail of a whole cut finds room.
use Rattle.std.proofs.Common.{◌≡◌, ℕ, zero, suc, ◌+◌, ◌*◌, ◌<◌, ◌≤◌, inl, inr, false, not, List, [], ◌∷◌, ◌++◌, length, get_or, set, refl, sym, ap, subst, ◌∙◌, arith, length-append, Option, Some, None, get_or-set_same, get_or-set_other}
use Rattle.std.specs.Prelude.{replicate, is_some}
use Rattle.tp_law_device.proofs.Lower.{true≢false, cond_both, cases_lt, cases_eq, get_or_append_left, get_or_at, get_or_past, length-replicate, Token, Machine, Port, on_line, sent, process, HasFourLinks, made, post, before, plain_network, Snapshot, MarkedNetwork, count_of, has_recorded, is_closed, collected, with_count, closed_over, first_snapshot, WholeCut, count_in, whole, trimmed, Act, Begin, Record, Journal, Close, Trim, happens, entry_room, is_trim, length-pre-post, post_all, after_shape, CutInvariant, all_counts, begin_parts, record_parts, close_parts, journal_parts, made_past, whole_counts, HasTailRoom, FindsRoom}

get_or-none : (n p : ℕ) → p < n → get_or (replicate {A = Option ℕ} n None) p (Some 0) ≡ None
get_or-none zero p low = absurd (omega (arith, low))
get_or-none (suc n) zero low = refl
get_or-none (suc n) (suc p) low = get_or-none n p (omega (arith, low))

-- a snapshot that begins
begun_early : (N lines hosts size : ℕ) (ports : List Port) (own : ℕ → ℕ) → own N ≡ hosts → ((p : ℕ) → N < p → own p ≡ 0) → (p count : ℕ)
    → count_of (first_snapshot N lines hosts ports size) p ≡ Some count → own p ≤ count
begun_early N lines hosts size ports own host past p count is = elim (cases_lt p N) [
  | inl low ↦
      let none = get_or_append_left (replicate N None) (Some hosts ∷ []) (Some 0) p (subst (λ n. p < n) (sym (length-replicate N None)) low) ∙ get_or-none N p low in
      absurd (let both = sym none ∙ is in cc)
  | inr high ↦ elim (cases_eq p N) [
    | inl same ↦
        let here = get_or_at (replicate N None) (Some hosts) [] (Some 0) N (length-replicate N None) in
        let at : Some hosts ≡ Some count = sym here ∙ ap (λ q. get_or (replicate N None ++ Some hosts ∷ []) q (Some 0)) (sym same) ∙ is in
        let count_is : hosts ≡ count = cc in
        omega (arith, ap own same, host, count_is)
    | inr other ↦ omega (arith, past p (omega (arith, high, other)))
  ]
]

-- collecting an entry leaves the counts
pub same_counts : (p : ℕ) (ms : List (ℕ × Token)) (snap : Snapshot) → (collected p ms snap).counts ≡ snap.counts
same_counts p ms snap =
    cond_both (has_recorded snap p) (record snap { lines = sent (λ l. not (is_closed snap l)) snap.lines ms }) (record snap { size = snap.size + 1 })
    (λ after. after.counts ≡ snap.counts) (λ _. refl) (λ _. refl)

-- one process more recorded, after all its entries
recorded_early : (counts : List (Option ℕ)) (i : ℕ) (own : ℕ → ℕ) → is_some (get_or counts i (Some 0)) ≡ false → ((p count : ℕ) → get_or counts p (Some 0) ≡ Some count → own p ≤ count)
    → (p count : ℕ) → get_or (set counts i (Some (own i))) p (Some 0) ≡ Some count → own p ≤ count
recorded_early counts i own new early p count is = elim (cases_eq p i) [
  | inr other ↦ early p count (sym (get_or-set_other counts i p (Some (own i)) (Some 0) other) ∙ is)
  | inl same ↦ elim (cases_lt i (length counts)) [
    | inl low ↦
        let here = get_or-set_same counts i (Some (own i)) (Some 0) low in
        let at : Some (own i) ≡ Some count = sym here ∙ ap (λ q. get_or (set counts i (Some (own i))) q (Some 0)) (sym same) ∙ is in
        let count_is : own i ≡ count = cc in
        omega (arith, ap own same, count_is)
    | inr past ↦ absurd (true≢false (sym (ap is_some (get_or_past counts i (Some 0) past)) ∙ new))
  ]
]

module _ {Node : Type 0} (M : Machine Node) (four : HasFourLinks M) (most : ℕ) where
  pub tail_room_stays : (w v : MarkedNetwork Node) (act : Act) → is_trim act ≡ false → CutInvariant M w → happens M w act ≡ Some v → FindsRoom most w act → HasTailRoom most w → HasTailRoom most v
  unfolding happens
  tail_room_stays w v Begin t H e found (inl few) = let P = begin_parts w v w.snapshot e in subst (HasTailRoom most) P.1 (inl few)
  tail_room_stays w v Begin t H e found (inr early) =
      let P = begin_parts w v w.snapshot e in
      let shape = after_shape M four w.start (plain_network w.live) w.entries H.base.now in
      let N = length w.live.nodes in
      subst (HasTailRoom most) P.1 (inr (record {
        early = λ snap is p count counted.
            let first = first_snapshot N (length w.live.lines) (made (process w.start.wires (length w.start.nodes)) N w.entries) w.live.ports (length w.entries) in
            let same : first ≡ snap = cc in
            begun_early N (length w.live.lines) (made (process w.start.wires (length w.start.nodes)) N w.entries) (length w.entries) w.live.ports (λ q. made (process w.start.wires (length w.start.nodes)) q w.entries) refl
            (λ q past. made_past M four w.start (plain_network w.live) w.entries H.base.now q (omega (arith, past, shape.nodes))) p count (ap (λ s. count_of s p) same ∙ counted);
      }))
  tail_room_stays w v (Record i) t H e found (inl few) = let P = record_parts w v w.snapshot i e in subst (HasTailRoom most) P.4 (inl few)
  tail_room_stays w v (Record i) t H e found (inr all) =
      let P = record_parts w v w.snapshot i e in
      subst (HasTailRoom most) P.4 (inr (record {
        early = λ snap is p count counted.
            let same : with_count P.0 i (made (process w.start.wires (length w.start.nodes)) i w.entries) ≡ snap = cc in
            recorded_early P.0.counts i (λ q. made (process w.start.wires (length w.start.nodes)) q w.entries) P.3 (all.early P.0 P.1) p count (ap (λ s. count_of s p) same ∙ counted);
      }))
  tail_room_stays w v (Journal entry) t H e found fits = let P = journal_parts w v M entry e in subst (HasTailRoom most) P.2 (inl (omega (arith, found, length-append w.entries (entry ∷ []))))
  tail_room_stays w v (Close line) t H e found (inl few) = let P = close_parts w v w.snapshot line e in subst (HasTailRoom most) P.4 (inl few)
  tail_room_stays w v (Close line) t H e found (inr all) =
      let P = close_parts w v w.snapshot line e in
      subst (HasTailRoom most) P.4 (inr (record {
        early = λ snap is p count counted.
            let same : closed_over P.0 line (before (on_line w.live.lines line)) ≡ snap = cc in
            all.early P.0 P.1 p count (ap (λ s. count_of s p) same ∙ counted);
      }))
  tail_room_stays w v Trim t H e found fits = absurd (true≢false t)

  -- the entries outside a whole cut find room
  pub tail_room : (w : MarkedNetwork Node) (cut : WholeCut) → whole w ≡ Some cut → HasTailRoom most w → entry_room * length (post (process w.start.wires (length w.start.nodes)) (count_in cut) w.entries) ≤ most
  tail_room w cut is (inl few) = omega (arith, few, length-pre-post (process w.start.wires (length w.start.nodes)) (count_in cut) w.entries)
  tail_room w cut is (inr all) =
      let C = whole_counts w cut is in
      let none : post (process w.start.wires (length w.start.nodes)) (count_in cut) w.entries ≡ [] =
      post_all (process w.start.wires (length w.start.nodes)) (count_in cut) w.entries (λ p. all.early C.snap C.runs p (get_or cut.counts p 0) (all_counts C.snap.counts cut.counts C.recorded p)) in
      omega (arith, ap length none)

  pub tail_room_trim : (w : MarkedNetwork Node) (cut : WholeCut) (nodes : List Node) → whole w ≡ Some cut → HasTailRoom most w → HasTailRoom most (trimmed w cut nodes)
  tail_room_trim w cut nodes is fits = inl (tail_room w cut is fits)

  -- a book that was opened, however many entries it has
  pub tail_room_opened : (w : MarkedNetwork Node) → w.snapshot ≡ None → HasTailRoom most w
  tail_room_opened w idle = inr (record { early = λ snap is. absurd (let both = sym idle ∙ is in cc) })
