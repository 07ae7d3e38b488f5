-- What stays until the trim.
use Rattle.std.proofs.Common.{◌≡◌, ℕ, ◌+◌, true, false, cond, not, inl, inr, List, length, refl, sym, ap, subst, ◌∙◌, Option, Some, None}
use Rattle.std.specs.Prelude.{is_some}
use Rattle.tp_law_network.proofs.Lower.{option_map, cases_Bool, true≢false, cond_both, Token, Entry, Machine, Network, has_wire, on_line, sent, process, takes, HasFourLinks, before, Snapshot, MarkedNetwork, has_recorded, is_closed, collected, journalled, closed_over, WholeCut, all_some, all_closed, whole, Act, Begin, Record, Journal, Close, Trim, happens, grown, is_trim, HasCut}
use Rattle.tp_law_network.proofs.Lines.{same_lines, length_sent, on_sent_shut, on_sent_none}
use Rattle.tp_law_network.proofs.Local.{Step, SameShape, step_of, step_shape}
use Rattle.tp_law_network.specs.Invariant.{CutInvariant}
use Rattle.tp_law_network.proofs.Shape.{out_unwired}
use Rattle.tp_law_network.proofs.Close.{marker_wired, was_open}
use Rattle.tp_law_network.proofs.Whole.{WholeParts, whole_parts, whole_from, parts_recorded, all_counts, all_closed_at, running}
use Rattle.tp_law_network.proofs.Acts.{begin_parts, record_parts, close_parts, journal_parts}

-- ## The kept cut, and the entries

-- where the book starts stays
pub start_stays : {Node : Type 0} (M : Machine Node) (w v : MarkedNetwork Node) (act : Act) → is_trim act ≡ false → happens M w act ≡ Some v → v.start ≡ w.start
unfolding happens
start_stays M w v Begin t e = let P = begin_parts w v w.snapshot e in ap (λ u. u.start) (sym P.1)
start_stays M w v (Record i) t e = let P = record_parts w v w.snapshot i e in ap (λ u. u.start) (sym P.4)
start_stays M w v (Journal entry) t e = let P = journal_parts w v M entry e in ap (λ u. u.start) (sym P.2)
start_stays M w v (Close line) t e = let P = close_parts w v w.snapshot line e in ap (λ u. u.start) (sym P.4)
start_stays M w v Trim t e = absurd (true≢false t)

-- the entries grow by what is journalled
pub entries_grow : {Node : Type 0} (M : Machine Node) (w v : MarkedNetwork Node) (act : Act) → is_trim act ≡ false → happens M w act ≡ Some v → v.entries ≡ grown act w.entries
unfolding happens
entries_grow M w v Begin t e = let P = begin_parts w v w.snapshot e in ap (λ u. u.entries) (sym P.1)
entries_grow M w v (Record i) t e = let P = record_parts w v w.snapshot i e in ap (λ u. u.entries) (sym P.4)
entries_grow M w v (Journal entry) t e = let P = journal_parts w v M entry e in ap (λ u. u.entries) (sym P.2)
entries_grow M w v (Close line) t e = let P = close_parts w v w.snapshot line e in ap (λ u. u.entries) (sym P.4)
entries_grow M w v Trim t e = absurd (true≢false t)

-- ## The counts, once all have recorded

-- a snapshot runs in which all have recorded, after a number of entries of each
pub record HasCounts (given : Option Snapshot) (counts : List ℕ) : Type 0 where
  pub snap : Snapshot
  pub runs : given ≡ Some snap
  pub recorded : all_some snap.counts ≡ Some counts

collected-counts : (p : ℕ) (ms : List (ℕ × Token)) (snap : Snapshot) → (collected p ms snap).counts ≡ snap.counts
collected-counts p ms snap =
    cond_both (has_recorded snap p) (record snap { lines = sent (λ l. not (is_closed snap l)) snap.lines ms }) (record snap { size = snap.size + 1 })
    (λ after. after.counts ≡ snap.counts) (λ _. refl) (λ _. refl)

counts_recorded : (given : Option Snapshot) (counts : List ℕ) → HasCounts given counts → (snap : Snapshot) → given ≡ Some snap → (p : ℕ) → has_recorded snap p ≡ true
counts_recorded given counts C snap runs p =
    let alike : Some C.snap ≡ Some snap = sym C.runs ∙ runs in
    let is : C.snap ≡ snap = cc in
    ap (λ s. has_recorded s p) (sym is) ∙ ap is_some (all_counts C.snap.counts counts C.recorded p)

not_idle : (given : Option Snapshot) (counts : List ℕ) → HasCounts given counts → given ≡ None → ⊥
not_idle given counts C idle = let alike : Some C.snap ≡ None = sym C.runs ∙ idle in cc

-- the counts stay
pub counts_stay : {Node : Type 0} (M : Machine Node) (w v : MarkedNetwork Node) (act : Act) → is_trim act ≡ false → happens M w act ≡ Some v
    → (counts : List ℕ) → HasCounts w.snapshot counts → HasCounts v.snapshot counts
unfolding happens
counts_stay M w v Begin t e counts C = absurd (not_idle w.snapshot counts C (begin_parts w v w.snapshot e).0)
counts_stay M w v (Record i) t e counts C =
    let P = record_parts w v w.snapshot i e in
    absurd (true≢false (sym (counts_recorded w.snapshot counts C P.0 P.1 i) ∙ P.3))
counts_stay M w v (Journal entry) t e counts C =
    let P = journal_parts w v M entry e in
    subst (λ u. HasCounts u.snapshot counts) P.2 (record {
      snap = collected (process w.start.wires (length w.start.nodes) entry) (takes w.live.wires (length w.live.nodes) entry) C.snap;
      runs = ap (option_map (collected (process w.start.wires (length w.start.nodes) entry) (takes w.live.wires (length w.live.nodes) entry))) C.runs;
      recorded = ap all_some (collected-counts (process w.start.wires (length w.start.nodes) entry) (takes w.live.wires (length w.live.nodes) entry) C.snap) ∙ C.recorded;
    })
counts_stay M w v (Close line) t e counts C =
    let P = close_parts w v w.snapshot line e in
    let alike : Some C.snap ≡ Some P.0 = sym C.runs ∙ P.1 in
    let is : C.snap ≡ P.0 = cc in
    subst (λ u. HasCounts u.snapshot counts) P.4 (record { snap = closed_over P.0 line (before (on_line w.live.lines line)); runs = refl; recorded = ap (λ s. all_some s.counts) (sym is) ∙ C.recorded })
counts_stay M w v Trim t e counts C = absurd (true≢false t)

-- and so do the images
pub frozen_stays : {Node : Type 0} (M : Machine Node) (w v : MarkedNetwork Node) (act : Act) → is_trim act ≡ false → happens M w act ≡ Some v
    → (counts : List ℕ) → HasCounts w.snapshot counts → v.frozen ≡ w.frozen
unfolding happens
frozen_stays M w v Begin t e counts C = absurd (not_idle w.snapshot counts C (begin_parts w v w.snapshot e).0)
frozen_stays M w v (Record i) t e counts C =
    let P = record_parts w v w.snapshot i e in
    absurd (true≢false (sym (counts_recorded w.snapshot counts C P.0 P.1 i) ∙ P.3))
frozen_stays M w v (Journal entry) t e counts C = let P = journal_parts w v M entry e in ap (λ u. u.frozen) (sym P.2)
frozen_stays M w v (Close line) t e counts C = let P = close_parts w v w.snapshot line e in ap (λ u. u.frozen) (sym P.4)
frozen_stays M w v Trim t e counts C = absurd (true≢false t)

-- ## A whole cut

pub whole_counts : {Node : Type 0} (w : MarkedNetwork Node) (cut : WholeCut) → whole w ≡ Some cut → HasCounts w.snapshot cut.counts
whole_counts w cut is =
    let P = whole_parts w cut is in
    record { snap = P.snap; runs = P.runs; recorded = P.recorded ∙ ap (λ c. Some c.counts) P.is }

module _ {Node : Type 0} (M : Machine Node) (four : HasFourLinks M) (w : MarkedNetwork Node) (H : CutInvariant M w) (cut : WholeCut) (P : WholeParts w cut) where
  -- a line that isn't closed has no wire
  closed_wired : (l : ℕ) → has_wire w.live.wires l ≡ true → is_closed P.snap l ≡ true
  closed_wired l y = all_closed_at (has_wire w.live.wires) (is_closed P.snap) (length w.live.lines) P.shut l (H.base.wired l y) y

  -- nothing more is collected
  module _ (e : Entry) (live : Network Node) (S : Step M w.live e live) where
    lines_stay : sent (λ l. not (is_closed P.snap l)) P.snap.lines (takes w.live.wires (length w.live.nodes) e) ≡ P.snap.lines
    lines_stay =
        same_lines (sent (λ l. not (is_closed P.snap l)) P.snap.lines (takes w.live.wires (length w.live.nodes) e)) P.snap.lines (length_sent (λ l. not (is_closed P.snap l)) P.snap.lines (takes w.live.wires (length w.live.nodes) e))
        (λ l h. elim (cases_Bool (has_wire w.live.wires l)) [
          | inl y ↦ on_sent_shut (λ k. not (is_closed P.snap k)) P.snap.lines (takes w.live.wires (length w.live.nodes) e) l (ap not (closed_wired l y))
          | inr n ↦ on_sent_none (λ k. not (is_closed P.snap k)) P.snap.lines (takes w.live.wires (length w.live.nodes) e) l (out_unwired M four w H.base e live S l n).0
        ])

    snapshot_stays : option_map (collected (process w.start.wires (length w.start.nodes) e) (takes w.live.wires (length w.live.nodes) e)) w.snapshot ≡ Some P.snap
    snapshot_stays =
        ap (option_map (collected (process w.start.wires (length w.start.nodes) e) (takes w.live.wires (length w.live.nodes) e))) P.runs
        ∙ ap (λ b. Some (cond b (record P.snap { lines = sent (λ l. not (is_closed P.snap l)) P.snap.lines (takes w.live.wires (length w.live.nodes) e) }) (record P.snap { size = P.snap.size + 1 })))
        (parts_recorded w cut P (process w.start.wires (length w.start.nodes) e))
        ∙ ap (λ lines. Some (record P.snap { lines = lines })) lines_stay

    whole_journalled : whole (journalled w e live) ≡ Some cut
    whole_journalled =
        whole_from (journalled w e live) P.snap P.counts snapshot_stays P.recorded
        (ap (λ wires. all_closed (has_wire wires) (is_closed P.snap) (length live.lines)) shape.wires
        ∙ ap (λ n. all_closed (has_wire w.live.wires) (is_closed P.snap) n) shape.lines ∙ P.shut)
        ∙ ap Some P.is
      where
        shape : SameShape w.live live
        shape = step_shape M four w.live e live S

  -- no Marker is left to be taken
  none_closes : (line : ℕ) (v : MarkedNetwork Node) → happens M w (Close line) ≡ Some v → ⊥
  unfolding happens
  none_closes line v e =
      let Q = close_parts w v w.snapshot line e in
      let alike : Some Q.0 ≡ Some P.snap = sym Q.1 ∙ P.runs in
      let is : Q.0 ≡ P.snap = cc in
      true≢false (sym (closed_wired line (marker_wired M w H.base line Q.2)) ∙ ap (λ s. is_closed s line) (sym is) ∙ was_open M w H.base line Q.2 Q.0 (running M w H Q.0 Q.1))

-- A whole cut stays as it is until the trim.
pub whole_stays : {Node : Type 0} (M : Machine Node) → HasFourLinks M → (w v : MarkedNetwork Node) (act : Act) → is_trim act ≡ false → CutInvariant M w → happens M w act ≡ Some v
    → (cut : WholeCut) → whole w ≡ Some cut → whole v ≡ Some cut
unfolding happens
whole_stays M four w v Begin t H e cut is = absurd (not_idle w.snapshot cut.counts (whole_counts w cut is) (begin_parts w v w.snapshot e).0)
whole_stays M four w v (Record i) t H e cut is =
    let P = record_parts w v w.snapshot i e in
    absurd (true≢false (sym (counts_recorded w.snapshot cut.counts (whole_counts w cut is) P.0 P.1 i) ∙ P.3))
whole_stays M four w v (Journal entry) t H e cut is =
    let Q = journal_parts w v M entry e in
    subst (λ u. whole u ≡ Some cut) Q.2 (whole_journalled M four w H cut (whole_parts w cut is) entry Q.0 (step_of M w.live entry Q.0 Q.1))
whole_stays M four w v (Close line) t H e cut is = absurd (none_closes M four w H cut (whole_parts w cut is) line v e)
whole_stays M four w v Trim t H e cut is = absurd (true≢false t)

-- and with its images
pub cut_stays : {Node : Type 0} (M : Machine Node) → HasFourLinks M → (w v : MarkedNetwork Node) (act : Act) → is_trim act ≡ false → CutInvariant M w → happens M w act ≡ Some v
    → (cut : WholeCut) (nodes : List Node) → HasCut w cut nodes → HasCut v cut nodes
cut_stays M four w v act t H e cut nodes C = record {
  is = whole_stays M four w v act t H e cut C.is;
  images = ap all_some (frozen_stays M w v act t e cut.counts (whole_counts w cut C.is)) ∙ C.images;
}
