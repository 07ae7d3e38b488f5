-- Each act keeps what holds, and so a whole cut is always what it should be.
use Rattle.std.proofs.Common.{◌≡◌, ℕ, ◌<◌, true, false, List, [], ◌∷◌, ◌++◌, length, sym, subst, ◌∙◌, Option, Some, None}
use Rattle.tp_law_network.proofs.Lower.{option_map, Entry, Machine, Network, on_line, process, takes, HasFourLinks, after, pre, post, NeverMarks, has_marker, plain_network, Snapshot, MarkedNetwork, has_recorded, taker, collected, begun, recorded, journalled, line_closed, host_markers, node_markers, WholeCut, count_in, all_some, whole, IsWhole, Act, Begin, Record, Journal, Close, Trim, happens, acted, IsOpened, CutHolds}
use Rattle.tp_law_network.proofs.Partial.{bind_some}
use Rattle.tp_law_network.proofs.Local.{Step, step_of}
use Rattle.tp_law_network.specs.Invariant.{Inside, CutInvariant}
use Rattle.tp_law_network.proofs.Shape.{base_journalled, markers_kept}
use Rattle.tp_law_network.proofs.Journal.{entry_journalled}
use Rattle.tp_law_network.proofs.Sending.{host_markers_all, node_markers_all, base_marked}
use Rattle.tp_law_network.proofs.Record.{node_recorded}
use Rattle.tp_law_network.proofs.Begin.{begins}
use Rattle.tp_law_network.proofs.Close.{base_closed, marker_taken}
use Rattle.tp_law_network.proofs.Whole.{running, whole_holds, whole_only, whole_there}
use Rattle.tp_law_network.proofs.Kept.{trim_holds}
use Rattle.tp_law_network.proofs.Acts.{begin_parts, record_parts, close_parts, journal_parts, trim_parts}

module _ {Node : Type 0} (M : Machine Node) (four : HasFourLinks M) (never : NeverMarks M) (w : MarkedNetwork Node) (H : CutInvariant M w) where
  begin_holds : w.snapshot ≡ None → CutInvariant M (begun w)
  begin_holds idle = record {
    base = base_marked M w H.base (host_markers (length w.live.nodes) (length w.live.ports)) (host_markers_all (length w.live.nodes) (length w.live.ports)) (begun w).snapshot (begun w).frozen;
    inside = begins M four w H.base (subst (λ given. Inside M w given) idle H.inside);
  }

  record_holds : (snap : Snapshot) (i : ℕ) → w.snapshot ≡ Some snap → i < length w.live.nodes → has_recorded snap i ≡ false → CutInvariant M (recorded w snap i)
  record_holds snap i runs below new = record {
    base = base_marked M w H.base (node_markers i) (node_markers_all i) (recorded w snap i).snapshot (recorded w snap i).frozen;
    inside = node_recorded M w H.base snap (running M w H snap runs) i below new;
  }

  close_holds : (snap : Snapshot) (line : ℕ) → w.snapshot ≡ Some snap → has_marker (on_line w.live.lines line) ≡ true → has_recorded snap (taker w.live line) ≡ true
      → CutInvariant M (line_closed w snap line)
  close_holds snap line runs front has = record {
    base = base_closed M w H.base line front (line_closed w snap line).snapshot w.frozen;
    inside = marker_taken M w H.base line front snap (running M w H snap runs) has;
  }

  -- an entry, whether a snapshot runs or not
  entry_inside : (e : Entry) (live : Network Node) → Step M w.live e live → (given : Option Snapshot) → Inside M w given
      → Inside M (journalled w e live) (option_map (collected (process w.start.wires (length w.start.nodes) e) (takes w.live.wires (length w.live.nodes) e)) given)
  entry_inside e live S None I = λ l. markers_kept M four w H.base e live S never l ∙ I l
  entry_inside e live S (Some snap) K = entry_journalled M four never w H.base snap K e live S

  journal_holds : (e : Entry) (live : Network Node) → Step M w.live e live → CutInvariant M (journalled w e live)
  journal_holds e live S = record {
    base = base_journalled M four w H.base e live S never;
    inside = entry_inside e live S w.snapshot H.inside;
  }

-- Each act keeps what holds.
pub happens_holds : {Node : Type 0} (M : Machine Node) → HasFourLinks M → NeverMarks M → (w v : MarkedNetwork Node) (act : Act) → CutInvariant M w → happens M w act ≡ Some v → CutInvariant M v
unfolding happens
happens_holds M four never w v Begin H e = let P = begin_parts w v w.snapshot e in subst (CutInvariant M) P.1 (begin_holds M four never w H P.0)
happens_holds M four never w v (Record i) H e = let P = record_parts w v w.snapshot i e in subst (CutInvariant M) P.4 (record_holds M four never w H P.0 i P.1 P.2 P.3)
happens_holds M four never w v (Journal entry) H e =
    let P = journal_parts w v M entry e in
    subst (CutInvariant M) P.2 (journal_holds M four never w H entry P.0 (step_of M w.live entry P.0 P.1))
happens_holds M four never w v (Close line) H e = let P = close_parts w v w.snapshot line e in subst (CutInvariant M) P.4 (close_holds M four never w H P.0 line P.1 P.2 P.3)
happens_holds M four never w v Trim H e = let P = trim_parts w v (whole w) (all_some w.frozen) e in subst (CutInvariant M) P.4 (trim_holds M four w H P.0 P.1 P.2 P.3)

pub acted_holds : {Node : Type 0} (M : Machine Node) → HasFourLinks M → NeverMarks M → (w v : MarkedNetwork Node) (acts : List Act) → CutInvariant M w → acted M w acts ≡ Some v → CutInvariant M v
unfolding acted
acted_holds M four never w v [] H e = let is : w ≡ v = cc in subst (CutInvariant M) is H
acted_holds M four never w v (act ∷ acts) H e =
    let F = bind_some (happens M w act) (λ u. acted M u acts) v e in
    acted_holds M four never F.0 v acts (happens_holds M four never w F.0 act H F.1) F.2

-- A book that was just opened has what holds.
pub opened_holds : {Node : Type 0} (M : Machine Node) (w : MarkedNetwork Node) → IsOpened M w → CutInvariant M w
opened_holds M w O = record {
  base = record { now = O.now; lines = O.lines; wired = O.wired; unwired = O.unwired };
  inside = subst (λ given. Inside M w given) (sym O.idle) O.unmarked;
}

-- ## Whatever a book, its nodes and its markers do

module _ {Node : Type 0} (M : Machine Node) (four : HasFourLinks M) (never : NeverMarks M) (w v : MarkedNetwork Node) (O : IsOpened M w) (acts : List Act) (run : acted M w acts ≡ Some v) where
  holds_after : CutInvariant M v
  holds_after = acted_holds M four never w v acts (opened_holds M w O) run

  -- a whole cut is the network after the entries in it, and those may come first;
  pub cut_after : (cut : WholeCut) → whole v ≡ Some cut → CutHolds M v cut
  cut_after cut is = whole_holds M four v holds_after cut is

  -- and there is one exactly if a snapshot runs, all have recorded and each Marker was taken.
  pub whole_after : ((cut : WholeCut) → whole v ≡ Some cut → IsWhole v) × (IsWhole v → (cut : WholeCut) × (whole v ≡ Some cut))
  whole_after = (whole_only M v holds_after, whole_there M v holds_after)

  -- The book's entries lead to the network as it is, in their own order
  pub leads_after : after M v.start v.entries ≡ Some (plain_network v.live)
  leads_after = holds_after.base.now

  -- and in that of a whole cut.
  pub both_after : (cut : WholeCut) → whole v ≡ Some cut
      → after M v.start (pre (process v.start.wires (length v.start.nodes)) (count_in cut) v.entries ++ post (process v.start.wires (length v.start.nodes)) (count_in cut) v.entries) ≡ Some (plain_network v.live)
  both_after cut is = let C = cut_after cut is in C.same ∙ leads_after
