-- What a node's turn did, and what its seat gained, by how it was opened.
use Rattle.std.proofs.Common.{◌≡◌, ℕ, ◌≤◌, inl, inr, List, [], ◌++◌, sym, ap, subst, ◌∙◌}
use Rattle.std.specs.Prelude.{Ok}
use Rattle.tp_shared.proofs.Lower.{enumerate_from, append-nil, Entry, NodeState, Network, Opened, Apart, Whole, opened_entries, taken_in}
use Rattle.tp_shared.specs.Entries.{CountedTakes, OpenedEntries}
use Rattle.tp_shared.specs.Gains.{Gained}
use Rattle.tp_shared.specs.NodeTurned.{NodeTurned}
use Rattle.tp_shared.specs.declared.nodes.node_turn.NodeTurn.{NodeTurn}

-- what is gained after nothing was gained
gained_behind : (Are : List Entry → Type 0) (old between new : List (ℕ × Entry)) → Gained (λ entries. entries ≡ []) old between → Gained Are between new → Gained Are old new
gained_behind Are old between new none gained =
    let same : between ≡ old = none.seat ∙ ap (λ es. old ++ enumerate_from none.next es) none.are ∙ append-nil old in
    subst (λ seat. Gained Are seat new) same gained

pub node_turned : (start : Network NodeState) (number quantum : ℕ) (opened : Opened) (turn : NodeTurn) (old between new : List (ℕ × Entry)) → turn.ran.max ≡ quantum → turn.ran.count ≤ quantum → turn.taken ≡ taken_in opened
    → Gained (OpenedEntries start number (Ok opened)) old between → Gained (λ entries. entries ≡ opened_entries number opened turn.ran.count) between new → NodeTurned start number quantum turn old new
node_turned start number quantum (Apart taken) turn old between new asked few many took ran = record {
  asked = asked;
  few = few;
  did = inl (record { between = between; took = subst (λ n. Gained (CountedTakes start number n) old between) (sym many) took; ran = ran });
}
node_turned start number quantum (Whole taken) turn old between new asked few many took ran = record {
  asked = asked;
  few = few;
  did = inr (record { takes = taken.takes; many = many; gained = gained_behind (λ entries. entries ≡ opened_entries number (Whole taken) turn.ran.count) old between new took ran });
}
