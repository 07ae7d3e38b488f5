-- What was at the front of a line and was made ready is taken.
use Rattle.std.proofs.Common.{◌≡◌, ℕ, Bool, true, false, List, [], ◌∷◌, get_or, refl, sym, subst, Option, Some, None, slice_get}
use Rattle.std.specs.Prelude.{is_none, Ok}
use Rattle.tp_turn.proofs.Lower.{Token, Data, Ack, Marker, Link, NodeState, took, on_link, receiver, on_line, is_marker, BookValue, agreed, front_of, with_ready, HasTaken, takeable_of, else_if, needs_take, take_refusal, ready_refusal, IsAnswer, NothingToTake, StoreBroken}

-- what can be taken is at the front, and is no Marker
pub takeable_front : (ts : List Token) → is_none (takeable_of ts) ≡ false → (rest : List Token) × (ts ≡ get_or ts 0 Marker ∷ rest) × (is_marker (get_or ts 0 Marker) ≡ false)
takeable_front [] e = cc
takeable_front (Data b ∷ rest) e = (rest, refl, refl)
takeable_front (Ack ∷ rest) e = (rest, refl, refl)
takeable_front (Marker ∷ rest) e = cc

-- a take that was made ready is one of something
pub ready_some : {A : Type 0} (b : BookValue) (line : ℕ) (x : A) → IsAnswer (ready_refusal b line) (Ok x) → is_none (takeable_of (on_line b.state.lines line)) ≡ false
ready_some b line x = go (is_none (takeable_of (on_line b.state.lines line)))
  where
    go : (none : Bool)
        → IsAnswer (take_refusal b (needs_take b line) (else_if (else_if None none NothingToTake) b.broken StoreBroken)) (Ok x)
        → none ≡ false
    go true h = absurd h
    go false h = refl

pub has_taken : (b r : BookValue) (line number link : ℕ) (before now : NodeState) (answer : Option Token) → r ≡ with_ready b line → receiver b.state.start.wires line ≡ Some (Link number link)
    → slice_get (agreed b.state) number ≡ Some before → took before link (front_of b line) ≡ Some (now, on_link link answer) → HasTaken r line answer
has_taken b r line number link before now answer is_ready goes there did =
    subst (λ x. HasTaken x line answer) (sym is_ready) (record { node = number; link = link; before = before; after = now; goes = goes; there = there; did = did })
