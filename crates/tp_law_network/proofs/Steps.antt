-- One entry, in a whole network and in its pieces.
use Rattle.std.proofs.Common.{◌≡◌, ◌≢◌, ℕ, ◌<◌, true, false, inl, inr, List, ◌++◌, length, refl, sym, ap, subst, ◌∙◌, Some, cond}
use Rattle.tp_law_network.proofs.Lower.{cases_eq, cases_Bool, true≢false, Token, Entry, Machine, Network, Own, own, put, has_wire, on_line, for_line, taken, sent, process, takes, does, next, HasFourLinks, acts, owner}
use Rattle.tp_law_network.proofs.Partial.{bind_some}
use Rattle.tp_law_network.proofs.Lines.{for_line-elsewhere, taken_from, length_taken, length_sent, on_sent_none}
use Rattle.tp_law_network.proofs.Local.{Step, AreAlike, SameShape, step_of, next_from, own-lines, own-put_same, own-put_other, put-wires, put-lines, put-length, put-ports, process_same, takes_same, step_sends, step_shape, step_alike, step_lines, step_own_same, step_own_other}
use Rattle.tp_law_network.specs.Piece.{Agrees, Covers, Piece, from_piece, sends}
use Rattle.tp_law_network.specs.InPiece.{next_in}
use Rattle.tp_law_network.proofs.Fronts.{SameSent, taken_in, front_in, sent_alike}

-- ## A piece's step, taken apart

-- what the process of an entry did, over the lines that its tokens left
pub record Act {Node : Type 0} (M : Machine Node) (s : Network Node) (lines : List (List Token)) (e : Entry) (t : Network Node) : Type 0 where
  pub was : Own Node
  pub own_was : own s (process s.wires (length s.nodes) e) ≡ Some was
  pub now : Own Node
  pub sends : List (ℕ × Token)
  pub change : does M s.wires (length s.nodes) e was ≡ Some (now, sends)
  pub makes : put (record s { lines = sent (has_wire s.wires) lines sends }) (process s.wires (length s.nodes) e) now ≡ t

pub act_of : {Node : Type 0} (M : Machine Node) (s : Network Node) (lines : List (List Token)) (e : Entry) (t : Network Node) → acts M s lines e ≡ Some t → Act M s lines e t
unfolding acts
act_of M s lines e t h =
    let B = bind_some (own s (process s.wires (length s.nodes) e)) _ t h in
    let C = bind_some (does M s.wires (length s.nodes) e B.0) _ t B.2 in
    record { was = B.0; own_was = B.1; now = C.0.0; sends = C.0.1; change = C.1; makes = cc }

pub acts_from : {Node : Type 0} (M : Machine Node) (s : Network Node) (lines : List (List Token)) (e : Entry) (t : Network Node) → Act M s lines e t → acts M s lines e ≡ Some t
unfolding acts
acts_from M s lines e t A = rw (A.own_was, A.change, A.makes)

-- of an entry that the piece's process does, and of one that it doesn't
pub next_in-own : {Node : Type 0} (M : Machine Node) (has : Piece) (s : Network Node) (e : Entry) (lines : List (List Token)) → taken s.lines (from_piece has (length s.nodes) (takes s.wires (length s.nodes) e)) ≡ Some lines
    → has (process s.wires (length s.nodes) e) ≡ true → next_in M has s e ≡ acts M s lines e
unfolding next_in
next_in-own M has s e lines t h = rw (t, h)

pub next_in-other : {Node : Type 0} (M : Machine Node) (has : Piece) (s : Network Node) (e : Entry) (lines : List (List Token)) → taken s.lines (from_piece has (length s.nodes) (takes s.wires (length s.nodes) e)) ≡ Some lines
    → has (process s.wires (length s.nodes) e) ≡ false → next_in M has s e ≡ Some (record s { lines = lines })
unfolding next_in
next_in-other M has s e lines t h = rw (t, h)

-- what it took, and what it did with that
pub next_in-parts : {Node : Type 0} (M : Machine Node) (has : Piece) (s : Network Node) (e : Entry) (v : Network Node) → next_in M has s e ≡ Some v
    → (lines : List (List Token)) × (taken s.lines (from_piece has (length s.nodes) (takes s.wires (length s.nodes) e)) ≡ Some lines) × (has (process s.wires (length s.nodes) e) ≡ true → acts M s lines e ≡ Some v)
unfolding next_in
next_in-parts M has s e v h =
    let T = bind_some (taken s.lines (from_piece has (length s.nodes) (takes s.wires (length s.nodes) e))) (λ lines. cond (has (process s.wires (length s.nodes) e)) (acts M s lines e) (Some (record s { lines = lines }))) v h in
    (T.0, T.1, λ y. (let b = ap (λ b. cond b (acts M s T.0 e) (Some (record s { lines = T.0 }))) y in sym b ∙ T.2))

-- ## From the whole network to a piece

module _ {Node : Type 0} (M : Machine Node) (four : HasFourLinks M) (has : Piece) (s u : Network Node) (A : Agrees has s u) (e : Entry) (t : Network Node) (S : Step M s e t) where
  whose : process u.wires (length u.nodes) e ≡ process s.wires (length s.nodes) e
  whose = process_same s u A.wires A.nodes e

  its : taken u.lines (from_piece has (length u.nodes) (takes u.wires (length u.nodes) e)) ≡ taken u.lines (from_piece has (length s.nodes) (takes s.wires (length s.nodes) e))
  its = ap (λ N. taken u.lines (from_piece has N (takes u.wires (length u.nodes) e))) A.nodes ∙ ap (λ ms. taken u.lines (from_piece has (length s.nodes) ms)) (takes_same s u A.wires A.nodes e)

  took : (left : List (List Token)) × (taken u.lines (from_piece has (length s.nodes) (takes s.wires (length s.nodes) e)) ≡ Some left) × SameSent has (length s.nodes) left S.out
  took = taken_in has (length s.nodes) u.lines s.lines (takes s.wires (length s.nodes) e) S.out A.lines S.takes_out

  takes_its : taken u.lines (from_piece has (length u.nodes) (takes u.wires (length u.nodes) e)) ≡ Some took.0
  takes_its = its ∙ took.1

  -- as many lines are left
  left_count : length took.0 ≡ length S.out
  left_count = length_taken u.lines (from_piece has (length s.nodes) (takes s.wires (length s.nodes) e)) took.0 took.1 ∙ A.count ∙ sym (length_taken s.lines (takes s.wires (length s.nodes) e) S.out S.takes_out)

  shape : SameShape s t
  shape = step_shape M four s e t S

  sends_here : (l : ℕ) → sends has (length t.nodes) l ≡ true → sends has (length s.nodes) l ≡ true
  sends_here l h = subst (λ N. sends has N l ≡ true) shape.nodes h

  module _ (mine : has (process s.wires (length s.nodes) e) ≡ true) where
    -- the piece with the lines that it sent
    abbrev base : Network Node
    base = record u { lines = sent (has_wire u.wires) took.0 S.sends }

    abbrev made : Network Node
    made = put base (process u.wires (length u.nodes) e) S.now

    own_was : own u (process u.wires (length u.nodes) e) ≡ Some S.was
    own_was = ap (own u) whose ∙ A.own (process s.wires (length s.nodes) e) mine ∙ S.own_was

    change : does M u.wires (length u.nodes) e S.was ≡ Some (S.now, S.sends)
    change = ap (λ wires. does M wires (length u.nodes) e S.was) A.wires ∙ ap (λ N. does M s.wires N e S.was) A.nodes ∙ S.change

    act : Act M u took.0 e made
    act = record { was = S.was; own_was = own_was; now = S.now; sends = S.sends; change = change; makes = refl }

    was_base : own base (process u.wires (length u.nodes) e) ≡ Some S.was
    was_base = own-lines u (sent (has_wire u.wires) took.0 S.sends) (process u.wires (length u.nodes) e) ∙ own_was

    alike : AreAlike S.was S.now
    alike = step_alike M four s e t S

    own_made : (p : ℕ) → has p ≡ true → own made p ≡ own t p
    own_made p h = elim (cases_eq p (process s.wires (length s.nodes) e)) [
      | inl same ↦ ap (own made) (same ∙ sym whose) ∙ own-put_same base (process u.wires (length u.nodes) e) S.was S.now was_base alike ∙ sym (ap (own t) same ∙ step_own_same M four s e t S)
      | inr apart ↦ own-put_other base (process u.wires (length u.nodes) e) p S.was S.now was_base alike (λ x. apart (x ∙ whose))
          ∙ own-lines u (sent (has_wire u.wires) took.0 S.sends) p ∙ A.own p h ∙ sym (step_own_other M four s e t S p apart)
    ]

    lines_made : (l : ℕ) → sends has (length t.nodes) l ≡ true → on_line made.lines l ≡ on_line t.lines l
    lines_made l h =
        ap (λ ls. on_line ls l) (put-lines base (process u.wires (length u.nodes) e) S.now)
        ∙ ap (λ wires. on_line (sent (has_wire wires) took.0 S.sends) l) A.wires
        ∙ sent_alike (has_wire s.wires) took.0 S.out S.sends l left_count (took.2 l (sends_here l h))
        ∙ sym (ap (λ ls. on_line ls l) (step_lines M four s e t S))

    agrees_made : Agrees has t made
    agrees_made = record {
      wires = put-wires base (process u.wires (length u.nodes) e) S.now ∙ A.wires ∙ sym shape.wires;
      nodes = put-length base (process u.wires (length u.nodes) e) S.now ∙ A.nodes ∙ sym shape.nodes;
      ports = put-ports base (process u.wires (length u.nodes) e) S.was S.now was_base alike ∙ A.ports ∙ sym shape.ports;
      count = ap length (put-lines base (process u.wires (length u.nodes) e) S.now) ∙ length_sent (has_wire u.wires) took.0 S.sends ∙ length_taken u.lines (from_piece has (length s.nodes) (takes s.wires (length s.nodes) e)) took.0 took.1 ∙ A.count ∙ sym shape.lines;
      own = own_made;
      lines = lines_made;
    }

    steps_own : next_in M has u e ≡ Some made
    steps_own = next_in-own M has u e took.0 takes_its (ap has whose ∙ mine) ∙ acts_from M u took.0 e made act

  module _ (other : has (process s.wires (length s.nodes) e) ≡ false) where
    abbrev left : Network Node
    left = record u { lines = took.0 }

    away : (p : ℕ) → has p ≡ true → p ≢ process s.wires (length s.nodes) e
    away p h same = true≢false (sym h ∙ ap has same ∙ other)

    lines_left : (l : ℕ) → sends has (length t.nodes) l ≡ true → on_line took.0 l ≡ on_line t.lines l
    lines_left l h =
        took.2 l (sends_here l h)
        ∙ sym (ap (λ ls. on_line ls l) (step_lines M four s e t S)
        ∙ on_sent_none (has_wire s.wires) S.out S.sends l (for_line-elsewhere (owner (length s.nodes)) (process s.wires (length s.nodes) e) l S.sends (step_sends M four s e t S) (away (owner (length s.nodes) l) (sends_here l h))))

    agrees_left : Agrees has t left
    agrees_left = record {
      wires = A.wires ∙ sym shape.wires;
      nodes = A.nodes ∙ sym shape.nodes;
      ports = A.ports ∙ sym shape.ports;
      count = length_taken u.lines (from_piece has (length s.nodes) (takes s.wires (length s.nodes) e)) took.0 took.1 ∙ A.count ∙ sym shape.lines;
      own = λ p h. own-lines u took.0 p ∙ A.own p h ∙ sym (step_own_other M four s e t S p (away p h));
      lines = lines_left;
    }

    steps_other : next_in M has u e ≡ Some left
    steps_other = next_in-other M has u e took.0 takes_its (ap has whose ∙ other)

-- An entry that is possible in the whole network is possible in each piece, and they agree after it.
pub piece_follows : {Node : Type 0} (M : Machine Node) → HasFourLinks M → (has : Piece) (s u : Network Node) → Agrees has s u → (e : Entry) (t : Network Node) → next M s e ≡ Some t
    → (v : Network Node) × (next_in M has u e ≡ Some v) × Agrees has t v
piece_follows M four has s u A e t h =
    let S = step_of M s e t h in
    elim (cases_Bool (has (process s.wires (length s.nodes) e))) [
      | inl y ↦ (made M four has s u A e t S y, steps_own M four has s u A e t S y, agrees_made M four has s u A e t S y)
      | inr n ↦ (left M four has s u A e t S n, steps_other M four has s u A e t S n, agrees_left M four has s u A e t S n)
    ]

-- ## From the pieces to the whole network

-- If the pieces have all processes, an entry that is possible in each piece is possible in the whole network.
pub whole_follows : {Node : Type 0} (M : Machine Node) (count : ℕ) (pieces : ℕ → Piece) → Covers count pieces → (s : Network Node) (u : ℕ → Network Node) → ((i : ℕ) → i < count → Agrees (pieces i) s (u i))
    → (e : Entry) → ((i : ℕ) → i < count → (v : Network Node) × (next_in M (pieces i) (u i) e ≡ Some v)) → (t : Network Node) × (next M s e ≡ Some t)
whole_follows {Node} M count pieces covers s u A e all =
    let i = (covers (process s.wires (length s.nodes) e)).0 in
    let below = (covers (process s.wires (length s.nodes) e)).1 in
    let P = next_in-parts M (pieces i) (u i) e (all i below).0 (all i below).1 in
    let whose : process (u i).wires (length (u i).nodes) e ≡ process s.wires (length s.nodes) e = process_same s (u i) (A i below).wires (A i below).nodes e in
    let D = act_of M (u i) P.0 e (all i below).0 (P.2 (ap (pieces i) whose ∙ (covers (process s.wires (length s.nodes) e)).2)) in
    let T = taken_from s.lines (takes s.wires (length s.nodes) e) front in
    let made = put (record s { lines = sent (has_wire s.wires) T.0 D.sends }) (process s.wires (length s.nodes) e) D.now in (
      made,
      next_from M s e made (record {
        out = T.0;
        takes_out = T.1;
        was = D.was;
        own_was = sym ((A i below).own (process s.wires (length s.nodes) e) (covers (process s.wires (length s.nodes) e)).2) ∙ ap (own (u i)) (sym whose) ∙ D.own_was;
        now = D.now;
        sends = D.sends;
        change = sym (ap (λ wires. does M wires (length (u i).nodes) e D.was) (A i below).wires ∙ ap (λ N. does M s.wires N e D.was) (A i below).nodes) ∙ D.change;
        makes = refl {a = made};
      }),
    )
  where
    front : (l : ℕ) → (rest : List Token) × (on_line s.lines l ≡ for_line l (takes s.wires (length s.nodes) e) ++ rest)
    front l =
        let C = covers (owner (length s.nodes) l) in
        let B = A C.0 C.1 in
        let P = next_in-parts M (pieces C.0) (u C.0) e (all C.0 C.1).0 (all C.0 C.1).1 in
        let its = ap (λ N. taken (u C.0).lines (from_piece (pieces C.0) N (takes (u C.0).wires (length (u C.0).nodes) e))) B.nodes ∙ ap (λ ms. taken (u C.0).lines (from_piece (pieces C.0) (length s.nodes) ms)) (takes_same s (u C.0) B.wires B.nodes e) in
        front_in (pieces C.0) (length s.nodes) (u C.0).lines s.lines (takes s.wires (length s.nodes) e) P.0 B.lines (sym its ∙ P.1) l C.2
