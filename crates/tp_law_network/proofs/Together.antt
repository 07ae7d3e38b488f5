-- A network from what its pieces hold.
use Rattle.std.proofs.Common.{◌≡◌, inl, inr, ℕ, ◌<◌, ◌≤◌, true, suc, List, [], ◌∷◌, length, refl, sym, ap, subst, ◌∙◌, arith, Option, Some, slice_get}
use Rattle.tp_law_network.proofs.Lower.{option_map, cases_lt, slice_get_past, Entry, HasFourLinks, after, Machine, Network, Port, Own, OfNode, OfHost, own, on_line, owner}
use Rattle.tp_law_network.proofs.Reach.{ends_agree}
use Rattle.tp_law_network.proofs.Lines.{same_lines}
use Rattle.tp_law_network.proofs.Local.{own-node, own-host}
use Rattle.tp_law_network.specs.Piece.{Agrees, Covers, Piece}
use Rattle.tp_law_network.specs.InPiece.{next_in}
use Rattle.tp_law_network.specs.Reach.{after_by}
use Rattle.tp_law_network.specs.Together.{IsTogether}
use Rattle.tp_law_network.proofs.ByItself.{node_there}

same_node : {Node : Type 0} (n m : Node) → ◌≡◌ {A = Option (Own Node)} (Some (OfNode n)) (Some (OfNode m)) → n ≡ m
same_node n m e = cc

same_ports : {Node : Type 0} (ps qs : List Port) → ◌≡◌ {A = Option (Own Node)} (Some (OfHost ps)) (Some (OfHost qs)) → ps ≡ qs
same_ports ps qs e = cc

-- lists are equal that have equal elements at each place
ext_slice_get : {A : Type 0} (xs ys : List A) → ((i : ℕ) → slice_get xs i ≡ slice_get ys i) → xs ≡ ys
ext_slice_get [] [] h = refl
ext_slice_get [] (y ∷ ys) h = let none = h 0 in cc
ext_slice_get (x ∷ xs) [] h = let none = h 0 in cc
ext_slice_get (x ∷ xs) (y ∷ ys) h =
    let here : Some x ≡ Some y = h 0 in
    let same : x ≡ y = cc in
    ap (λ z. z ∷ xs) same ∙ ap (λ zs. y ∷ zs) (ext_slice_get xs ys (λ i. h (suc i)))

-- networks are equal whose processes and lines are
pub same_network : {Node : Type 0} (s t : Network Node) → s.wires ≡ t.wires → length s.nodes ≡ length t.nodes → length s.lines ≡ length t.lines → ((p : ℕ) → own s p ≡ own t p)
    → ((l : ℕ) → on_line s.lines l ≡ on_line t.lines l) → s ≡ t
same_network {Node} s t wires nodes lines owns line =
    λ i. record { wires = wires i; nodes = are i; ports = ports i; lines = on i }
  where
    on : s.lines ≡ t.lines
    on = same_lines s.lines t.lines lines (λ l _. line l)

    ports : s.ports ≡ t.ports
    ports = same_ports {Node = Node} s.ports t.ports (sym (own-host s) ∙ owns (length s.nodes) ∙ ap (own t) nodes ∙ own-host t)

    at : (i : ℕ) → slice_get s.nodes i ≡ slice_get t.nodes i
    at i = elim (cases_lt i (length s.nodes)) [
      | inl below ↦ (let N = node_there s.nodes i below in
          let O = node_there t.nodes i (subst (λ n. i < n) nodes below) in
          let a : own s i ≡ Some (OfNode N.0) = own-node s i (λ e. omega (arith, e, below)) ∙ ap (option_map OfNode) N.1 in
          let b : own t i ≡ Some (OfNode O.0) = own-node t i (λ e. omega (arith, e, below, nodes)) ∙ ap (option_map OfNode) O.1 in
          N.1 ∙ ap Some (same_node N.0 O.0 (sym a ∙ owns i ∙ b)) ∙ sym O.1)
      | inr past ↦ slice_get_past s.nodes i past ∙ sym (slice_get_past t.nodes i (subst (λ n. n ≤ i) nodes past))
    ]

    are : s.nodes ≡ t.nodes
    are = ext_slice_get s.nodes t.nodes at

-- What pieces that agree with a network hold is that network.
pub together_is : {Node : Type 0} (count : ℕ) (pieces : ℕ → Piece) → Covers count pieces → (t w : Network Node) (v : ℕ → Network Node) → ((i : ℕ) → i < count → Agrees (pieces i) t (v i))
    → IsTogether count pieces v w → w ≡ t
together_is {Node} count pieces covers t w v A T =
    let B = A T.shape.0 T.shape.1 in
    let C = T.shape.2 in
    same_network w t (C.wires ∙ B.wires) (C.nodes ∙ B.nodes) (C.count ∙ B.count)
    (λ p. (let i = covers p in T.own i.0 i.1 p i.2 ∙ (A i.0 i.1).own p i.2))
    (λ l. (let i = covers (owner (length t.nodes) l) in
    T.lines i.0 i.1 l (subst (λ n. pieces i.0 (owner n l) ≡ true) (sym (C.nodes ∙ B.nodes)) i.2) ∙ (A i.0 i.1).lines l i.2))

-- If the whole network goes through entries, so do its pieces, and what they then hold is the network.
pub pieces_together : {Node : Type 0} (M : Machine Node) → HasFourLinks M → (s t w : Network Node) (es : List Entry) → after M s es ≡ Some t
    → (count : ℕ) (pieces : ℕ → Piece) (parts ends : ℕ → Network Node) → Covers count pieces → ((i : ℕ) → i < count → Agrees (pieces i) s (parts i))
    → ((i : ℕ) → i < count → after_by (next_in M (pieces i)) (parts i) es ≡ Some (ends i)) → IsTogether count pieces ends w → w ≡ t
pieces_together M four s t w es leads count pieces parts ends covers A go T =
    together_is count pieces covers t w ends (λ i below. ends_agree M four (pieces i) s t (parts i) (ends i) es (A i below) leads (go i below)) T
