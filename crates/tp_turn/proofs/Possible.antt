-- In a sound network a node can take the token at the front of a line that leads to it.
use Rattle.std.proofs.Common.{◌≡◌, ℕ, ◌+◌, ◌*◌, ◌%◌, ◌<◌, ◌≤◌, false, List, [], ◌∷◌, length, map, refl, sym, ap, subst, ◌∙◌, arith, Some, slice_get}
use Rattle.std.specs.Prelude.{IsSome}
use Rattle.tp_turn.proofs.Lower.{option_map, length-map, bit, IsNode, NodeState, took, waits, holds, t414_ends, Network, OfNode, own, receiver, back, is_wired, line_of, on_line, owner, datas, acks, end_waits, end_holds, before, is_marker, plain, plain_network, BookState, live, Token, Data, Ack, Marker, WireEnd, Link, AtPort, map_some, bit_small, bit_none, bit_some, takes_data, takes_ack, own-node, owner_of_link, owner_node, on_line-plain, datas-plain, acks-plain, end_waits_is, end_holds_is, agreed, BookKeeps}

-- the tokens before the first Marker are part of it
datas_before : (ts : List Token) → datas (before ts) ≤ datas ts
datas_before [] = omega arith
datas_before (Data byte ∷ ts) = omega (arith, datas_before ts)
datas_before (Ack ∷ ts) = omega (arith, datas_before ts)
datas_before (Marker ∷ ts) = omega arith

acks_before : (ts : List Token) → acks (before ts) ≤ acks ts
acks_before [] = omega arith
acks_before (Data byte ∷ ts) = omega (arith, acks_before ts)
acks_before (Ack ∷ ts) = omega (arith, acks_before ts)
acks_before (Marker ∷ ts) = omega arith

module _ (b : BookState NodeState) (K : BookKeeps b) (line number link : ℕ) (node : NodeState) (goes : receiver b.start.wires line ≡ Some (Link number link)) (there : slice_get (agreed b) number ≡ Some node) where
  abbrev s : Network NodeState
  s = plain_network (live b (agreed b))

  inside : (number < length s.nodes) × (link < 4)
  inside = K.sound.wires.links line number link goes

  comes_back : back s line ≡ Some (4 * number + link)
  comes_back = ap (option_map (line_of (length s.nodes))) goes

  owner_is : owner (length s.nodes) (4 * number + link) ≡ number
  owner_is = owner_of_link (length s.nodes) number link inside.0 inside.1

  own_is : own s (owner (length s.nodes) (4 * number + link)) ≡ Some (OfNode node)
  own_is = ap (own s) owner_is ∙ own-node s number (λ same. omega (arith, inside.0, same)) ∙ ap (option_map OfNode) there

  link_is : (4 * number + link) % 4 ≡ link
  link_is = let at = owner_node (length s.nodes) number (4 * number + link) inside.0 owner_is in omega (arith, at)

  holds_is : end_holds t414_ends s (4 * number + link) ≡ holds node link
  holds_is = end_holds_is t414_ends s (length s.nodes) (4 * number + link) (OfNode node) refl own_is ∙ ap (holds node) link_is

  waits_is : end_waits t414_ends s (4 * number + link) ≡ waits node link
  waits_is = end_waits_is t414_ends s (length s.nodes) (4 * number + link) (OfNode node) refl own_is ∙ ap (waits node) link_is

  datas_here : datas (on_line s.lines line) ≡ datas (on_line b.lines line)
  datas_here = ap datas (on_line-plain b.lines line) ∙ datas-plain (on_line b.lines line)

  acks_here : acks (on_line s.lines line) ≡ acks (on_line b.lines line)
  acks_here = ap acks (on_line-plain b.lines line) ∙ acks-plain (on_line b.lines line)

  pub can_take : (token : Token) (rest : List Token) → IsNode node → on_line b.lines line ≡ token ∷ rest → is_marker token ≡ false → IsSome (took node link token)
  can_take (Data byte) rest N front plainly =
      let flight = K.sound.flight line (4 * number + link) comes_back in
      let one : datas (on_line s.lines line) ≡ 1 + datas rest = datas_here ∙ ap datas front in
      let none : bit (end_holds t414_ends s (4 * number + link)) ≡ 0 = omega (arith, flight, one, bit_small (end_waits t414_ends s line)) in
      takes_data node link byte N inside.1 (sym holds_is ∙ bit_none (end_holds t414_ends s (4 * number + link)) none)
  can_take Ack rest N front plainly =
      let flight = K.sound.flight (4 * number + link) line (K.sound.wires.both_ways line (4 * number + link) comes_back) in
      let one : acks (on_line s.lines line) ≡ 1 + acks rest = acks_here ∙ ap acks front in
      let some : 1 ≤ bit (end_waits t414_ends s (4 * number + link)) = omega (arith, flight, one) in
      takes_ack node link N inside.1 (sym waits_is ∙ bit_some (end_waits t414_ends s (4 * number + link)) some)
  can_take Marker rest N front plainly = cc

  -- Before the first Marker there is at most one Data, and none if the node holds one; and an Ack only if the node waits.
  pub datas_front : datas (before (on_line b.lines line)) + bit (holds node link) ≤ 1
  datas_front =
      let flight = K.sound.flight line (4 * number + link) comes_back in
      omega (arith, flight, datas_here, ap bit holds_is, datas_before (on_line b.lines line), bit_small (end_waits t414_ends s line))

  pub acks_front : acks (before (on_line b.lines line)) ≤ bit (waits node link)
  acks_front =
      let flight = K.sound.flight (4 * number + link) line (K.sound.wires.both_ways line (4 * number + link) comes_back) in
      omega (arith, flight, acks_here, ap bit waits_is, acks_before (on_line b.lines line))

-- the line that comes back to a link leads to it
pub comes_in : (b : BookState NodeState) (K : BookKeeps b) (number link line : ℕ) → number < length (agreed b) → link < 4
    → option_map (line_of (length (agreed b))) (receiver b.start.wires (4 * number + link)) ≡ Some line → receiver b.start.wires line ≡ Some (Link number link)
comes_in b K number link line below four to =
    let again = K.sound.wires.both_ways (4 * number + link) line to in
    let found = map_some (line_of (length (agreed b))) (receiver b.start.wires line) (4 * number + link) again in
    found.1 ∙ ap Some (same found.0 found.1 found.2)
  where
    same : (e : WireEnd) → receiver b.start.wires line ≡ Some e → line_of (length (agreed b)) e ≡ 4 * number + link → e ≡ Link number link
    same (Link i k) at is =
        let inside = K.sound.wires.links line i k at in
        let first : i ≡ number = omega (arith, inside.1, four, is) in
        let second : k ≡ link = omega (arith, inside.1, four, is) in
        rw (first, second) refl
    same (AtPort p) at is = absurd (omega (arith, below, four, is))

-- the line that comes back to a port leads to it
pub comes_to : (b : BookState NodeState) (K : BookKeeps b) (port line : ℕ)
    → option_map (line_of (length (agreed b))) (receiver b.start.wires (4 * length (agreed b) + port)) ≡ Some line → receiver b.start.wires line ≡ Some (AtPort port)
comes_to b K port line to =
    let again = K.sound.wires.both_ways (4 * length (agreed b) + port) line to in
    let found = map_some (line_of (length (agreed b))) (receiver b.start.wires line) (4 * length (agreed b) + port) again in
    found.1 ∙ ap Some (same found.0 found.1 found.2)
  where
    same : (e : WireEnd) → receiver b.start.wires line ≡ Some e → line_of (length (agreed b)) e ≡ 4 * length (agreed b) + port → e ≡ AtPort port
    same (Link i k) at is =
        let inside = K.sound.wires.links line i k at in
        absurd (omega (arith, inside.0, inside.1, is))
    same (AtPort p) at is = let one : p ≡ port = omega (arith, is) in ap AtPort one

-- a wired line is there
pub line_within : (b : BookState NodeState) → BookKeeps b → (line : ℕ) (end : WireEnd) → receiver b.start.wires line ≡ Some end → line < length b.lines
line_within b K line end goes =
    let below : line < length (map plain b.lines) = K.sound.there line (ap is_wired goes) in
    subst (λ n. line < n) (length-map {B = List Token} b.lines plain) below
