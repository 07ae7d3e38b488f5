-- A network, joined from its parts one after another, the last one first.
use Rattle.std.proofs.Common.{◌≡◌, ℕ, zero, suc, ◌+◌, ◌-◌, ◌*◌, ◌/◌, ◌<◌, ◌≤◌, Bool, true, false, cond, inl, inr, List, [], ◌∷◌, ◌++◌, length, map, take, drop, replicate, get_or, slice_index_or, refl, sym, ap, subst, ◌∙◌, arith, Option, Some, None, slice_get, nat_lt, nat_le, length-append, length-drop}
use Rattle.tp_replay.proofs.Lower.{length-take-le, drop-drop, drop_all, get_or-replicate, get_or-take, get_or_at, get_or_past, length-map, length-replicate, length-take, map-append, take-append-drop, take_at, take-take, option_map, and_from, cases_lt, le-leb, le-ltb, lt-ltb, slice_get_past, Token, NodeState, Network, Own, OfNode, OfHost, Port, on_line, own, owner, same_lines, own-host, own-node, Agrees, sends, NodeContents}
use Rattle.tp_replay.specs.declared.pieces.apart.Apart.{Apart}
use Rattle.tp_replay.specs.declared.pieces.host_part.HostPart.TheInside.{Inside as HostInside}
use Rattle.tp_replay.specs.declared.pieces.nodes_part.NodesPart.TheInside.{Inside as NodesInside}
use Rattle.tp_replay.specs.declared.pieces.net_part.NetPart.{NetPart}
use Rattle.tp_replay.specs.declared.pieces.net_part.NetPart.TheVariants.{Nodes, Host}
use Rattle.tp_replay.specs.Apart.{network_apart}
use Rattle.tp_replay.specs.Blank.{among, blank_node}
use Rattle.tp_replay.specs.Copies.{Copies}
use Rattle.tp_replay.specs.Dealing.{AgreeAll, CanJoin, networks_of, no_part, pieces_of}
use Rattle.tp_replay.specs.Held.{HeldPart, has}
use Rattle.tp_replay.specs.HostInside.{host_held}
use Rattle.tp_replay.specs.NodesInside.{AreLive, IsLive, nodes_held}
use Rattle.tp_replay.specs.Joining.{AreBefore, HoldsFrom, Precedes}
use Rattle.tp_replay.specs.Parts.{held_part}
use Rattle.tp_replay.specs.Runs.{AreDealt, AreNeighbours, NodeRun, run_at}
use Rattle.tp_replay.specs.Whose.{whose}
use Rattle.tp_replay.proofs.Among.{among_at, length_among}
use Rattle.tp_replay.proofs.Chains.{chain_within, same_run, no_run}
use Rattle.tp_replay.proofs.Stretch.{get_drop, get_either, get_take, same_items}

-- ## Lines and processes

empty_lines : (count line : ℕ) → on_line (replicate count []) line ≡ []
empty_lines count line = elim (cases_lt line count) [
  | inl below ↦ get_or-replicate count line [] [] below
  | inr past ↦ get_or_past (replicate count []) line [] (let long = length-replicate {A = List Token} count [] in omega (arith, long, past))
]

-- the host sends a line that no node sends
host_sends : (n line : ℕ) → 4 * n ≤ line → sends (whose n None) n line ≡ true
host_sends n line past = ap (whose n None) (ap (λ b. cond b (line / 4) n) (le-ltb line (4 * n) past)) ∙ le-leb n n (omega arith)

-- a run sends the lines of its nodes
run_sends : (n first past line : ℕ) → past ≤ n → 4 * first ≤ line → line < 4 * past → sends (whose first (Some past)) n line ≡ true
run_sends n first past line few low high =
    ap (whose first (Some past)) (ap (λ b. cond b (line / 4) n) (lt-ltb line (4 * n) (omega arith)))
    ∙ and_from _ _ (le-leb first (line / 4) (omega arith)) (lt-ltb (line / 4) past (omega arith))

same_ports : (ps qs : List Port) → ◌≡◌ {A = Option (Own NodeState)} (Some (OfHost ps)) (Some (OfHost qs)) → ps ≡ qs
same_ports ps qs e = cc

same_node : (x y : Option NodeState) → ◌≡◌ {A = Option (Own NodeState)} (option_map OfNode x) (option_map OfNode y) → x ≡ y
same_node None None e = refl
same_node None (Some y) e = cc
same_node (Some x) None e = cc
same_node (Some x) (Some y) e = let same : x ≡ y = cc in ap Some same

-- ## The host

-- What the host has is what the network has after its last node.
pub host_holds : (t : Network NodeState) (h : HostInside) (a : Apart) (was : List (List Token)) → a.wires.items ≡ h.lanes.wires → a.nodes.items ≡ [] → a.ports.items ≡ h.ports.items
    → was ≡ replicate (length h.lanes.lines) [] → Copies (4 * h.nodes) (length h.lanes.lines) h.lanes.lines was a.lines → Agrees (has (host_held h)) t (host_held h).network → HoldsFrom t (length t.nodes) a
host_holds t h a was wires none ports empty C A = record {
  wires = wires ∙ A.wires;
  nodes = ap (map (λ node. node.live)) none ∙ sym (drop_all (length t.nodes) t.nodes (omega arith));
  ports = ap (map (λ port. port.port)) ports ∙ its_ports;
  count = C.count ∙ ap length empty ∙ length-replicate (length h.lanes.lines) [] ∙ A.count;
  lines = on;
  empty = λ line low. C.below line (omega (arith, low, many)) ∙ blank line;
  live = λ i node at. (let no : slice_get {X = NodeContents} [] i ≡ Some node = ap (λ ns. slice_get ns i) (sym none) ∙ at in cc);
}
  where
    many : h.nodes ≡ length t.nodes
    many = sym (length-replicate h.nodes blank_node) ∙ A.nodes

    blank : (line : ℕ) → on_line was line ≡ []
    blank line = ap (λ ls. on_line ls line) empty ∙ empty_lines (length h.lanes.lines) line

    its_ports : (host_held h).network.ports ≡ t.ports
    its_ports = same_ports (host_held h).network.ports t.ports
        (sym (own-host (host_held h).network) ∙ ap (own (host_held h).network) A.nodes ∙ A.own (length t.nodes) (le-leb h.nodes (length t.nodes) (omega (arith, many))) ∙ own-host t)

    its : (line : ℕ) → 4 * length t.nodes ≤ line → on_line h.lanes.lines line ≡ on_line t.lines line
    its line high = A.lines line (subst (λ n. sends (whose h.nodes None) n line ≡ true) many (host_sends h.nodes line (omega (arith, high, many))))

    on : (line : ℕ) → 4 * length t.nodes ≤ line → on_line a.lines line ≡ on_line t.lines line
    on line high = elim (cases_lt line (length h.lanes.lines)) [
      | inl below ↦ C.within line (omega (arith, high, many)) below ∙ its line high
      | inr past ↦ C.behind line past ∙ blank line ∙ sym (get_or_past h.lanes.lines line [] past) ∙ its line high
    ]

-- ## A run of nodes

module _ (t : Network NodeState) (n : NodesInside) (a now : Apart) (P : Precedes t (nodes_held n) a) (live : AreLive n.nodes.items) (wires : now.wires.items ≡ a.wires.items) (ports : now.ports.items ≡ a.ports.items)
    (nodes : now.nodes.items ≡ n.nodes.items ++ a.nodes.items) (C : Copies (4 * n.before) (4 * (n.before + length n.nodes.items)) n.lanes.lines a.lines now.lines) where
  abbrev count : ℕ
  count = length n.nodes.items

  abbrev lives : List NodeState
  lives = map (λ node. node.live) n.nodes.items

  long : length lives ≡ count
  long = length-map n.nodes.items (λ node. node.live)

  ends : n.before + count ≡ P.past
  ends = let e = P.ends in cc

  -- a node of its own is that of the network
  its_node : (i : ℕ) → i < count → slice_get lives i ≡ slice_get t.nodes (n.before + i)
  its_node i below =
      let few = P.few in
      let all = P.agree.nodes in
      sym (among_at n.before lives n.behind i (omega (arith, below, long)))
      ∙ same_node (slice_get (nodes_held n).network.nodes (n.before + i)) (slice_get t.nodes (n.before + i))
      (sym (own-node (nodes_held n).network (n.before + i) (λ e. omega (arith, e, all, few, ends, below)))
      ∙ P.agree.own (n.before + i) (and_from _ _ (le-leb n.before (n.before + i) (omega arith)) (lt-ltb (n.before + i) (n.before + count) (omega (arith, below))))
      ∙ own-node t (n.before + i) (λ e. omega (arith, e, few, ends, below)))

  its_nodes : lives ≡ take count (drop n.before t.nodes)
  its_nodes = same_items lives (take count (drop n.before t.nodes)) (λ i. elim (cases_lt i count) [
    | inl below ↦ its_node i below ∙ sym (get_take count (drop n.before t.nodes) i below ∙ get_drop n.before t.nodes i)
    | inr past ↦ (let few = P.few in
        let left = length-drop n.before t.nodes in
        let taken = length-take-le count (drop n.before t.nodes) (omega (arith, few, left, ends)) in
        slice_get_past lives i (omega (arith, long, past)) ∙ sym (slice_get_past (take count (drop n.before t.nodes)) i (omega (arith, taken, past))))
  ])

  all_nodes : map (λ node. node.live) now.nodes.items ≡ drop n.before t.nodes
  all_nodes =
      ap (map (λ node. node.live)) nodes ∙ map-append (λ node. node.live) n.nodes.items a.nodes.items
      ∙ ap (λ ns. ns ++ map (λ node. node.live) a.nodes.items) its_nodes
      ∙ ap (λ ns. take count (drop n.before t.nodes) ++ ns) (P.behind.nodes ∙ ap (λ k. drop k t.nodes) (sym ends) ∙ sym (drop-drop count n.before t.nodes))
      ∙ take-append-drop count (drop n.before t.nodes)

  on : (line : ℕ) → 4 * n.before ≤ line → on_line now.lines line ≡ on_line t.lines line
  on line low = elim (cases_lt line (4 * (n.before + count))) [
    | inl below ↦ C.within line low below ∙ P.agree.lines line (run_sends (length t.nodes) n.before (n.before + count) line (let few = P.few in omega (arith, few, ends)) low below)
    | inr past ↦ C.behind line past ∙ P.behind.lines line (omega (arith, past, ends))
  ]

  both_live : AreLive now.nodes.items
  both_live i node at =
      get_either n.nodes.items a.nodes.items i node (IsLive node) (subst (λ ns. slice_get ns i ≡ Some node) nodes at) (λ here. live i node here) (λ j there. P.behind.live j node there)

  -- With the run the network has its nodes, too.
  pub run_holds : HoldsFrom t n.before now
  run_holds = record {
    wires = wires ∙ P.behind.wires;
    nodes = all_nodes;
    ports = ap (map (λ port. port.port)) ports ∙ P.behind.ports;
    count = C.count ∙ P.behind.count;
    lines = on;
    empty = λ line low. C.below line low ∙ P.behind.empty line (omega (arith, low, ends));
    live = both_live;
  }

-- ## One run after another

-- the first node of the run at a place, or where the last one ends
abbrev pub start_at : ℕ → List NodeRun → ℕ → ℕ
start_at past rs i = (get_or rs i (past, past)).0

start_there : (past : ℕ) (rs : List NodeRun) (i : ℕ) → i < length rs → start_at past rs i ≡ (run_at rs i).0
start_there past [] i below = absurd (omega (arith, below))
start_there past (r ∷ rs) zero below = refl
start_there past (r ∷ rs) (suc i) below = start_there past rs i (omega (arith, below))

-- a run ends where the next one begins
start_next : (first past : ℕ) (rs : List NodeRun) (i : ℕ) → AreNeighbours first past rs → i < length rs → start_at past rs (suc i) ≡ (run_at rs i).1
start_next first past [] i C below = absurd (omega (arith, below))
start_next first past (r ∷ []) zero C below = sym C.2
start_next first past (r ∷ q ∷ rs) zero C below = C.2.0
start_next first past (r ∷ rs) (suc i) C below = start_next r.1 past rs i C.2 (omega (arith, below))

-- the first one begins with the first node
pub start_first : (first past : ℕ) (rs : List NodeRun) → AreNeighbours first past rs → start_at past rs 0 ≡ first
start_first first past [] C = sym C
start_first first past (r ∷ rs) C = C.0

module _ (t : Network NodeState) (items : List NetPart) (a : Apart) (B : AreBefore t items a) where
  abbrev piece_is : ℕ → HeldPart → Type 0
  piece_is i held = has held ≡ whose (run_at B.rs i).0 (Some (run_at B.rs i).1)

  piece_at : (i : ℕ) (part : NetPart) → i < length items → slice_index_or items i no_part ≡ part → piece_is i (held_part part)
  piece_at i part below at = ap (λ p. has (held_part p)) (sym at) ∙ B.run i (let many = B.many in omega (arith, many, below))

  -- none of them is the host
  pub not_host : (i : ℕ) (held : HeldPart) → i < length items → slice_index_or items i no_part ≡ Host held → held.past ≡ None → ⊥
  not_host i held below at endless = no_run held.first (run_at B.rs i).0 (run_at B.rs i).1 (ap (whose held.first) (sym endless) ∙ piece_at i (Host held) below at)

  module _ (i : ℕ) (held : HeldPart) (past : ℕ) (below : i < length items) (at : slice_index_or items i no_part ≡ Nodes held) (ends : held.past ≡ Some past) where
    inside : i < length B.rs
    inside = let many = B.many in omega (arith, many, below)

    which : (held.first ≡ (run_at B.rs i).0) × (past ≡ (run_at B.rs i).1)
    which = same_run held.first past (run_at B.rs i).0 (run_at B.rs i).1 (chain_within 0 (length t.nodes) B.rs i B.chain inside).1 (ap (whose held.first) (sym ends) ∙ piece_at i (Nodes held) below at)

    -- the run goes before those after it
    pub goes_before : (now : Apart) → HoldsFrom t (start_at (length t.nodes) B.rs (i + 1)) now → Precedes t held now
    goes_before now H = record {
      past = past;
      ends = ends;
      few = (let most = (chain_within 0 (length t.nodes) B.rs i B.chain inside).2 in let is = which.1 in omega (arith, most, is));
      behind = subst (λ k. HoldsFrom t k now) (ap (start_at (length t.nodes) B.rs) (let e : i + 1 ≡ suc i = omega arith in e) ∙ start_next 0 (length t.nodes) B.rs i B.chain inside ∙ sym which.1) H;
      agree = subst (λ part. Agrees (has (held_part part)) t (held_part part).network) at (B.agree i below);
    }

    pub begins : (now : Apart) → HoldsFrom t held.first now → HoldsFrom t (start_at (length t.nodes) B.rs i) now
    begins now H = subst (λ k. HoldsFrom t k now) (which.0 ∙ sym (start_there (length t.nodes) B.rs i inside)) H

-- ## The whole network

-- all that is there is the network
pub holds_all : (t : Network NodeState) (a : Apart) → HoldsFrom t 0 a → network_apart a ≡ t
holds_all t a H = λ i. record { wires = H.wires i; nodes = H.nodes i; ports = H.ports i; lines = on i }
  where
    on : a.lines ≡ t.lines
    on = same_lines a.lines t.lines H.count (λ line below. H.lines line (omega arith))

module _ (items : List NetPart) (C : CanJoin items) (k : ℕ) (long : length items ≡ k + 1) where
  runs_long : k ≡ length C.rs
  runs_long = let many = C.dealt.many in omega (arith, many, long)

  -- the last part isn't a run
  pub last_is_host : (held : HeldPart) (past : ℕ) → slice_index_or items k no_part ≡ Nodes held → held.past ≡ Some past → ⊥
  last_is_host held past at ends =
      no_run (length C.whole.nodes) held.first past (sym C.dealt.host ∙ ap (pieces_of items) (sym runs_long) ∙ ap (λ p. has (held_part p)) at ∙ ap (whose held.first) ends)

  -- a network with which each part agrees has as many nodes
  as_many : (t : Network NodeState) → AgreeAll items t → length t.nodes ≡ length C.whole.nodes
  as_many t A = sym (A 0 (omega (arith, long))).nodes ∙ (C.agree 0 (omega (arith, long))).nodes

  read_front : (i : ℕ) → i < k → slice_index_or (take k items) i no_part ≡ slice_index_or items i no_part
  read_front i below = get_or-take k items i no_part below

  front_long : length (take k items) ≡ k
  front_long = length-take-le k items (omega (arith, long))

  pub are_before : (t : Network NodeState) (a : Apart) → AgreeAll items t → HoldsFrom t (length t.nodes) a → AreBefore t (take k items) a
  are_before t a A H = record {
    rs = C.rs;
    chain = subst (λ n. AreNeighbours 0 n C.rs) (sym (as_many t A)) C.dealt.chain;
    many = front_long ∙ runs_long;
    run = λ i below. ap (λ p. has (held_part p)) (read_front i (omega (arith, below, runs_long))) ∙ C.dealt.run i below;
    agree = λ i below. subst (λ p. Agrees (has (held_part p)) t (held_part p).network) (sym (read_front i (omega (arith, below, front_long)))) (A i (omega (arith, below, front_long, long)));
    behind = H;
  }

-- ## A part that is taken off the end

module _ (items left rest : List NetPart) (part : NetPart) (so : left ≡ take (length left) items) (took : left ≡ rest ++ part ∷ []) where
  pub left_long : length left ≡ length rest + 1
  left_long = ap length took ∙ length-append rest (part ∷ [])

  pub was_there : length rest < length items
  was_there = let few = ap length so ∙ length-take (length left) items in omega (arith, few, left_long)

  pub was_last : slice_index_or items (length rest) no_part ≡ part
  was_last =
      sym (get_or-take (length left) items (length rest) no_part (omega (arith, left_long)))
      ∙ ap (λ ps. slice_index_or ps (length rest) no_part) (sym so ∙ took) ∙ get_or_at rest part [] no_part (length rest) refl

  pub are_left : rest ≡ take (length rest) items
  are_left =
      sym (take_at rest (part ∷ []) (length rest) refl) ∙ ap (take (length rest)) (sym took ∙ so)
      ∙ take-take (length rest) (length left) items (omega (arith, left_long))

-- The runs before the host are before what is there of each network with which all parts agree.
pub all_before : (items : List NetPart) → CanJoin items → (rest : List NetPart) (last : NetPart) (host : HeldPart) → items ≡ rest ++ last ∷ [] → last ≡ Host host → (a : Apart)
    → ((t : Network NodeState) → Agrees (has host) t host.network → HoldsFrom t (length t.nodes) a) → (t : Network NodeState) → AgreeAll items t → AreBefore t rest a
all_before items C rest last host are is a holds t A =
    let long = ap length are ∙ length-append rest (last ∷ []) in
    let at : slice_index_or items (length rest) no_part ≡ Host host = ap (λ ps. slice_index_or ps (length rest) no_part) are ∙ get_or_at rest last [] no_part (length rest) refl ∙ is in
    let agrees = subst (λ part. Agrees (has (held_part part)) t (held_part part).network) at (A (length rest) (omega (arith, long))) in
    subst (λ ps. AreBefore t ps a) (ap (take (length rest)) are ∙ take_at rest (last ∷ []) (length rest) refl) (are_before items C (length rest) long t a A (holds t agrees))
