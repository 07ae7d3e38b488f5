-- The parts into which a network is dealt have its own.
use Rattle.std.proofs.Common.{◌≡◌, ℕ, zero, suc, ◌+◌, ◌-◌, ◌*◌, ◌<◌, ◌≤◌, Bool, true, false, cond, inl, inr, List, [], ◌∷◌, ◌++◌, length, map, take, drop, replicate, slice_index_or, refl, sym, ap, subst, ◌∙◌, arith, Option, Some, None, slice_get, nat_lt, nat_le, length-append, length-drop, All}
use Rattle.tp_replay.proofs.Lower.{option_map, and_parts, cases_eq, cases_lt, le-ltb, leb-true, lt-ltb, ltb-true, drop-drop, get_or-map, get_or_append_left, get_or_at, get_or_default, length-map, length-replicate, length-take-le, map-append, take-map, drop-map, slice_get_past, NodeState, Network, OfNode, OfHost, on_line, own, own-host, own-node, Agrees, NodeContents}
use Rattle.tp_replay.specs.Dealt.{first_of}
use Rattle.tp_replay.specs.Whole.{AreWhole}
use Rattle.tp_replay.specs.declared.pieces.apart.Apart.{Apart}
use Rattle.tp_replay.specs.declared.pieces.host_part.HostPart.TheInside.{Inside as HostInside}
use Rattle.tp_replay.specs.declared.pieces.net_part.NetPart.{NetPart}
use Rattle.tp_replay.specs.declared.pieces.net_part.NetPart.TheVariants.{Nodes, Host}
use Rattle.tp_replay.specs.Apart.{CanSplit, network_apart}
use Rattle.tp_replay.specs.Blank.{among, blank_node, blank_port}
use Rattle.tp_replay.specs.Counts.{room_of}
use Rattle.tp_replay.specs.Dealing.{networks_of, new_part, no_part, pieces_of, run_held, run_part}
use Rattle.tp_replay.specs.Held.{HeldPart, has}
use Rattle.tp_replay.specs.HostInside.{host_held}
use Rattle.tp_replay.specs.Parts.{held_part, net_room}
use Rattle.tp_replay.specs.Runs.{AreDealt, NodeRun, run_at, runs, some_run}
use Rattle.tp_replay.specs.Whose.{whose}
use Rattle.tp_replay.proofs.Among.{among_at, length_among}
use Rattle.tp_replay.proofs.Chains.{chain_runs, chain_within, dealt_cover, runs_more}
use Rattle.tp_replay.proofs.Counting.{room_most}
use Rattle.tp_replay.proofs.Stretch.{get_drop, get_take}

-- ## One worker after another

new_is : (u : Network NodeState) (nodes : List NodeContents) (first past count : ℕ) → first + count ≡ past
    → map (run_part u nodes) (some_run first past) ≡ new_part u first count (drop first nodes)
new_is u nodes first past count ends = elim (cases_lt first past) [
  | inl some ↦ ap (λ b. map (run_part u nodes) (cond b ((first, past) ∷ []) [])) (lt-ltb first past some)
      ∙ ap (λ n. Nodes (run_held u first (take n (drop first nodes))) ∷ []) (let e : past - first ≡ count = omega (arith, ends) in e)
      ∙ sym (ap (λ b. cond b (Nodes (run_held u first (take count (drop first nodes))) ∷ []) []) (lt-ltb 0 count (omega (arith, ends, some))))
  | inr none ↦ ap (λ b. map (run_part u nodes) (cond b ((first, past) ∷ []) [])) (le-ltb first past none)
      ∙ sym (ap (λ b. cond b (Nodes (run_held u first (take count (drop first nodes))) ∷ []) []) (le-ltb 0 count (omega (arith, ends, none))))
]

-- the parts with the next worker's
pub dealt_more : (u : Network NodeState) (nodes : List NodeContents) (n workers w first count : ℕ) (parts : List NetPart) → first ≡ first_of n workers w → first + count ≡ first_of n workers (w + 1)
    → parts ≡ map (run_part u nodes) (runs n workers w)
    → parts ++ new_part u first count (drop first nodes) ≡ map (run_part u nodes) (runs n workers (w + 1))
dealt_more u nodes n workers w first count parts from ends so =
    ap (λ ps. ps ++ new_part u first count (drop first nodes)) so
    ∙ ap (λ ps. map (run_part u nodes) (runs n workers w) ++ ps) (sym (new_is u nodes first (first_of n workers (w + 1)) count ends))
    ∙ ap (λ k. map (run_part u nodes) (runs n workers w) ++ map (run_part u nodes) (some_run k (first_of n workers (w + 1)))) from
    ∙ sym (map-append (run_part u nodes) (runs n workers w) (some_run (first_of n workers w) (first_of n workers (w + 1))))
    ∙ ap (map (run_part u nodes)) (sym (runs_more n workers w))

-- the nodes that are left
pub rest_more : (nodes rest : List NodeContents) (first count past : ℕ) → rest ≡ drop first nodes → first + count ≡ past → drop count rest ≡ drop past nodes
rest_more nodes rest first count past is ends = ap (drop count) is ∙ drop-drop count first nodes ∙ ap (λ n. drop n nodes) ends

-- ## Parts at their places

module _ (u : Network NodeState) (nodes : List NodeContents) (rs : List NodeRun) (host : HeldPart) where
  abbrev all : List NetPart
  all = map (run_part u nodes) rs ++ Host host ∷ []

  pub many_parts : length all ≡ length rs + 1
  many_parts = length-append (map (run_part u nodes) rs) (Host host ∷ []) ∙ ap (λ n. n + 1) (length-map rs (run_part u nodes))

  pub at_run : (i : ℕ) → i < length rs → slice_index_or all i no_part ≡ run_part u nodes (run_at rs i)
  at_run i below =
      get_or_append_left (map (run_part u nodes) rs) (Host host ∷ []) no_part i (let long = length-map rs (run_part u nodes) in omega (arith, long, below))
      ∙ get_or-map (run_part u nodes) rs i (0, 0) no_part below

  pub at_host : slice_index_or all (length rs) no_part ≡ Host host
  at_host = get_or_at (map (run_part u nodes) rs) (Host host) [] no_part (length rs) (length-map rs (run_part u nodes))

-- ## What a run has

-- how many nodes it has, and where it ends
pub run_long : (nodes : List NodeContents) (r : NodeRun) → r.0 ≤ r.1 → r.1 ≤ length nodes → length (take (r.1 - r.0) (drop r.0 nodes)) ≡ r.1 - r.0
run_long nodes r up most = let left = length-drop r.0 nodes in length-take-le (r.1 - r.0) (drop r.0 nodes) (omega (arith, left, up, most))

pub run_has : (u : Network NodeState) (nodes : List NodeContents) (r : NodeRun) → r.0 ≤ r.1 → r.1 ≤ length nodes → has (held_part (run_part u nodes r)) ≡ whose r.0 (Some r.1)
run_has u nodes r up most =
    let long = run_long nodes r up most in
    let ends : r.0 + length (take (r.1 - r.0) (drop r.0 nodes)) ≡ r.1 = omega (arith, long, up) in
    ap (λ past. whose r.0 (Some past)) ends

-- A run has its nodes as they are in the network.
module _ (s u : Network NodeState) (nodes : List NodeContents) (r : NodeRun) (wires : u.wires ≡ s.wires) (lines : u.lines ≡ s.lines) (many : length u.nodes ≡ length s.nodes) (ports : length u.ports ≡ length s.ports)
    (are : s.nodes ≡ map (λ node. node.live) nodes) (up : r.0 ≤ r.1) (most : r.1 ≤ length nodes) where
  abbrev lives : List NodeState
  lives = map (λ node. node.live) (take (r.1 - r.0) (drop r.0 nodes))

  abbrev net : Network NodeState
  net = (held_part (run_part u nodes r)).network

  full : length lives ≡ r.1 - r.0
  full = length-map (take (r.1 - r.0) (drop r.0 nodes)) (λ node. node.live) ∙ run_long nodes r up most

  all_nodes : length s.nodes ≡ length nodes
  all_nodes = ap length are ∙ length-map nodes (λ node. node.live)

  long : length net.nodes ≡ length s.nodes
  long =
      let whole = length_among r.0 lives (length u.nodes - (r.0 + length (take (r.1 - r.0) (drop r.0 nodes)))) in
      let own = run_long nodes r up most in
      omega (arith, whole, own, full, all_nodes, many, up, most)

  -- its nodes, out of all
  live_at : (i : ℕ) → i < r.1 - r.0 → slice_get lives i ≡ slice_get s.nodes (r.0 + i)
  live_at i below =
      ap (λ ns. slice_get ns i) (sym (take-map (λ node. node.live) (r.1 - r.0) (drop r.0 nodes)))
      ∙ get_take (r.1 - r.0) (map (λ node. node.live) (drop r.0 nodes)) i below
      ∙ ap (λ ns. slice_get ns i) (sym (drop-map (λ node. node.live) r.0 nodes))
      ∙ get_drop r.0 (map (λ node. node.live) nodes) i
      ∙ ap (λ ns. slice_get ns (r.0 + i)) (sym are)

  owns : (p : ℕ) → whose r.0 (Some r.1) p ≡ true → own net p ≡ own s p
  owns p h =
      let both = and_parts (nat_le r.0 p) (nat_lt p r.1) h in
      let low = leb-true r.0 p both.0 in
      let high = ltb-true p r.1 both.1 in
      let place : r.0 + (p - r.0) ≡ p = omega arith in
      own-node net p (λ e. omega (arith, e, long, all_nodes, high, most))
      ∙ ap (option_map OfNode) (ap (slice_get net.nodes) (sym place)
      ∙ among_at r.0 lives (length u.nodes - (r.0 + length (take (r.1 - r.0) (drop r.0 nodes)))) (p - r.0) (omega (arith, full, low, high))
      ∙ live_at (p - r.0) (omega (arith, low, high)) ∙ ap (slice_get s.nodes) place)
      ∙ sym (own-node s p (λ e. omega (arith, e, all_nodes, high, most)))

  pub run_agrees : Agrees (has (held_part (run_part u nodes r))) s (held_part (run_part u nodes r)).network
  run_agrees =
      subst (λ piece. Agrees piece s net) (sym (run_has u nodes r up most))
      (record { wires = wires; nodes = long; ports = length-replicate (length u.ports) blank_port ∙ ports; count = ap length lines; own = owns; lines = λ l _. ap (λ ls. on_line ls l) lines })

-- The host has its ports, and every process that doesn't exist.
pub host_agrees : (s u : Network NodeState) → u.wires ≡ s.wires → u.lines ≡ s.lines → length u.nodes ≡ length s.nodes → u.ports ≡ s.ports → Agrees (whose (length s.nodes) None) s u
host_agrees s u wires lines many ports = record { wires = wires; nodes = many; ports = ap length ports; count = ap length lines; own = owns; lines = λ l _. ap (λ ls. on_line ls l) lines }
  where
    owns : (p : ℕ) → whose (length s.nodes) None p ≡ true → own u p ≡ own s p
    owns p h = elim (cases_eq p (length s.nodes)) [
      | inl host ↦ ap (own u) (host ∙ sym many) ∙ own-host u ∙ ap (λ ps. Some (OfHost ps)) ports ∙ sym (own-host s) ∙ ap (own s) (sym host)
      | inr apart ↦ (let past = leb-true (length s.nodes) p h in
          own-node u p (λ e. apart (e ∙ many)) ∙ ap (option_map OfNode) (slice_get_past u.nodes p (omega (arith, many, past)) ∙ sym (slice_get_past s.nodes p past)) ∙ sym (own-node s p apart))
    ]

-- ## The whole network

-- The parts of a network that is taken apart, with the host last.
module _ (a : Apart) (host : HostInside) (workers : ℕ) (can : CanSplit a) (some : 0 < workers) (many : host.nodes ≡ length a.nodes.items) (ports : host.ports.items ≡ a.ports.items) (wires : host.lanes.wires ≡ a.wires.items)
    (lines : host.lanes.lines ≡ a.lines) where
  abbrev around : Network NodeState
  around = (host_held host).network

  abbrev rs : List NodeRun
  rs = runs (length a.nodes.items) workers workers

  abbrev parts : List NetPart
  parts = map (run_part around a.nodes.items) rs ++ Host (host_held host) ∷ []

  all_long : length (network_apart a).nodes ≡ length a.nodes.items
  all_long = length-map a.nodes.items (λ node. node.live)

  around_long : length around.nodes ≡ length (network_apart a).nodes
  around_long = length-replicate host.nodes blank_node ∙ many ∙ sym all_long

  around_ports : around.ports ≡ (network_apart a).ports
  around_ports = ap (map (λ port. port.port)) ports

  within : (i : ℕ) → i < length rs → ((run_at rs i).0 ≤ (run_at rs i).1) × ((run_at rs i).1 ≤ length a.nodes.items)
  within i below = let W = chain_within 0 (length a.nodes.items) rs i (chain_runs (length a.nodes.items) workers some) below in (let up = W.1 in omega (arith, up), W.2)

  pub parts_dealt : AreDealt (length a.nodes.items) rs (length parts) (pieces_of parts)
  parts_dealt = record {
    chain = chain_runs (length a.nodes.items) workers some;
    many = many_parts around a.nodes.items rs (host_held host);
    run = λ i below. ap (λ part. has (held_part part)) (at_run around a.nodes.items rs (host_held host) i below)
        ∙ run_has around a.nodes.items (run_at rs i) (within i below).0 (within i below).1;
    host = ap (λ part. has (held_part part)) (at_host around a.nodes.items rs (host_held host)) ∙ ap (λ n. whose n None) many;
  }

  agree_at : (i : ℕ) → i < length parts → Agrees (pieces_of parts i) (network_apart a) (networks_of parts i)
  agree_at i below = elim (cases_lt i (length rs)) [
    | inl run ↦ subst (λ part. Agrees (has (held_part part)) (network_apart a) (held_part part).network) (sym (at_run around a.nodes.items rs (host_held host) i run))
        (run_agrees (network_apart a) around a.nodes.items (run_at rs i) wires lines around_long (ap length around_ports) refl (within i run).0 (within i run).1)
    | inr past ↦ (let long = many_parts around a.nodes.items rs (host_held host) in
        let last : i ≡ length rs = omega (arith, long, below, past) in
        let at : slice_index_or parts i no_part ≡ Host (host_held host) = ap (λ k. slice_index_or parts k no_part) last ∙ at_host around a.nodes.items rs (host_held host) in
        subst (λ part. Agrees (has (held_part part)) (network_apart a) (held_part part).network) (sym at)
        (subst (λ n. Agrees (whose n None) (network_apart a) around) (all_long ∙ sym many) (host_agrees (network_apart a) around wires lines around_long around_ports)))
  ]

  pub parts_whole : AreWhole (network_apart a) (length parts) (pieces_of parts) (networks_of parts)
  parts_whole = record { sound = can.sound; unmarked = can.unmarked; covers = dealt_cover (length a.nodes.items) rs (length parts) (pieces_of parts) parts_dealt; agree = agree_at }

  pub parts_room : All (λ part. room_of (network_apart a).ports ≤ net_room part) parts
  parts_room i d below = elim (cases_lt i (length rs)) [
    | inl run ↦ subst (λ part. room_of (network_apart a).ports ≤ net_room part)
        (sym (get_or_default parts i d no_part below ∙ at_run around a.nodes.items rs (host_held host) i run)) (let most = room_most (network_apart a).ports in omega (arith, most))
    | inr past ↦ (let long = many_parts around a.nodes.items rs (host_held host) in
        let last : i ≡ length rs = omega (arith, long, below, past) in
        let at : slice_index_or parts i d ≡ Host (host_held host) = get_or_default parts i d no_part below ∙ ap (λ k. slice_index_or parts k no_part) last ∙ at_host around a.nodes.items rs (host_held host) in
        subst (λ part. room_of (network_apart a).ports ≤ net_room part) (sym at) (let same : room_of (network_apart a).ports ≡ room_of around.ports = ap room_of (sym around_ports) in omega (arith, same)))
  ]
