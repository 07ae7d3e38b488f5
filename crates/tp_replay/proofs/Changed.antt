-- The fields of a run of nodes, after an entry.
use Rattle.std.proofs.Common.{◌≡◌, ℕ, ◌+◌, ◌*◌, ◌<◌, Bool, true, false, inl, inr, List, length, map, set, refl, sym, ap, subst, ◌∙◌, arith, Some, None, slice_get, length-set, nat_le}
use Rattle.std.specs.Prelude.{MatchBool, ◌&&◌}
use Rattle.tp_replay.proofs.Lower.{option_map, with_item, cases_eq, lt-ltb, le-ltb, le-leb, length-map, map-set, slice_get-map, slice_get_within, Token, Entry, OfNode, own, has_wire, sent, process, of_node, does, t414, slice_get-set_same, slice_get-set_other, NodeContents, on_lines, own_there}
use Rattle.tp_replay.specs.declared.pieces.nodes_part.NodesPart.TheInside.{Inside}
use Rattle.tp_replay.specs.Blank.{among}
use Rattle.tp_replay.specs.Held.{HeldPart, has}
use Rattle.tp_replay.specs.Lanes.{LanesValue, Overfills, SameLanes}
use Rattle.tp_replay.specs.Behind.{SameProcesses, DoesRest}
use Rattle.tp_replay.specs.NodesInside.{AreLive, IsLive, IsNodesInside, nodes_held}
use Rattle.tp_replay.proofs.Acts.{refuses, node_settled}
use Rattle.tp_replay.proofs.Among.{among_at, among_set, length_among}

module _ (n : Inside) (I : IsNodesInside n) where
  -- how many nodes its network has
  pub count : length (nodes_held n).network.nodes ≡ n.before + length n.nodes.items + n.behind
  count = length_among n.before (map (λ node. node.live) n.nodes.items) n.behind ∙ ap (λ k. n.before + k + n.behind) (length-map n.nodes.items (λ node. node.live))

  -- whatever is kept of instructions
  pub same_inside : (m : Inside) → m.before ≡ n.before → m.behind ≡ n.behind → m.nodes ≡ n.nodes → m.ports ≡ n.ports → m.lanes ≡ n.lanes → IsNodesInside m
  same_inside m before behind nodes ports lanes = record {
    few = rw (before, behind, nodes) I.few;
    few_ports = rw ports I.few_ports;
    wires = rw (before, behind, nodes, ports, lanes) I.wires;
    lines = rw (before, behind, nodes, ports, lanes) I.lines;
    live = rw nodes I.live;
  }

  -- one of its own
  pub node_at : (i : ℕ) (node : NodeContents) → slice_get n.nodes.items i ≡ Some node → slice_get (nodes_held n).network.nodes (n.before + i) ≡ Some node.live
  node_at i node at =
      among_at n.before (map (λ node. node.live) n.nodes.items) n.behind i (omega (arith, slice_get_within n.nodes.items i node at, length-map n.nodes.items (λ node. node.live)))
      ∙ slice_get-map (λ node. node.live) n.nodes.items i ∙ ap (option_map (λ node. node.live)) at

  pub has_own : (i : ℕ) → i < length n.nodes.items → has (nodes_held n) (n.before + i) ≡ true
  has_own i below = rw (le-leb n.before (n.before + i) (omega arith), lt-ltb (n.before + i) (n.before + length n.nodes.items) (omega (arith, below)))

  -- the host is none of them
  pub not_host : has (nodes_held n) (length (nodes_held n).network.nodes) ≡ false
  not_host = rw (le-ltb (length (nodes_held n).network.nodes) (n.before + length n.nodes.items) (omega (arith, count))) (never (nat_le n.before (length (nodes_held n).network.nodes)))
    where
      never : (b : Bool) → (b && false) ≡ false
      never true = refl
      never false = refl

  -- one of its nodes can't do the entry
  pub node_cannot : (now : HeldPart) (e : Entry) (i : ℕ) (node : NodeContents) → SameProcesses (nodes_held n) now → process (nodes_held n).network.wires (length (nodes_held n).network.nodes) e ≡ n.before + i → slice_get n.nodes.items i ≡ Some node
      → does t414 n.lanes.wires (length (nodes_held n).network.nodes) e (OfNode node.live) ≡ None → DoesRest (nodes_held n) e false now
  node_cannot now e i node same whose at none =
      refuses (nodes_held n) now e (OfNode node.live) same (ap (has (nodes_held n)) whose ∙ has_own i (slice_get_within n.nodes.items i node at))
      (ap (own (nodes_held n).network) whose ∙ own_there (nodes_held n).network (n.before + i) node.live (node_at i node at)) none

  -- other lines, on the wires that it has
  module _ (lanes : LanesValue) (same : SameLanes n.lanes lanes) where
    pub lanes_inside : IsNodesInside (record n { lanes = lanes })
    lanes_inside = record {
      few = I.few;
      few_ports = I.few_ports;
      wires = ap length same.wires ∙ I.wires;
      lines = same.count ∙ I.lines;
      live = I.live;
    }

    pub lanes_network : (nodes_held (record n { lanes = lanes })).network ≡ record (nodes_held n).network { lines = lanes.lines }
    lanes_network = ap (λ wires. record (nodes_held n).network { wires = wires; lines = lanes.lines }) same.wires

    -- and another node
    module _ (i : ℕ) (old new : NodeContents) (there : slice_get n.nodes.items i ≡ Some old) (live : IsLive new) where
      abbrev changed : Inside
      changed = record n { nodes = with_item n.nodes i new; lanes = lanes }

      many : length (set n.nodes.items i new) ≡ length n.nodes.items
      many = length-set n.nodes.items i new

      pub changed_processes : SameProcesses (nodes_held n) (nodes_held changed)
      changed_processes = record { first = refl; past = ap (λ k. Some (n.before + k)) many }

      all_live : AreLive (set n.nodes.items i new)
      all_live j node at = elim (cases_eq j i) [
        | inl same ↦ (let is : Some new ≡ Some node = sym (slice_get-set_same n.nodes.items i new old there) ∙ ap (slice_get (set n.nodes.items i new)) (sym same) ∙ at in
            let it : new ≡ node = cc in
            subst IsLive it live)
        | inr other ↦ I.live j node (sym (slice_get-set_other n.nodes.items i j new other) ∙ at)
      ]

      pub changed_inside : IsNodesInside changed
      changed_inside = record {
        few = omega (arith, I.few, many);
        few_ports = I.few_ports;
        wires = ap length same.wires ∙ I.wires ∙ ap (λ k. 4 * (n.before + k + n.behind) + n.ports) (sym many);
        lines = same.count ∙ I.lines ∙ ap (λ k. 4 * (n.before + k + n.behind) + n.ports) (sym many);
        live = all_live;
      }

      pub changed_network : (nodes_held changed).network ≡ record (nodes_held n).network { nodes = set (nodes_held n).network.nodes (n.before + i) new.live; lines = lanes.lines }
      changed_network =
          ap (λ wires. record (nodes_held changed).network { wires = wires }) same.wires
          ∙ ap (λ nodes. record (nodes_held n).network { nodes = nodes; lines = lanes.lines }) nodes_are
        where
          nodes_are : (nodes_held changed).network.nodes ≡ set (nodes_held n).network.nodes (n.before + i) new.live
          nodes_are =
              ap (λ ns. among n.before ns n.behind) (map-set (λ node. node.live) n.nodes.items i new)
              ∙ sym (among_set n.before (map (λ node. node.live) n.nodes.items) n.behind i new.live (omega (arith, slice_get_within n.nodes.items i old there, length-map n.nodes.items (λ node. node.live))))

      -- the node did the entry
      pub node_did : (e : Entry) (could : Bool) (tokens : List (ℕ × Token)) → process (nodes_held n).network.wires (length (nodes_held n).network.nodes) e ≡ n.before + i
          → does t414 n.lanes.wires (length (nodes_held n).network.nodes) e (OfNode old.live) ≡ Some (of_node (n.before + i) (new.live, tokens))
          → MatchBool could (lanes.lines ≡ sent (has_wire n.lanes.wires) n.lanes.lines (on_lines (n.before + i) tokens)) (Overfills (has_wire n.lanes.wires) n.lanes.lines (on_lines (n.before + i) tokens))
          → DoesRest (nodes_held n) e could (nodes_held changed)
      node_did e could tokens whose change sends =
          node_settled (nodes_held n) (nodes_held changed) e could (n.before + i) old.live new.live tokens lanes.lines changed_processes changed_network whose
          (has_own i (slice_get_within n.nodes.items i old there)) (node_at i old there) change sends
