-- The fields of the host's part, after an entry.
use Rattle.std.proofs.Common.{◌≡◌, ℕ, ◌+◌, ◌*◌, ◌<◌, ◌≤◌, Bool, true, false, List, length, map, set, refl, sym, ap, ◌∙◌, arith, Option, Some, None, slice_get, length-set, option_to_list}
use Rattle.std.specs.Prelude.{MatchBool, is_some}
use Rattle.tp_replay.proofs.Lower.{option_map, with_item, le-leb, lt-leb, length-map, map-set, length-replicate, slice_get-map, Token, Entry, Port, OfHost, has_wire, sent, process, does, of_port, t414, PortValue, sends_on, of_port-is, sends_on-tokens}
use Rattle.tp_replay.specs.declared.pieces.host_part.HostPart.TheInside.{Inside}
use Rattle.tp_replay.specs.Blank.{blank_node}
use Rattle.tp_replay.specs.Held.{has}
use Rattle.tp_replay.specs.Lanes.{LanesValue, Overfills, SameLanes}
use Rattle.tp_replay.specs.Behind.{DoesRest}
use Rattle.tp_replay.specs.HostInside.{host_held, IsHostInside}
use Rattle.tp_replay.proofs.Acts.{other_rests, host_cannot, port_settled, of_port-nowhere, of_port-cannot}

module _ (h : Inside) (I : IsHostInside h) where
  pub count : length (host_held h).network.nodes ≡ h.nodes
  count = length-replicate h.nodes blank_node

  pub has_past : (p : ℕ) → h.nodes ≤ p → has (host_held h) p ≡ true
  has_past p past = le-leb h.nodes p past

  pub has_not : (p : ℕ) → p < h.nodes → has (host_held h) p ≡ false
  has_not p below = lt-leb h.nodes p below

  pub port_at : (i : ℕ) (port : PortValue) → slice_get h.ports.items i ≡ Some port → slice_get (host_held h).network.ports i ≡ Some port.port
  port_at i port at = slice_get-map (λ port. port.port) h.ports.items i ∙ ap (option_map (λ port. port.port)) at

  -- an entry of a node: it is another part's if the node exists, and else nobody's
  pub node_entry : (e : Entry) (node : ℕ) (could : Bool) → process (host_held h).network.wires (length (host_held h).network.nodes) e ≡ node → does t414 h.lanes.wires (length (host_held h).network.nodes) e (OfHost (host_held h).network.ports) ≡ None
      → MatchBool could (node < h.nodes) (h.nodes ≤ node) → DoesRest (host_held h) e could (host_held h)
  node_entry e node true whose none below = other_rests (host_held h) e (ap (has (host_held h)) whose ∙ has_not node below)
  node_entry e node false whose none past =
      host_cannot (host_held h) (host_held h) e (record { first = refl; past = refl }) (omega (arith, whose, past, count)) (ap (has (host_held h)) whose ∙ has_past node past) none

  -- the host can't do it
  pub cannot : (e : Entry) → process (host_held h).network.wires (length (host_held h).network.nodes) e ≡ length (host_held h).network.nodes
      → does t414 h.lanes.wires (length (host_held h).network.nodes) e (OfHost (host_held h).network.ports) ≡ None → DoesRest (host_held h) e false (host_held h)
  cannot e whose none =
      host_cannot (host_held h) (host_held h) e (record { first = refl; past = refl }) (omega (arith, whose)) (ap (has (host_held h)) whose ∙ has_past (length (host_held h).network.nodes) (omega (arith, count))) none

  -- a port that doesn't exist, or can't
  pub port_nowhere : (e : Entry) (p : ℕ) (change : Port → Option (Port × List Token)) → process (host_held h).network.wires (length (host_held h).network.nodes) e ≡ length (host_held h).network.nodes
      → does t414 h.lanes.wires (length (host_held h).network.nodes) e (OfHost (host_held h).network.ports) ≡ of_port (length (host_held h).network.nodes) p (host_held h).network.ports change
      → length h.ports.items ≤ p → DoesRest (host_held h) e false (host_held h)
  port_nowhere e p change whose is past =
      cannot e whose (is ∙ of_port-nowhere (length (host_held h).network.nodes) p (host_held h).network.ports change (omega (arith, past, length-map h.ports.items (λ port. port.port))))

  pub port_cannot : (e : Entry) (p : ℕ) (port : PortValue) (change : Port → Option (Port × List Token)) → process (host_held h).network.wires (length (host_held h).network.nodes) e ≡ length (host_held h).network.nodes
      → does t414 h.lanes.wires (length (host_held h).network.nodes) e (OfHost (host_held h).network.ports) ≡ of_port (length (host_held h).network.nodes) p (host_held h).network.ports change
      → slice_get h.ports.items p ≡ Some port → is_some (change port.port) ≡ false → DoesRest (host_held h) e false (host_held h)
  port_cannot e p port change whose is at isnt =
      cannot e whose (is ∙ of_port-cannot (length (host_held h).network.nodes) p (host_held h).network.ports port.port change (port_at p port at) isnt)

  -- other lines, on the wires that it has
  module _ (lanes : LanesValue) (same : SameLanes h.lanes lanes) where
    pub lanes_inside : IsHostInside (record h { lanes = lanes })
    lanes_inside = record { few = I.few; few_ports = I.few_ports; wires = ap length same.wires ∙ I.wires; lines = same.count ∙ I.lines }

    pub lanes_network : (host_held (record h { lanes = lanes })).network ≡ record (host_held h).network { lines = lanes.lines }
    lanes_network = ap (λ wires. record (host_held h).network { wires = wires; lines = lanes.lines }) same.wires

    -- and another port
    module _ (i : ℕ) (new : PortValue) where
      abbrev changed : Inside
      changed = record h { ports = with_item h.ports i new; lanes = lanes }

      many : length (set h.ports.items i new) ≡ length h.ports.items
      many = length-set h.ports.items i new

      pub changed_inside : IsHostInside changed
      changed_inside = record {
        few = I.few;
        few_ports = omega (arith, I.few_ports, many);
        wires = ap length same.wires ∙ I.wires ∙ ap (λ k. 4 * h.nodes + k) (sym many);
        lines = same.count ∙ I.lines ∙ ap (λ k. 4 * h.nodes + k) (sym many);
      }

      changed_network : (host_held changed).network ≡ record (host_held h).network { ports = set (host_held h).network.ports i new.port; lines = lanes.lines }
      changed_network =
          ap (λ wires. record (host_held changed).network { wires = wires }) same.wires
          ∙ ap (λ ports. record (host_held h).network { ports = ports; lines = lanes.lines }) (map-set (λ port. port.port) h.ports.items i new)

      -- the port did the entry
      pub port_did : (e : Entry) (could : Bool) (old : PortValue) (answer : Option Token) (line : ℕ) (change : Port → Option (Port × List Token)) → process (host_held h).network.wires (length (host_held h).network.nodes) e ≡ length (host_held h).network.nodes
          → does t414 h.lanes.wires (length (host_held h).network.nodes) e (OfHost (host_held h).network.ports) ≡ of_port (length (host_held h).network.nodes) i (host_held h).network.ports change
          → slice_get h.ports.items i ≡ Some old → change old.port ≡ Some (new.port, option_to_list answer) → line ≡ 4 * h.nodes + i
          → MatchBool could (lanes.lines ≡ sent (has_wire h.lanes.wires) h.lanes.lines (sends_on line answer)) (Overfills (has_wire h.lanes.wires) h.lanes.lines (sends_on line answer))
          → DoesRest (host_held h) e could (host_held changed)
      port_did e could old answer line change whose is at did place sends =
          port_settled (host_held h) (host_held changed) e could i new.port (sends_on line answer) lanes.lines (record { first = refl; past = refl }) changed_network whose
          (has_past (length (host_held h).network.nodes) (omega (arith, count)))
          (is ∙ of_port-is (length (host_held h).network.nodes) i (host_held h).network.ports old.port (new.port, option_to_list answer) change (port_at i old at) did
          ∙ ap (λ ms. Some (OfHost (set (host_held h).network.ports i new.port), ms)) (sym out)) sends
        where
          out : sends_on line answer ≡ map (λ t. (4 * length (host_held h).network.nodes + i, t)) (option_to_list answer)
          out = sends_on-tokens line answer ∙ ap (λ l. map (λ t. (l, t)) (option_to_list answer)) (place ∙ ap (λ k. 4 * k + i) (sym count))
