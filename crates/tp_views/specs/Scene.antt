-- What of a network's nodes, lines and ports says who waits for whom.
use Rattle.std.specs.Prelude.{Bool, true, false, not, ◌==◌, nat_le, if◌then◌else◌, List, [], ◌∷◌, map, length, Option, Some, None, slice_get}
use Rattle.tp_views.specs.Lower.{Network, Port, NodeState, MAX_HELD, Token, Fault, WireEnd, has_nobody, listener, sender}
use Rattle.tp_views.specs.declared.waits.scene.Doing.{Doing}
use Rattle.tp_views.specs.declared.waits.scene.Doing.TheVariants.{Halted, Runs, Rests}
use Rattle.tp_views.specs.declared.waits.scene.NodeSeen.{NodeSeen}
use Rattle.tp_views.specs.declared.waits.scene.PortHeld.{PortHeld}
use Rattle.tp_views.specs.declared.waits.scene.Scene.{Scene}
use Rattle.tp_views.specs.declared.waits.since.NodeSince.{NodeSince}

-- what a node does
abbrev pub doing_with : Option Fault → NodeState → Doing
doing_with (Some fault) node = Halted fault node.cpu.iptr
doing_with None node = if has_nobody node then Rests else Runs

abbrev pub doing_of : NodeState → Doing
doing_of node = doing_with node.cpu.halt node

abbrev pub is_halted : Doing → Bool
is_halted (Halted fault at) = true
is_halted Runs = false
is_halted Rests = false

abbrev pub is_resting : Doing → Bool
is_resting Rests = true
is_resting Runs = false
is_resting (Halted fault at) = false

-- and who waits at its links
abbrev pub node_seen : NodeState → NodeSeen
node_seen node = record {
  doing = doing_of node;
  senders = sender node 0 ∷ sender node 1 ∷ sender node 2 ∷ sender node 3 ∷ [];
  listeners = listener node 0 ∷ listener node 1 ∷ listener node 2 ∷ listener node 3 ∷ [];
}

-- a port has input that no node has taken, and has no room for another byte of output
abbrev pub port_held : Port → PortHeld
port_held port = record { has_input = not (length port.pending == 0); is_full = nat_le MAX_HELD (length port.outputs) }

-- a network as far as it says who waits for whom
pub record Seen : Type 0 where
  pub wires : List (Option WireEnd)
  pub nodes : List NodeSeen
  pub fronts : List (Option Token)
  pub ports : List PortHeld
  pub since : List NodeSince

-- of a network in which processes wait since then
abbrev pub scene_of : List (Option WireEnd) → Network NodeState → List NodeSince → Seen
scene_of wires now since = record {
  wires = wires;
  nodes = map node_seen now.nodes;
  fronts = map (λ line. slice_get line 0) now.lines;
  ports = map port_held now.ports;
  since = since;
}

-- a scene's lists
abbrev pub seen_in : Scene → Seen
seen_in scene = record { wires = scene.wires.items; nodes = scene.nodes.items; fronts = scene.fronts.items; ports = scene.ports.items; since = scene.since.items }
