-- The parts into which a network is dealt.
use Rattle.std.specs.Prelude.{◌≡◌, ◌<◌, ℕ, ◌+◌, ◌-◌, nat_lt, if◌then◌else◌, List, [], ◌∷◌, length, map, replicate, take, drop, slice_index_or, None, Some}
use Rattle.tp_replay.specs.Lower.{NodeState, Network, Agrees, Piece, NodeContents}
use Rattle.tp_replay.specs.declared.pieces.net_part.NetPart.{NetPart}
use Rattle.tp_replay.specs.declared.pieces.net_part.NetPart.TheVariants.{Nodes, Host}
use Rattle.tp_replay.specs.Blank.{among, blank_port}
use Rattle.tp_replay.specs.Held.{HeldPart, has}
use Rattle.tp_replay.specs.Parts.{held_part}
use Rattle.tp_replay.specs.Runs.{AreDealt, NodeRun, runs}

-- nodes from `first` on, as a part of a network: wires and lines are those of the network
abbrev pub run_held : Network NodeState → ℕ → List NodeContents → HeldPart
run_held s first nodes = record {
  first = first;
  past = Some (first + length nodes);
  network = record {
    wires = s.wires;
    nodes = among first (map (λ node. node.live) nodes) (length s.nodes - (first + length nodes));
    ports = replicate (length s.ports) blank_port;
    lines = s.lines;
  };
}

-- the part of a run, out of all nodes
abbrev pub run_part : Network NodeState → List NodeContents → NodeRun → NetPart
run_part s nodes run = Nodes (run_held s run.0 (take (run.1 - run.0) (drop run.0 nodes)))

-- the part of a run whose nodes are the first ones of a list, if it has some
abbrev pub new_part : Network NodeState → ℕ → ℕ → List NodeContents → List NetPart
new_part s first count rest = if nat_lt 0 count then Nodes (run_held s first (take count rest)) ∷ [] else []

-- what comes in place of a part that doesn't exist
abbrev pub no_part : NetPart
no_part = Host (record { first = 0; past = None; network = record { wires = []; nodes = []; ports = []; lines = [] } })

-- of each part of a list, which processes it has, and the network with these
abbrev pub pieces_of : List NetPart → ℕ → Piece
pieces_of parts i = has (held_part (slice_index_or parts i no_part))

abbrev pub networks_of : List NetPart → ℕ → Network NodeState
networks_of parts i = (held_part (slice_index_or parts i no_part)).network

-- Each part has its own as t has it.
abbrev pub AgreeAll : List NetPart → Network NodeState → Type 0
AgreeAll parts t = (i : ℕ) → i < length parts → Agrees (pieces_of parts i) t (networks_of parts i)

-- They can be joined: their runs and the host are in order, and each has its own as some network has it.
pub record CanJoin (parts : List NetPart) : Type 0 where
  pub whole : Network NodeState
  pub rs : List NodeRun
  pub dealt : AreDealt (length whole.nodes) rs (length parts) (pieces_of parts)
  pub agree : AgreeAll parts whole
