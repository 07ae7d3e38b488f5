-- A network that is joined from its parts, the last of them first.
use Rattle.std.specs.Prelude.{◌≡◌, ◌<◌, ◌≤◌, ℕ, ◌*◌, List, [], length, map, drop, Some}
use Rattle.tp_replay.specs.Lower.{NodeState, Network, on_line, Agrees}
use Rattle.tp_replay.specs.declared.pieces.apart.Apart.{Apart}
use Rattle.tp_replay.specs.declared.pieces.net_part.NetPart.{NetPart}
use Rattle.tp_replay.specs.Dealing.{AgreeAll, pieces_of}
use Rattle.tp_replay.specs.Held.{HeldPart, has}
use Rattle.tp_replay.specs.NodesInside.{AreLive}
use Rattle.tp_replay.specs.Runs.{AreNeighbours, NodeRun, run_at}
use Rattle.tp_replay.specs.Whose.{whose}

-- It is t so far: it has the nodes from `first` on, with the lines from theirs on, and the ports; the lines before these are empty.
pub record HoldsFrom (t : Network NodeState) (first : ℕ) (a : Apart) : Type 0 where
  pub wires : a.wires.items ≡ t.wires
  pub nodes : map (λ node. node.live) a.nodes.items ≡ drop first t.nodes
  pub ports : map (λ port. port.port) a.ports.items ≡ t.ports
  pub count : length a.lines ≡ length t.lines
  pub lines : (line : ℕ) → 4 * first ≤ line → on_line a.lines line ≡ on_line t.lines line
  pub empty : (line : ℕ) → line < 4 * first → on_line a.lines line ≡ []
  pub live : AreLive a.nodes.items

-- A run has its own as t has it, and goes right before what is there of t.
pub record Precedes (t : Network NodeState) (run : HeldPart) (a : Apart) : Type 0 where
  pub past : ℕ
  pub ends : run.past ≡ Some past
  pub few : past ≤ length t.nodes
  pub behind : HoldsFrom t past a
  pub agree : Agrees (has run) t run.network

-- Runs have all nodes of t, in their order, as t has them; of t the host's is there.
pub record AreBefore (t : Network NodeState) (runs : List NetPart) (a : Apart) : Type 0 where
  pub rs : List NodeRun
  pub chain : AreNeighbours 0 (length t.nodes) rs
  pub many : length runs ≡ length rs
  pub run : (i : ℕ) → i < length rs → pieces_of runs i ≡ whose (run_at rs i).0 (Some (run_at rs i).1)
  pub agree : AgreeAll runs t
  pub behind : HoldsFrom t (length t.nodes) a
