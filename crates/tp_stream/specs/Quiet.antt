-- Turns that had nothing to do, and networks in which nothing is left to do.
use Rattle.std.specs.Prelude.{◌≡◌, ◌<◌, ◌≤◌, ℕ, ◌+◌, false, true, length, None, Ok, IfSome, IsSome}
use Rattle.tp_stream.specs.Lower.{NodeState, Network, node_step, Topology, node_count, Why, Full, Idle, NoFrame, has_recorded_in, BookValue, count_of_nodes, NodeTurn, InHand, HostTurnMade, TurnMade, Turn, Ending, Quiet, Turns, Gone, Halted, AskedTo}
use Rattle.tp_node.specs.declared.run.Why.TheVariants.{Halted as Stopped}
use Rattle.tp_stream.specs.declared.task.Task.{Task}

-- A book of this network was seen in which no snapshot runs. It has as many nodes and ports.
pub record IsStill (start : Network NodeState) : Type 0 where
  pub seen : BookValue
  pub nodes : length seen.state.start.nodes ≡ length start.nodes
  pub ports : length seen.state.ports ≡ length start.ports
  pub still : has_recorded_in seen.state.snapshot (count_of_nodes seen) ≡ false

-- A run ended because the node has no step. A node that lacks a frame has a step left.
abbrev pub HasNoStep : Why → Type 0
HasNoStep Full = ⊥
HasNoStep Idle = Unit {0}
HasNoStep NoFrame = ⊥
HasNoStep Stopped = Unit {0}

-- A worker's turn had nothing to do: it took no token and, if it was a node's, made no step because the node has none.
abbrev pub HadNoWork : Turn → Type 0
HadNoWork turn = (turn.takes ≡ 0) × IfSome turn.ran (λ ran. (ran.count ≡ 0) × HasNoStep ran.why)

-- A turn of this node took no token and made no step because the node has none; it didn't lack a frame.
pub record NodeRests (start : Network NodeState) (number : ℕ) : Type 0 where
  pub quantum : ℕ
  pub turn : NodeTurn
  pub old : InHand
  pub new : InHand
  pub went : TurnMade start number quantum turn old new
  pub taken : turn.taken ≡ 0
  pub count : turn.ran.count ≡ 0
  pub rests : node_step went.ran.live ≡ None

-- A turn of the host took no token.
pub record HostRests (start : Network NodeState) : Type 0 where
  pub old : InHand
  pub new : InHand
  pub went : HostTurnMade start (Ok 0) old new

-- A turn of this process had nothing to do: a node's made no step and took no token, the host's took no token.
pub record HadNothing (start : Network NodeState) (process : ℕ) : Type 0 where
  pub node : process < length start.nodes → NodeRests start process
  pub host : length start.nodes ≤ process → HostRests start

-- a turn of this process had nothing to do, while no snapshot ran
pub record HadNothingToDo (start : Network NodeState) (process : ℕ) : Type 0 where
  pub had : HadNothing start process
  pub still : IsStill start

-- In each of the last `idle` turns the process had nothing to do, and no snapshot ran. Turns go round over the nodes in order and then the host; the
-- next turn is that of `whose`.
pub record HaveRested (start : Network NodeState) (whose idle : ℕ) : Type 0 where
  pub whose_is : whose ≤ length start.nodes
  pub this_round : (p : ℕ) → p < whose → whose ≤ p + idle → HadNothingToDo start p
  pub round_before : (p : ℕ) → p ≤ length start.nodes → whose + length start.nodes + 1 ≤ p + idle → HadNothingToDo start p

-- Nothing is left to do: each node and the host had nothing to do in its last turn, and no snapshot ran.
abbrev pub IsQuietNetwork : Network NodeState → Type 0
IsQuietNetwork start = (p : ℕ) → p ≤ length start.nodes → HadNothingToDo start p

-- There is a network with the nodes, ports and wires of this topology in which nothing is left to do.
pub record IsQuietOf (t : Topology) : Type 0 where
  pub start : Network NodeState
  pub nodes : length start.nodes ≡ node_count t
  pub ports : length start.ports ≡ t.ports
  pub wires : start.wires ≡ t.wires
  pub quiet : IsQuietNetwork start

-- ## Why a stream is over

-- If the stream ended as quiet, nothing is left to do in the network of this topology.
abbrev pub LeavesNothingToDo : Topology → Ending → Type 0
LeavesNothingToDo t Quiet = IsQuietOf t
LeavesNothingToDo t Turns = Unit {0}
LeavesNothingToDo t Gone = Unit {0}
LeavesNothingToDo t Halted = Unit {0}
LeavesNothingToDo t AskedTo = Unit {0}

-- The task asks the stream to end for this reason. If the stream ended as quiet, nothing is left to do.
abbrev pub IsWhyEnded : Network NodeState → Task → Ending → Type 0
IsWhyEnded start task Quiet = (task.until_quiet ≡ true) × IsQuietNetwork start
IsWhyEnded start task Turns = IsSome task.turns
IsWhyEnded start task Gone = Unit {0}
IsWhyEnded start task Halted = task.stop_on_halt ≡ true
IsWhyEnded start task AskedTo = task.until_asked ≡ true

-- The task asks the stream to end for this reason. It ends as quiet, by a halt or by a request to stop only if the task asks for that, and by a bound
-- on turns only if there is one. It may always end because someone who takes an output has gone.
abbrev pub IsAsked : Task → Ending → Type 0
IsAsked task Quiet = task.until_quiet ≡ true
IsAsked task Turns = IsSome task.turns
IsAsked task Gone = Unit {0}
IsAsked task Halted = task.stop_on_halt ≡ true
IsAsked task AskedTo = task.until_asked ≡ true
