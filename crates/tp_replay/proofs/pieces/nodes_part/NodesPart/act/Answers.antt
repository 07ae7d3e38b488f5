use Rattle.std.proofs.Common.{◌≡◌, length, sym, ap, ◌∙◌}
use Rattle.tp_replay.proofs.Lower.{Take, HostIn, Confirm, receiver, process_at, process}
use Rattle.tp_replay.specs.Held.{has}
use Rattle.tp_replay.specs.NodesInside.{nodes_held}
use Rattle.tp_replay.proofs.Acts.{other_rests, end_of_host}
use Rattle.tp_replay.proofs.Changed.{not_host}
use Rattle.tp_replay.proofs.pieces.nodes_part.NodesPart.act.Goals as goal

pub returns-in-Run : goal.returns-in-Run
returns-in-Run c = rw c.in-Run.is c.run.ensures

pub returns-in_default : goal.returns-in_default
unfolding process
returns-in_default c =
    let n = c.self.inside in
    let host = end_of_host (length (nodes_held n).network.nodes) c.receiver.result c.in_default.ensures in
    let end : c.receiver.result ≡ receiver n.lanes.wires c.in-Take.line = c.receiver.ensures ∙ ap (receiver n.lanes.wires) c.from.ensures in
    let host : process_at (length (nodes_held n).network.nodes) (receiver n.lanes.wires c.in-Take.line) ≡ length (nodes_held n).network.nodes = ap (process_at (length (nodes_held n).network.nodes)) (sym end) ∙ host in
    rw (← c.self.view_is, c.in-Take.is) (other_rests (nodes_held n) (Take c.in-Take.line c.in-Take.token) (ap (has (nodes_held n)) host ∙ not_host n c.self.invariant))

pub returns-in-HostIn : goal.returns-in-HostIn
unfolding process
returns-in-HostIn c =
    let n = c.self.inside in
    rw (← c.self.view_is, c.in-HostIn.is) (other_rests (nodes_held n) (HostIn c.in-HostIn.port c.in-HostIn.byte) (not_host n c.self.invariant))

pub returns-in-Confirm : goal.returns-in-Confirm
unfolding process
returns-in-Confirm c =
    let n = c.self.inside in
    rw (← c.self.view_is, c.in-Confirm.is) (other_rests (nodes_held n) (Confirm c.in-Confirm.port c.in-Confirm.upto) (not_host n c.self.invariant))

pub returns-in-Turn : goal.returns-in-Turn
returns-in-Turn c = rw c.in-Turn.is c.turn.ensures
