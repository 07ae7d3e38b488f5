use Rattle.std.proofs.Common.{refl, length}
use Rattle.tp_replay.proofs.Lower.{Run, Turn, process}
use Rattle.tp_replay.specs.HostInside.{host_held}
use Rattle.tp_replay.proofs.Acts.{host_runs, host_turns}
use Rattle.tp_replay.proofs.AtPorts.{node_entry}
use Rattle.tp_replay.proofs.pieces.host_part.HostPart.act.Goals as goal

pub returns-in-Run : goal.returns-in-Run
unfolding process
returns-in-Run c =
    let h = c.self.inside in
    rw (← c.self.view_is, c.in-Run.is)
    (node_entry h c.self.invariant (Run c.in-Run.node c.in-Run.count) c.in-Run.node c.is_there.result refl (host_runs h.lanes.wires (length (host_held h).network.nodes) c.in-Run.node c.in-Run.count (host_held h).network.ports) c.is_there.ensures)

pub returns-in-Take : goal.returns-in-Take
returns-in-Take c = rw c.in-Take.is c.take.ensures

pub returns-in-HostIn : goal.returns-in-HostIn
returns-in-HostIn c = rw c.in-HostIn.is c.hand_in.ensures

pub returns-in-Confirm : goal.returns-in-Confirm
returns-in-Confirm c = rw c.in-Confirm.is c.confirm.ensures

pub returns-in-Turn : goal.returns-in-Turn
unfolding process
returns-in-Turn c =
    let h = c.self-in-Turn.inside in
    rw (← c.self-in-Turn.view_is, c.in-Turn.is)
    (node_entry h c.self-in-Turn.invariant (Turn c.in-Turn.node c.in-Turn.takes c.in-Turn.count) c.in-Turn.node c.is_there-in-Turn.result refl
    (host_turns h.lanes.wires (length (host_held h).network.nodes) c.in-Turn.node c.in-Turn.count c.in-Turn.takes (host_held h).network.ports) c.is_there-in-Turn.ensures)
