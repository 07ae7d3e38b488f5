use Rattle.std.proofs.Common.{◌<◌, length, sym, subst, arith}
use Rattle.tp_stream_files.specs.Notices.{NodeStopped}
use Rattle.tp_stream.specs.Told.{ToldLater}
use Rattle.tp_stream.proofs.Notices.{later_none, later_one, later_then}
use Rattle.tp_stream.proofs.stopping.tell_stopped.Goals.{in-Some, in_default}
use Rattle.tp_stream.proofs.stopping.tell_stopped.Goals as goal

pub loop-node-init : goal.loop-node-init
loop-node-init g c = later_none (length g.J.Naming.start.nodes) (g.L.Listener.told c.args.listener.now)

pub loop-node-preserved : goal.loop-node-preserved
loop-node-preserved g c =
    let many = length g.J.Naming.start.nodes in
    let there : c.loop-node.node < many = omega arith in
    elim c.match-stopped.branch [
      | in-Some w ↦
          subst (λ l. ToldLater many (g.L.Listener.told c.args.listener.now) (g.L.Listener.told l)) (sym w.listener-is)
          (later_then many _ _ _ c.loop-node.invariant (later_one many (NodeStopped c.loop-node.node w.in-Some.how) _ _ there w.stopped-in-Some.ensures))
      | in_default w ↦ subst (λ l. ToldLater many (g.L.Listener.told c.args.listener.now) (g.L.Listener.told l)) (sym w.listener-is) c.loop-node.invariant
    ]
