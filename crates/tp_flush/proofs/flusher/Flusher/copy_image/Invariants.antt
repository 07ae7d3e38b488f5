use Rattle.std.proofs.Common.{◌≡◌, ◌≤◌, ◌-◌}
use Rattle.tp_flush.proofs.Lower.{AreTrue, content_beside}
use Rattle.tp_flush.specs.Copying.{HasRecorded, IsPartOut}
use Rattle.tp_flush.specs.Flushing.{FlushedOn}
use Rattle.tp_flush.specs.Ends.{NothingStored}
use Rattle.tp_flush.proofs.flusher.Flusher.copy_image.Given as goal

abbrev pub invariant-loop-done : goal.invariant-loop-done
invariant-loop-done g l = record {
  within : l.done ≤ l.count;
  went : NothingStored l.fn.self l.self;
  goes : FlushedOn g.J.Naming.formatted g.J.Naming.before l.fn.self l.self;
  same : l.self.progress ≡ l.fn.self.progress;
  stands : AreTrue l.self.reads → IsPartOut l.self.topology l.self.world.net (content_beside l.self.place l.self.state) l.node l.done;
  recorded : HasRecorded l.self.world.net l.node;
}

abbrev pub decreases-loop-done : goal.decreases-loop-done
decreases-loop-done g l = l.count - l.done
