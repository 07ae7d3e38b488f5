use Rattle.std.proofs.Common.{◌≡◌, ◌-◌, ◌≤◌}
use Rattle.tp_disk.specs.Reads.{AreTrue, WereTrue}
use Rattle.tp_recover.specs.Copies.{with_range}
use Rattle.tp_recover.specs.Reading.{LeavesNothingNew}
use Rattle.tp_recover.proofs.copy.pieces.copy_range.Given as goal

abbrev pub invariant-loop-done : goal.invariant-loop-done
invariant-loop-done g l = record {
  within : l.done ≤ l.count;
  source_size : g.D.Disk.size_of l.source ≡ g.D.Disk.size_of l.initial.source;
  copy_size : g.K.Disk.size_of l.copy ≡ g.K.Disk.size_of l.initial.copy;
  premise : WereTrue (g.D.Disk.reads l.initial.source) (g.D.Disk.reads l.source);
  kept : (g.D.Disk.state l.source).now ≡ (g.D.Disk.state l.initial.source).now;
  leaves : LeavesNothingNew (g.D.Disk.state l.initial.source) (g.D.Disk.state l.source);
  bytes : AreTrue (g.D.Disk.reads l.source) → (g.K.Disk.state l.copy).now.bytes
      ≡ with_range l.at l.done (g.D.Disk.state l.initial.source).now.bytes (g.K.Disk.state l.initial.copy).now.bytes;
}

abbrev pub decreases-loop-done : goal.decreases-loop-done
decreases-loop-done g l = l.count - l.done
