use Rattle.std.proofs.Common.{◌≡◌, ◌-◌, ◌≤◌}
use Rattle.tp_area.proofs.Lower.{zeros, LeavesOnly}
use Rattle.tp_area.specs.Puts.{ButFor, Puts}
use Rattle.tp_area.proofs.calls.puts.put_zeros.Given as goal

abbrev pub invariant-loop-left : goal.invariant-loop-left
invariant-loop-left g l = record {
  some : l.left ≤ l.count;
  size : g.D.Disk.size_of l.disk ≡ g.D.Disk.size_of l.initial.disk;
  failures : g.D.Disk.failures_of l.disk ≡ g.D.Disk.failures_of l.initial.disk;
  unread : g.D.Disk.reads l.disk ≡ g.D.Disk.reads l.initial.disk;
  put : Puts l.at (zeros (l.count - l.left)) (g.D.Disk.state l.initial.disk) (g.D.Disk.state l.disk);
  leaves : LeavesOnly (g.D.Disk.state l.initial.disk) (g.D.Disk.state l.disk) (ButFor l.at l.count (g.D.Disk.state l.initial.disk).now);
}

abbrev pub decreases-loop-left : goal.decreases-loop-left
decreases-loop-left g l = l.left
