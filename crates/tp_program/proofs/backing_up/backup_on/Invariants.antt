use Rattle.std.proofs.Common.{◌≡◌}
use Rattle.tp_program.proofs.Lower.{AreTrue, WereTrue, LeavesNothingNew}
use Rattle.tp_program.proofs.backing_up.backup_on.Given as goal

-- Nothing was written to the device so far. Under the premise both devices are as they were, since no try came before.
abbrev pub invariant-loop-left : goal.invariant-loop-left
invariant-loop-left g l = record {
  premise : WereTrue (g.D.Disk.reads l.fn.source) (g.D.Disk.reads l.source);
  leaves : LeavesNothingNew (g.D.Disk.state l.fn.source) (g.D.Disk.state l.source);
  source : AreTrue (g.D.Disk.reads l.source) → (g.D.Disk.state l.source).now.bytes ≡ (g.D.Disk.state l.fn.source).now.bytes;
  copy : AreTrue (g.D.Disk.reads l.source) → (g.K.Disk.state l.copy).now.bytes ≡ (g.K.Disk.state l.fn.copy).now.bytes;
}

abbrev pub decreases-loop-left : goal.decreases-loop-left
decreases-loop-left g l = l.left
