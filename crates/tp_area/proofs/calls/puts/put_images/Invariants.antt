use Rattle.std.proofs.Common.{◌≡◌, ◌+◌, length, take}
use Rattle.std.specs.Prelude.{flat_map}
use Rattle.tp_model.specs.DiskHistory.{LeavesOnly}
use Rattle.tp_area.specs.Puts.{ButFor, Puts}
use Rattle.tp_area.proofs.calls.puts.put_images.Given as goal

abbrev pub invariant-loop-image : goal.invariant-loop-image
invariant-loop-image g l = record {
  place : l.place ≡ l.at + length (flat_map (λ image. image.items) (take l.image-index l.images));
  size : g.D.Disk.size_of l.disk ≡ g.D.Disk.size_of l.initial.disk;
  failures : g.D.Disk.failures_of l.disk ≡ g.D.Disk.failures_of l.initial.disk;
  unread : g.D.Disk.reads l.disk ≡ g.D.Disk.reads l.initial.disk;
  put : Puts l.at (flat_map (λ image. image.items) (take l.image-index l.images)) (g.D.Disk.state l.initial.disk) (g.D.Disk.state l.disk);
  leaves : LeavesOnly (g.D.Disk.state l.initial.disk) (g.D.Disk.state l.disk)
      (ButFor l.at (length (flat_map (λ image. image.items) l.images)) (g.D.Disk.state l.initial.disk).now);
}
