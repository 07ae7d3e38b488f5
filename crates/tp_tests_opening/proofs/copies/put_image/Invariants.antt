-- the other area stays closed, and the pages that are left are in the rest
use Rattle.std.proofs.Common.{◌≡◌, ◌-◌, ◌*◌, length}
use Rattle.tp_tests_opening.proofs.Lower.{AreTrue, PAGE_BYTES, OtherIsClosed}
use Rattle.tp_tests_opening.proofs.copies.put_image.Given as goal

abbrev pub invariant-loop-page : goal.invariant-loop-page
invariant-loop-page g l = record {
  left : length l.pages ≡ PAGE_BYTES * (4 - l.page);
  closed : AreTrue (g.D.Disk.reads l.store.disk) → OtherIsClosed l.store.place (g.D.Disk.state l.store.disk);
}
