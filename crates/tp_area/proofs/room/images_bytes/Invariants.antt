use Rattle.std.proofs.Common.{◌≡◌, ◌*◌, ◌≤◌, take}
use Rattle.std.specs.Prelude.{sum_by}
use Rattle.tp_area.proofs.Lower.{MAX_PAGES, image_length}
use Rattle.tp_area.proofs.room.images_bytes.Given as goal

abbrev pub invariant-loop-count : goal.invariant-loop-count
invariant-loop-count l = record {
  total : l.total ≡ sum_by image_length (take l.count-index l.pages);
  bound : l.total ≤ image_length MAX_PAGES * l.count-index;
}
