-- The nodes so far may have their pages.
use Rattle.std.proofs.Common.{◌≡◌, true, take}
use Rattle.std.specs.Prelude.{nat_le}
use Rattle.tp_area.proofs.Lower.{list_all, head_pages}
use Rattle.tp_area.proofs.encoding.version.are_few_pages.Given as goal

abbrev pub invariant-loop-count : goal.invariant-loop-count
invariant-loop-count l = list_all (λ count. nat_le count (head_pages l.version)) (take l.count-index l.pages) ≡ true
