use Rattle.std.proofs.Common.{◌≡◌, take}
use Rattle.tp_flush.proofs.topology.copied_pages.Given as goal

abbrev pub invariant-loop-count : goal.invariant-loop-count
invariant-loop-count l = l.copy.items ≡ take l.count-index l.pages
