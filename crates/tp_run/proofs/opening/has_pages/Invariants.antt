-- The nodes so far have as many pages.
use Rattle.std.proofs.Common.{◌≡◌, true, take}
use Rattle.std.specs.Prelude.{nat_le}
use Rattle.std.specs.List.{list_all}
use Rattle.tp_run.proofs.opening.has_pages.Given as goal

abbrev pub invariant-loop-pages : goal.invariant-loop-pages
invariant-loop-pages l = list_all (λ pages. nat_le l.spare pages) (take l.pages-index l.counts) ≡ true
