-- The nodes so far have as many pages.
use Rattle.std.proofs.Common.{◌≡◌, false, take}
use Rattle.std.specs.Prelude.{nat_lt}
use Rattle.std.specs.List.{list_any}
use Rattle.tp_stream.proofs.beginning.lacks_pages.Given as goal

abbrev pub invariant-loop-pages : goal.invariant-loop-pages
invariant-loop-pages l = list_any (λ pages. nat_lt pages l.spare) (take l.pages-index l.counts) ≡ false
