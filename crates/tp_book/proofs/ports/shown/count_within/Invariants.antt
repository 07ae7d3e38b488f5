use Rattle.std.proofs.Common.{◌≡◌, ◌≤◌, take, count_by, nat_le}
use Rattle.tp_book.proofs.ports.shown.count_within.Given as goal

abbrev pub invariant-loop-least : goal.invariant-loop-least
invariant-loop-least l = (l.count ≡ count_by (λ least. nat_le least l.mark) (take l.least-index l.marks)) × (l.count ≤ l.least-index)
