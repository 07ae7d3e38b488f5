use Rattle.std.proofs.Common.{◌≡◌, take, map}
use Rattle.tp_area.specs.Lines.{tokens_on}
use Rattle.tp_recover.proofs.area.cut.token_lists.Given as goal

abbrev pub invariant-loop-line : goal.invariant-loop-line
invariant-loop-line l = map (λ list. list.items) l.lists.items ≡ map tokens_on (take l.line-index l.lines)
