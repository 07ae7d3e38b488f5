-- The tokens so far are on the line.
use Rattle.std.proofs.Common.{◌≡◌, take, set}
use Rattle.tp_book.proofs.ports.fill.fill_line.Given as goal

abbrev pub invariant-loop-token : goal.invariant-loop-token
invariant-loop-token l = l.lines ≡ set l.initial.lines l.line (take l.token-index l.tokens)
