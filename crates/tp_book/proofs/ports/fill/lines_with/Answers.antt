use Rattle.std.proofs.Common.{sym, ◌∙◌, arith, map}
use Rattle.tp_book.proofs.Lower.{length-map, same_lines}
use Rattle.tp_book.proofs.ports.fill.lines_with.Goals as goal

pub returns : goal.returns
returns c =
    same_lines c.loop-line.lines (map (λ line. line.items) c.args.tokens.now) (c.loop-line.invariant.0 ∙ sym (length-map c.args.tokens.now (λ line. line.items)))
    (λ line below. c.loop-line.invariant.1 line (omega (arith, below, c.loop-line.invariant.0, c.loop-line-test.false)))
