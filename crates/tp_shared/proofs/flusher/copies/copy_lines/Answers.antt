use Rattle.std.proofs.Common.{arith}
use Rattle.tp_law_network.proofs.Lines.{same_lines}
use Rattle.tp_shared.proofs.flusher.copies.copy_lines.Goals as goal

pub returns : goal.returns
returns c =
    same_lines c.loop-line.lines c.args.from.now c.loop-line.invariant.0
    (λ line below. c.loop-line.invariant.1 line (omega (arith, below, c.loop-line.invariant.0, c.loop-line-test.false, c.count-line-end.ensures)))
