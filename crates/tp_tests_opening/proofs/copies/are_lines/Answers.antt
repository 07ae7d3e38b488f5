use Rattle.std.proofs.Common.{arith, rules}
use Rattle.tp_tests_opening.proofs.Spelt.{line_step}
use Rattle.tp_tests_opening.proofs.copies.are_lines.Goals as goal

pub loop-line-preserved : goal.loop-line-preserved
loop-line-preserved c = record {
  few = omega arith;
  so_far = line_step c.args.wires.now c.args.lines.now c.loop-line.line c.loop-line-test.true (omega arith) (search rules) c.loop-line.invariant.so_far;
}
