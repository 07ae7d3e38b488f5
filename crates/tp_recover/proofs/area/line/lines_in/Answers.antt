use Rattle.std.proofs.Common.{arith, map}
use Rattle.tp_recover.proofs.Lower.{lines_read, tokens_on}
use Rattle.tp_recover.proofs.Records.{lines_in-step, lines_in-fault, lines_in-end}
use Rattle.tp_recover.proofs.area.line.lines_in.Goals as goal

pub returns-in_default-clause-is : goal.returns-in_default-clause-is
returns-in_default-clause-is c =
    rw c.damaged.ensures
    (lines_in-fault c.args.at c.loop-line.line c.args.wires.now _ c.loop-line.rest.now c.split_at.result.0.now c.line_in.result c.loop-line.lines.items c.loop-line-test.true
    c.loop-line.invariant.read c.split_at.ensures.front c.line_in.ensures c.in_default.is)

pub loop-line-preserved : goal.loop-line-preserved
loop-line-preserved c = record {
  read =
      lines_in-step c.args.at c.loop-line.line c.args.wires.now _ c.loop-line.rest.now c.split_at.result.0.now c.split_at.result.1.now c.line_in.result c.in-Some.tokens c.loop-line.lines.items c.push.new.self.items c.loop-line-test.true
      c.loop-line.invariant.read c.split_at.ensures.front c.split_at.ensures.back c.line_in.ensures c.in-Some.is c.in-Ok.ensures.items;
  there = omega arith;
}

pub returns-clause-is : goal.returns-clause-is
returns-clause-is c =
    lines_in-end c.args.at c.loop-line.line c.args.wires.now _ c.loop-line.rest.now c.loop-line.lines.items c.loop-line-test.false c.loop-line.invariant.read

pub returns-clause-lines : goal.returns-clause-lines
returns-clause-lines c =
    (lines_read c.args.at c.args.wires.now c.args.bytes.now (map tokens_on c.loop-line.lines.items)
    (lines_in-end c.args.at c.loop-line.line c.args.wires.now _ c.loop-line.rest.now c.loop-line.lines.items c.loop-line-test.false c.loop-line.invariant.read)).are_lines
