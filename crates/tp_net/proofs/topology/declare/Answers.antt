use Rattle.std.proofs.Common.{sym, ◌∙◌, inl, inr, arith, rules}
use Rattle.std.specs.Str.Lines.{lines}
use Rattle.tp_net.proofs.Reading.{IsStep-fault, read_lines-end, read_lines-fault, read_lines-more}
use Rattle.tp_net.proofs.topology.declare.Goals as goal

pub returns-in_err-add_line : goal.returns-in_err-add_line
returns-in_err-add_line c =
    IsStep-fault _ _ c.from_residual.result c.in_err-add_line.field-0.0 (search rules)
    (elim c.in_err-add_line.ensures [
      | inl memory ↦ inl memory
      | inr fault ↦ inr (sym c.loop-line.invariant.left
          ∙ read_lines-fault c.loop-line.declared c.loop-line.number (lines c.loop-line.rest.now) c.in-Some.line.now (lines c.in-Some.behind.now) c.in_err-add_line.field-0.0 c.in-Some.ensures.0 fault)
    ])

pub loop-line-preserved : goal.loop-line-preserved
loop-line-preserved c = record {
  count = omega (arith, c.in-Some.ensures.1);
  left = sym (read_lines-more c.loop-line.declared c.loop-line.number (lines c.loop-line.rest.now) c.in-Some.line.now (lines c.in-Some.behind.now) c.add_line.new.self c.in-Some.ensures.0 c.in_ok-add_line.ensures)
      ∙ c.loop-line.invariant.left;
}

pub returns : goal.returns
returns c = sym c.loop-line.invariant.left ∙ read_lines-end c.loop-line.declared c.loop-line.number (lines c.loop-line.rest.now) c.in_default.ensures
