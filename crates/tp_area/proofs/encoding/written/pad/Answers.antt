use Rattle.std.proofs.Common.{◌++◌, ap, ◌∙◌, arith}
use Rattle.tp_model.specs.Bytes.{zeros}
use Rattle.tp_area.proofs.encoding.written.pad.Goals as goal

pub returns-clause-bytes : goal.returns-clause-bytes
returns-clause-bytes g c = c.loop.invariant ∙ ap (λ n. c.args.out.now.items ++ zeros n) (omega arith)
