use Rattle.std.proofs.Common.{◌≡◌, sym, subst, rules}
use Rattle.std.specs.Prelude.{Err}
use Rattle.tp_turn.specs.Moments.{moment_of}
use Rattle.tp_turn.specs.Stages.{Opens}
use Rattle.tp_turn.proofs.Staging.{breaks_at}
use Rattle.tp_turn.proofs.stages.open_turn.Goals as goal

pub returns-in_err-takes-clause-opens : goal.returns-in_err-takes-clause-opens
returns-in_err-takes-clause-opens c =
    let e : c.from_residual.result ≡ Err c.in_err-takes.field-0.0 = search rules in
    let start = moment_of c.args.book.now c.args.node.now in
    let last = moment_of c.settle.new.book c.settle.new.node in
    subst (λ r. Opens c.args.number r start last) (sym e)
    (breaks_at c.args.number c.in_err-takes.field-0.0 start last c.in_err-takes.ensures.done)
