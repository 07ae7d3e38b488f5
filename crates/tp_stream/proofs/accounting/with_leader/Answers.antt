use Rattle.std.proofs.Common.{◌∙◌, ◌++◌, rules, sym, ap, subst}
use Rattle.tp_stream.specs.Accounted.{MadeByTurns, joined}
use Rattle.tp_stream.proofs.accounting.with_leader.Goals as goal

pub returns-in-Some : goal.returns-in-Some
returns-in-Some g c N =
    let made : MadeByTurns g.J.Naming.start c.in-Some.leader.slips = search rules in
    subst (MadeByTurns g.J.Naming.start) (sym (c.absorb.ensures ∙ ap (λ slips. c.args.seat ++ slips) c.into_slips.ensures)) (joined c.args.seat c.in-Some.leader.slips N made)
