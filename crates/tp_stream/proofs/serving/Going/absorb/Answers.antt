use Rattle.std.proofs.Common.{sym, subst}
use Rattle.tp_stream.specs.Accounted.{MadeByTurns, joined}
use Rattle.tp_stream.proofs.Accounted.{all_made}
use Rattle.tp_stream.proofs.serving.Going.absorb.Goals as goal

pub returns-clause-noted : goal.returns-clause-noted
returns-clause-noted g c outputs N = record {
  made =
      subst (MadeByTurns g.J.Naming.start) (sym c.slips_of.ensures)
      (joined c.with_leader.result _ (c.with_leader.ensures N.made) (all_made g.J.Naming.start (λ seat. seat.slips) c.args.workers.items c.requires.workers));
  noted = N.noted;
}
