use Rattle.std.proofs.Common.{◌≡◌, rules, sym, subst}
use Rattle.tp_stream.specs.Accounted.{MadeByTurns}
use Rattle.tp_stream.specs.Noted.{StepsNoted}
use Rattle.tp_stream.proofs.serving.rest_or_turn.Goals as goal

pub returns-in-Ok-Some-clause-noted : goal.returns-in-Ok-Some-clause-noted
returns-in-Ok-Some-clause-noted g c outputs N =
    let seat : c.rest_where_late.new.going.seat ≡ c.args.going.now.seat = search rules in
    let same = c.make_turns.ensures.host in
    record {
      made = c.make_turns.ensures.turns (subst (MadeByTurns g.J.Naming.start) (sym seat) N.made);
      noted =
          subst (StepsNoted outputs c.make_turns.new.going.steps) (sym same.1)
          (subst (λ steps. StepsNoted outputs steps c.rest_where_late.new.going.host) (sym same.0) (c.rest_where_late.ensures.noted outputs N.noted));
    }

pub returns-in-Ok-None-clause-noted : goal.returns-in-Ok-None-clause-noted
returns-in-Ok-None-clause-noted g c outputs N =
    let seat : c.rest_where_late.new.going.seat ≡ c.args.going.now.seat = search rules in
    record { made = subst (MadeByTurns g.J.Naming.start) (sym seat) N.made; noted = c.rest_where_late.ensures.noted outputs N.noted }

pub returns-in-Err-clause-noted : goal.returns-in-Err-clause-noted
returns-in-Err-clause-noted g c outputs N =
    let seat : c.rest_where_late.new.going.seat ≡ c.args.going.now.seat = search rules in
    record { made = subst (MadeByTurns g.J.Naming.start) (sym seat) N.made; noted = c.rest_where_late.ensures.noted outputs N.noted }
