use Rattle.std.proofs.Common.{inl, inr, refl, arith, rules}
use denote.Param.Send.{sendable}
use Rattle.tp_program.proofs.Commands.{at_most_3, of_a_stream}
use Rattle.tp_program.proofs.program.answer_over.Goals as goal

pub returns-in-Ok-clause-few : goal.returns-in-Ok-clause-few
returns-in-Ok-clause-few g c = at_most_3 c.in-Ok.line.command c.answer_command.result c.answer_command.ensures.few

pub returns-in-Ok-clause-three : goal.returns-in-Ok-clause-three
returns-in-Ok-clause-three g c =
    of_a_stream c.args.words.now c.in-Ok.line.command c.answer_command.result c.in-Ok.ensures.typed c.answer_command.ensures.few

pub returns-in-Ok-clause-answered : goal.returns-in-Ok-clause-answered
returns-in-Ok-clause-answered g c = inr (record {
  command = c.in-Ok.line.command;
  typed = c.in-Ok.ensures.typed;
  places = c.in-Ok.ensures.places;
  help = c.in-Ok.ensures.help;
  few = c.answer_command.ensures.few;
  done = c.answer_command.ensures.done;
  files = c.answer_command.ensures.used;
})

pub returns-in-Err-clause-answered : goal.returns-in-Err-clause-answered
returns-in-Err-clause-answered g c = inl (record {
  fault = c.in-Err.fault;
  reason = c.in-Err.ensures.refused;
  refused = record { refused = omega arith; unopened = refl; silent = refl };
  idle = refl;
})

pub answer_command-requires : goal.answer_command-requires
answer_command-requires g c κs within =
    (within.0, (within.1.0, (within.1.1.0, (within.1.1.1.0, (within.1.1.1.1.0, (within.1.1.1.1.1.0, (within.1.1.1.1.1.1.0, (within.1.1.1.1.1.1.1.0, (within.1.1.1.1.1.1.1.1.0, (within.1.1.1.1.1.1.1.1.1.0, (within.1.1.1.1.1.1.1.1.1.1, (search (rules, sendable), (search (rules, sendable), (search (rules, sendable), c.in-Ok.ensures.range))))))))))))))
