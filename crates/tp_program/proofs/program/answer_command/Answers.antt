use Rattle.std.proofs.Common.{rules, subst}
use Rattle.tp_words.specs.Commands.{IsCommandInRange}
use denote.Param.Send.{sendable}
use Rattle.tp_program.proofs.program.answer_command.Goals as goal

pub answer_asked-requires : goal.answer_asked-requires
answer_asked-requires g c κs within =
    let is = subst IsCommandInRange c.in-Other.is c.requires.1.1.1.1.1.1.1.1.1.1.1.1.1.1 in
    (within.0, (within.1.0, (within.1.1.0, (within.1.1.1.0, (within.1.1.1.1.0, (within.1.1.1.1.1.0, (within.1.1.1.1.1.1.0, (within.1.1.1.1.1.1.1.0, (within.1.1.1.1.1.1.1.1, (search (rules, sendable), (search (rules, sendable), (search (rules, sendable), is))))))))))))

pub hold_and_stream-requires : goal.hold_and_stream-requires
hold_and_stream-requires g c κs within =
    let is = subst IsCommandInRange c.in-Stream.is c.requires.1.1.1.1.1.1.1.1.1.1.1.1.1.1 in
    (within.0, (within.1.0, (within.1.1.0, (within.1.1.1.0, (within.1.1.1.1.0, (within.1.1.1.1.1.0, (within.1.1.1.1.1.1.0, (within.1.1.1.1.1.1.1.0, (within.1.1.1.1.1.1.1.1.0, (within.1.1.1.1.1.1.1.1.1, (search (rules, sendable), (search (rules, sendable), (search (rules, sendable), is.0)))))))))))))
