use Rattle.std.proofs.Common.{rules}
use denote.Param.Send.{sendable}
use Rattle.tp_program.proofs.program.answer_asked.Goals as goal

pub answer_held-requires : goal.answer_held-requires
answer_held-requires g c κs within =
    let is = c.requires.1.1.1.1.1.1.1.1.1.1.1.1 in
    (within.0, (within.1.0, (within.1.1.0, (within.1.1.1.0, (within.1.1.1.1.0, (within.1.1.1.1.1.0, (within.1.1.1.1.1.1.0, (within.1.1.1.1.1.1.1.0, (within.1.1.1.1.1.1.1.1, (search (rules, sendable), (search (rules, sendable), (search (rules, sendable), (is, c.in-Ok.ensures.got)))))))))))))
