use Rattle.std.proofs.Common.{rules}
use denote.Param.Send.{sendable}
use Rattle.tp_program.proofs.program.answer_held.Goals as goal

pub carry_out-status-requires : goal.carry_out-status-requires
carry_out-status-requires g c κs within =
    let is = c.requires.1.1.1.1.1.1.1.1.1.1.1.1 in
    (within.0, (within.1.0, (within.1.1.0, (within.1.1.1.0, (within.1.1.1.1.0, (within.1.1.1.1.1.0, (within.1.1.1.1.1.1.0, (within.1.1.1.1.1.1.1.0, (within.1.1.1.1.1.1.1.1, (search (rules, sendable), (search (rules, sendable), is)))))))))))
