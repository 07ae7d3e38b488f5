use Rattle.std.proofs.Common.{rules, subst}
use Rattle.tp_program.proofs.Lower.{Asked, IsInRange}
use Rattle.tp_program.specs.Answers.{HoldsWritten}
use denote.Param.Send.{sendable}
use Rattle.tp_program.proofs.program.carry_out.Goals as goal

pub run_file-requires : goal.run_file-requires
run_file-requires g c κs within =
    let is = subst IsInRange c.in-Run.is c.requires.1.1.1.1.1.1.1.1.1.1.1.0 in
    let held = subst (λ (asked : Asked). HoldsWritten asked (g.S.Devices.held c.args.devices.now)) c.in-Run.is c.requires.1.1.1.1.1.1.1.1.1.1.1.1 in
    (within.0, (within.1.0, (within.1.1.0, (within.1.1.1.0, (within.1.1.1.1.0, (within.1.1.1.1.1.0, (within.1.1.1.1.1.1.0, (within.1.1.1.1.1.1.1, (search (rules, sendable), (search (rules, sendable), (is, held)))))))))))
