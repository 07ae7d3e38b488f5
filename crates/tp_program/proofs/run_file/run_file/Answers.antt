use Rattle.std.proofs.Common.{rules}
use denote.Param.Send.{sendable}
use Rattle.tp_program.proofs.run_file.run_file.Goals as goal

pub run_device-requires : goal.run_device-requires
run_device-requires g c κs within = (within.0, (within.1.0, (within.1.1.0, (within.1.1.1.0, (within.1.1.1.1.0, (within.1.1.1.1.1.0, (within.1.1.1.1.1.1.0, (within.1.1.1.1.1.1.1, (search (rules, sendable), (search (rules, sendable), c.requires.1.1.1.1.1.1.1.1.1.1))))))))))
