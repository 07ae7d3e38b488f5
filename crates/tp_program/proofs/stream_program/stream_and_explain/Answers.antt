use Rattle.std.proofs.Common.{rules}
use denote.Param.Send.{sendable}
use Rattle.tp_program.proofs.stream_program.stream_and_explain.Goals as goal

pub stream_file-ended-requires : goal.stream_file-ended-requires
stream_file-ended-requires g c κs within =
    (within.0, (within.1.0, (within.1.1.0, (within.1.1.1.0, (within.1.1.1.1.0, (within.1.1.1.1.1.0, (within.1.1.1.1.1.1.0, (within.1.1.1.1.1.1.1.0, (within.1.1.1.1.1.1.1.1.0, (within.1.1.1.1.1.1.1.1.1, (search (rules, sendable), (search (rules, sendable), (search (rules, sendable), c.requires.1.1.1.1.1.1.1.1.1.1.1.1.1)))))))))))))
