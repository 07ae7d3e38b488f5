use Rattle.std.proofs.Common.{rules}
use denote.Param.Send.{sendable}
use Rattle.tp_program.proofs.stream_program.hold_and_stream.Goals as goal

pub stream_and_explain-requires : goal.stream_and_explain-requires
stream_and_explain-requires g c κs within =
    (within.0, (within.1.0, (within.1.1.0, (within.1.1.1.0, (within.1.1.1.1.0, (within.1.1.1.1.1.0, (within.1.1.1.1.1.1.0, (within.1.1.1.1.1.1.1.0, (within.1.1.1.1.1.1.1.1.0, (within.1.1.1.1.1.1.1.1.1, (search (rules, sendable), (search (rules, sendable), (search (rules, sendable), (c.requires.1.1.1.1.1.1.1.1.1.1.1.1.1, search (rules, c.in-Ok.ensures.got, c.as_str.ensures.value)))))))))))))))
