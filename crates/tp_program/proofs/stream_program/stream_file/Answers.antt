use Rattle.std.proofs.Common.{rules}
use denote.Param.Send.{sendable}
use Rattle.tp_program.proofs.stream_program.stream_file.Goals as goal

pub stream_on-disk-requires : goal.stream_on-disk-requires
stream_on-disk-requires g c κs within =
    let opened = c.requires.1.1.1.1.1.1.1.1.1.1.0 in
    let crosses = c.requires.1.1.1.1.1.1.1.1.1.1.1.0 in
    let shared = c.requires.1.1.1.1.1.1.1.1.1.1.1.1.0 in
    (within.0, (within.1.0, (within.1.1.0, (within.1.1.1.0, (within.1.1.1.1.0, (within.1.1.1.1.1.0, (within.1.1.1.1.1.1.0, (within.1.1.1.1.1.1.1, (search (rules, sendable, opened), (search (rules, sendable, crosses), (search (rules, sendable, shared), (c.requires.1.1.1.1.1.1.1.1.1.1.1.1.1.0, g.met.S.Devices.may_step))))))))))))
