use Rattle.tp_law_device.proofs.Heads.{wide_keeps}
use Rattle.tp_area.proofs.encoding.version.version_for.Goals as goal

pub returns-else-keeps_limits-clause-limits : goal.returns-else-keeps_limits-clause-limits
returns-else-keeps_limits-clause-limits c = wide_keeps c.args.topology.now c.keeps_limits.ensures.rules
