use Rattle.tp_law_device.proofs.Lower.{t414, t414_ends, verdict, other_content, copy_of}
use Rattle.tp_law_device.proofs.Stand.{spelt_area}
use Rattle.tp_law_device.proofs.Checkpoints.{spells_reads, other_spelt, checkpoint_switches}
use Rattle.tp_law_device.proofs.FirstCheckpoints.{first_checkpoint, one_snapshot}
use Rattle.tp_law_device.proofs.checkpoints_switch.Goals as goal

pub returns-clause-other : goal.returns-clause-other
unfolding verdict
returns-clause-other c = λ bytes o is closed generation form base s groups now spells.
    other_spelt t414 t414_ends bytes o is closed generation form base s groups now (spelt_area t414 t414_ends o.head.topology (other_content o bytes) generation form base s groups now spells)

pub returns-clause-switches : goal.returns-clause-switches
returns-clause-switches c = λ w cut nodes o pieces generation form rests has S.
    checkpoint_switches w cut nodes o pieces generation form rests has (spells_reads w o pieces (copy_of w.net w.base cut nodes) generation form S)

pub returns-clause-formatted : goal.returns-clause-formatted
returns-clause-formatted c = first_checkpoint

pub returns-clause-snapshot : goal.returns-clause-snapshot
returns-clause-snapshot c = one_snapshot
