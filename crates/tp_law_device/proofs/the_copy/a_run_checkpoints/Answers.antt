use Rattle.tp_law_device.proofs.OneCheckpoint.{one_checkpoint}
use Rattle.tp_law_device.proofs.the_copy.a_run_checkpoints.Goals as goal

pub returns : goal.returns
returns c = one_checkpoint
