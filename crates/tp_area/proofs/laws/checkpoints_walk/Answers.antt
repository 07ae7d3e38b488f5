use Rattle.tp_area.proofs.CheckpointWalks.{checkpoint_walks}
use Rattle.tp_area.proofs.laws.checkpoints_walk.Goals as goal

pub returns : goal.returns
returns c = checkpoint_walks
