use Rattle.tp_model.specs.DiskHistory.{moment}
use Rattle.tp_ready.proofs.mark.Mark.raise.Given as goal

abbrev pub ghosts-raise_at : goal.ghosts-raise_at
ghosts-raise_at g a = record { moment = moment (g.D.Disk.state a._disk.now) }
