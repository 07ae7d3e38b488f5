use Rattle.tp_disk.specs.History.{all_zero}
use Rattle.tp_views.proofs.explanations.looking.open_to_read.Given as goal

-- nothing is said of what the file holds
abbrev pub ghost-new : goal.ghost-new
ghost-new g a = all_zero
