use Rattle.tp_disk.specs.History.{nothing_told}
use Rattle.tp_disk.proofs.history.History.of_file.Given as goal

abbrev pub ghost-of : goal.ghost-of
ghost-of t a = record nothing_told { medium = t.medium }
