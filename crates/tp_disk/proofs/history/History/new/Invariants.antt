use Rattle.tp_disk.specs.History.{nothing_told}
use Rattle.tp_disk.proofs.history.History.new.Given as goal

abbrev pub ghost-of : goal.ghost-of
ghost-of a = nothing_told
