use Rattle.std.proofs.Common.{◌+◌, length}
use Rattle.tp_ready.proofs.slips.transfer.Given as goal

abbrev pub ghost-deal : goal.ghost-deal
ghost-deal g a = length a.one.now.items + length a.two.now.items
