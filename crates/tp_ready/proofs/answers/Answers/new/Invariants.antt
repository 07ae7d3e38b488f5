use Rattle.std.proofs.Common.{[]}
use Rattle.tp_ready.proofs.answers.Answers.new.Given as goal

abbrev pub ghost-pair : goal.ghost-pair
ghost-pair a = []
