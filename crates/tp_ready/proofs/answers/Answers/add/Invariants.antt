use Rattle.std.proofs.Common.{[], ◌∷◌, ◌++◌}
use Rattle.tp_ready.specs.Answered.{answer}
use Rattle.tp_ready.proofs.answers.Answers.add.Given as goal

abbrev pub ghost-shown : goal.ghost-shown
ghost-shown a = a._old.now ++ answer a._queue.now a._number ∷ []
