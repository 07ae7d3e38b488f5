-- What a queue answered.
use Rattle.std.specs.Prelude.{ℕ, Option}
use Rattle.tp_ready.specs.Numbers.{Numbers}
use Rattle.tp_ready.specs.declared.answers.Answer.{Answer}

-- the number that the queue handed out, or `None`
abbrev pub answer : Numbers → Option ℕ → Answer
answer of number = record { queue = of; number = number }
