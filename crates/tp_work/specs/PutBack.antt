-- What a turn does with the numbers of processes.
use Rattle.std.specs.Prelude.{◌≡◌, ℕ, List, [], ◌∷◌, ◌++◌, Some}
use Rattle.tp_work.specs.Lower.{answer, Numbers, Past, HasCalled, Answer, Took, Put}
use Rattle.tp_work.specs.declared.fault.TurnFault.{TurnFault}
use Rattle.tp_work.specs.declared.fault.TurnFault.TheVariants.{Empty, JournalFull, StoreBroken, Memory}

-- A hand took a number, which waited longest then, and put it back after all others. It called nothing else.
pub record PutBack (queue : Numbers) (number : ℕ) (old new : Past) : Type 0 where
  pub between : Past
  pub took : HasCalled queue.count queue.hands (Took number) old between
  pub put : HasCalled queue.count queue.hands (Put number) between new

-- the number that the queue handed out was put back
abbrev pub PutBackOne : Numbers → List Answer → List Answer → Past → Past → Type 0
PutBackOne queue asked_old asked_new old new = (number : ℕ) × (asked_new ≡ asked_old ++ answer queue (Some number) ∷ []) × PutBack queue number old new

-- after a turn that failed the number was put back; after `Empty` nothing was called
abbrev pub PutBackBehind : Numbers → TurnFault → List Answer → List Answer → Past → Past → Type 0
PutBackBehind queue Empty asked_old asked_new old new = new ≡ old
PutBackBehind queue JournalFull asked_old asked_new old new = PutBackOne queue asked_old asked_new old new
PutBackBehind queue StoreBroken asked_old asked_new old new = PutBackOne queue asked_old asked_new old new
PutBackBehind queue Memory asked_old asked_new old new = PutBackOne queue asked_old asked_new old new
