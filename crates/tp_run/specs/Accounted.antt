-- Who made each entry that a run journalled.
use Rattle.std.specs.Prelude.{◌≡◌, ℕ, List, ◌++◌, flat_map, length, sum_by}
use Rattle.tp_run.specs.Lower.{AllByRecursion, Entry, NodeState, Network, AreAll}
use Rattle.tp_run.specs.declared.job.Job.{Job}
use Rattle.tp_run.specs.Worked.{Worked}

-- Each entry of the journal from the number `first` on was made once: its slip is in the host's seat or in that of one worker. There are no other
-- slips. There were as many workers as the job says, and together they made as many turns as it says. Of each worker `workers` has the number of its
-- turns and the slips, which these turns made. `next` is the number after the last entry.
pub record Accounted (network : Network NodeState) (job : Job) (journal : List Entry) (first next : ℕ) (host : List (ℕ × Entry)) : Type 0 where
  pub workers : List (ℕ × List (ℕ × Entry))
  pub count : length workers ≡ job.workers
  pub turns : sum_by (λ (worker : ℕ × List (ℕ × Entry)). worker.0) workers ≡ job.turns
  pub worked : AllByRecursion (λ worker. Worked network job.quantum worker.0 worker.1) workers
  pub all : AreAll first next journal (host ++ flat_map (λ (worker : ℕ × List (ℕ × Entry)). worker.1) workers)
