use Rattle.std.proofs.Common.{◌≡◌, ◌<◌, ℕ, true}
use Rattle.tp_flush.specs.Progress.{is_out}
use Rattle.tp_flush.proofs.steps.switching.are_out.Given as goal

abbrev pub invariant-loop-node : goal.invariant-loop-node
invariant-loop-node l = (i : ℕ) → i < l.node → is_out l.progress i ≡ true
