use Rattle.std.proofs.Common.{◌≡◌, ◌+◌, ◌≤◌, drop}
use Rattle.tp_model.specs.Sound.{acks}
use Rattle.tp_recover.proofs.area.flights.acks.Given as goal

abbrev pub invariant-loop-token : goal.invariant-loop-token
invariant-loop-token l = (l.count + acks (drop l.token-index l.tokens) ≡ acks l.tokens) × (l.count ≤ l.token-index)
