use Rattle.std.proofs.Common.{◌≡◌, ◌+◌, ◌≤◌, drop}
use Rattle.tp_model.specs.Sound.{datas}
use Rattle.tp_recover.proofs.area.flights.datas.Given as goal

abbrev pub invariant-loop-token : goal.invariant-loop-token
invariant-loop-token l = (l.count + datas (drop l.token-index l.tokens) ≡ datas l.tokens) × (l.count ≤ l.token-index)
