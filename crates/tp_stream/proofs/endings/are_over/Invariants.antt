-- Nothing is left of the inputs so far that their ports may take.
use Rattle.std.proofs.Common.{◌≡◌, true, take}
use Rattle.tp_stream.proofs.Lower.{list_all, is_over}
use Rattle.tp_stream.proofs.endings.are_over.Given as goal

abbrev pub invariant-loop-input : goal.invariant-loop-input
invariant-loop-input g l = list_all (λ i. is_over i.ended i.is_blocked) (take l.input-index l.inputs) ≡ true
