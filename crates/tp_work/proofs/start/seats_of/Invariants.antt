use Rattle.std.proofs.Common.{◌≡◌, [], map}
use Rattle.std.specs.Prelude.{All}
use Rattle.tp_work.specs.declared.heed.Heed.TheVariants.{Unbroken}
use Rattle.tp_work.proofs.start.seats_of.Given as goal

abbrev pub invariant-loop-hand : goal.invariant-loop-hand
invariant-loop-hand g l = record {
  hands : map (λ seat. seat.hand) l.seats.items ≡ l.yielded;
  slips : All (λ seat. seat.slips ≡ []) l.seats.items;
  idle : All (λ seat. (seat.answers ≡ []) × (seat.heed ≡ Unbroken)) l.seats.items;
}
