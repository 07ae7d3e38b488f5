-- The turns of the seats so far are counted.
use Rattle.std.proofs.Common.{◌≡◌, ◌<◌, ◌-◌, ◌^◌, length, take}
use Rattle.std.specs.Prelude.{sum_by}
use Rattle.tp_run.proofs.accounting.turns_of.Given as goal

abbrev pub invariant-loop-seat : goal.invariant-loop-seat
invariant-loop-seat g l = l.all < 2 ^ 64 - 1 → sum_by (λ seat. length seat.answers) (take l.seat-index l.seats) ≡ l.all
