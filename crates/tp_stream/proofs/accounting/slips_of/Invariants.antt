use Rattle.std.proofs.Common.{◌≡◌, ◌++◌}
use Rattle.std.specs.Prelude.{flat_map}
use Rattle.tp_stream.proofs.accounting.slips_of.Given as goal

abbrev pub invariant-loop-seat : goal.invariant-loop-seat
invariant-loop-seat g l = l.all ≡ l.fn.first ++ flat_map (λ s. s.slips) l.yielded
