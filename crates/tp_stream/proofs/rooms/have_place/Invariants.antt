-- The ports so far have room for one more byte.
use Rattle.std.proofs.Common.{◌<◌, ℕ, length}
use Rattle.std.specs.Prelude.{IfSome}
use Rattle.tp_stream.proofs.Lower.{MAX_HELD, outputs_of}
use Rattle.tp_stream.proofs.rooms.have_place.Given as goal

abbrev pub invariant-loop-port : goal.invariant-loop-port
invariant-loop-port l = (p : ℕ) → p < l.port → IfSome (outputs_of l.book p) (λ outputs. length outputs < MAX_HELD)
