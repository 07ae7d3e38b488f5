use Rattle.std.proofs.Common.{arith}
use Rattle.tp_turn.proofs.lone.Lone.output.Goals as goal

pub outputs-requires : goal.outputs-requires
outputs-requires c = omega (arith, c.requires.book.ports)
