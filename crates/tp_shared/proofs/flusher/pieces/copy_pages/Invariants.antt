use Rattle.std.proofs.Common.{◌≡◌, length}
use Rattle.std.specs.Prelude.{IfSome}
use Rattle.tp_shared.specs.Pieces.{ArePagesOf}
use Rattle.tp_shared.proofs.flusher.pieces.copy_pages.Given as goal

abbrev pub invariant-loop-k : goal.invariant-loop-k
invariant-loop-k l = record {
  long : length l.out ≡ length l.initial.out;
  pages : IfSome l.node.frozen (λ kept. ArePagesOf kept.memory l.first l.k l.out);
}
