use Rattle.std.proofs.Common.{◌≡◌, ◌<◌, ℕ, true, false, get_or}
use Rattle.tp_area.specs.Pieces.{piece_place}
use Rattle.tp_flush.specs.Progress.{is_out}
use Rattle.tp_flush.specs.Flushing.{FlushedOn}
use Rattle.tp_flush.specs.Ends.{NothingStored}
use Rattle.tp_flush.specs.Images.{StayOut}
use Rattle.tp_flush.proofs.flusher.Flusher.copy_images.Given as goal

abbrev pub invariant-loop-node : goal.invariant-loop-node
invariant-loop-node g l = record {
  went : NothingStored l.fn.self l.self;
  goes : FlushedOn g.J.Naming.formatted g.J.Naming.before l.fn.self l.self;
  place : l.image ≡ piece_place l.self.topology l.node 0;
  stay : StayOut l.fn.self.progress l.self.progress;
  out : (i : ℕ) → i < l.node → get_or l.look.recorded i false ≡ true → is_out l.self.progress i ≡ true;
}
