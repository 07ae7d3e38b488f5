use Rattle.std.proofs.Common.{rules, arith, ◌+◌, ◌≤◌, ap, ◌∙◌}
use Rattle.tp_model.specs.Disk.{Moment}
use Rattle.tp_recover.proofs.Ranges.{piece_copied}
use Rattle.tp_recover.proofs.Leaving.{then_leaves}
use Rattle.tp_recover.proofs.copy.pieces.copy_range.Goals as goal

pub loop-done-preserved : goal.loop-done-preserved
loop-done-preserved g c =
    let was = c.loop-done.invariant in
    let within : c.loop-done.done + c.min-length.result ≤ c.args.count = search rules in
    record {
      within = within;
      source_size = search rules;
      copy_size = search rules;
      premise = λ k. was.premise (c.copy_piece.ensures.premise k);
      kept = c.in_ok-copy_piece.ensures.kept ∙ was.kept;
      leaves = then_leaves _ _ _ was.leaves c.copy_piece.ensures.leaves;
      bytes = λ k.
          piece_copied c.args.at c.loop-done.done _ c.min-length.result (g.D.Disk.state c.args.source.now).now.bytes _ _ _ _ (search rules)
          (ap (λ (m : Moment). m.bytes) was.kept) (was.bytes (c.copy_piece.ensures.premise k)) (c.in_ok-copy_piece.ensures.bytes k)
          (omega (arith, within, c.requires.from, g.met.D.Disk.whole c.args.source.now))
          (omega (arith, c.requires.into, g.met.K.Disk.whole c.args.copy.now));
    }
