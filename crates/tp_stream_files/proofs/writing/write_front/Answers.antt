use Rattle.std.proofs.Common.{rules, ℕ, List, take, sym, subst}
use Rattle.tp_stream_files.proofs.Lower.{take_rest, Appends}
use Rattle.tp_stream_files.proofs.Fronts.{more_appended, kept_appended}
use Rattle.tp_stream_files.proofs.writing.write_front.Goals.{in-Ok, in-Err}
use Rattle.tp_stream_files.proofs.writing.write_front.Goals as goal

pub loop-preserved : goal.loop-preserved
loop-preserved g c = elim c.match-write.branch [
  | in-Ok w ↦ record {
    few = search rules;
    front = subst (λ (n : ℕ). Appends (g.E.Write.contents c.args.out.now) (g.E.Write.contents c.write.new.self) (take n c.args.bytes.now)) (sym w.written-is)
        (more_appended _ (g.E.Write.contents c.loop.out) _ c.args.bytes.now c.loop.written w.in-Ok.count c.loop.invariant.front
        (subst (λ (part : List ℕ). Appends (g.E.Write.contents c.loop.out) (g.E.Write.contents c.write.new.self) (take w.in-Ok.count part))
        (take_rest c.args.bytes.now c.loop.written) w.in-Ok.ensures.bytes));
  }
  | in-Err w ↦ record {
    few = search rules;
    front = subst (λ (n : ℕ). Appends (g.E.Write.contents c.args.out.now) (g.E.Write.contents c.write.new.self) (take n c.args.bytes.now)) (sym w.written-is)
        (kept_appended _ (g.E.Write.contents c.loop.out) _ _ c.loop.invariant.front w.in-Err.ensures.bytes);
  }
]
