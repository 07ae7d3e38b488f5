use Rattle.std.proofs.Common.{◌≡◌, ◌*◌, ◌∙◌, ap, sym, length, arith, drop}
use Rattle.tp_recover.proofs.Lower.{LINE_BYTES, lines_in}
use Rattle.tp_recover.proofs.Passing.{found_is, still_kept, still_counts}
use Rattle.tp_recover.proofs.Records.{lines_in-take}
use Rattle.tp_recover.proofs.area.line.read_lines.Goals as goal

pub lines_in-requires-clause-whole : goal.lines_in-requires-clause-whole
lines_in-requires-clause-whole g c = ap length c.deref.ensures.value ∙ c.in_ok-bytes.ensures.len

pub returns-clause-counts : goal.returns-clause-counts
returns-clause-counts g c = still_counts c.lines_in.result _ _ _ _ c.lines_in.ensures.read c.in_ok-bytes.ensures.counts

pub returns-clause-kept : goal.returns-clause-kept
returns-clause-kept g c = still_kept c.lines_in.result _ _ c.in_ok-bytes.ensures.kept

pub returns-clause-is : goal.returns-clause-is
returns-clause-is g c k =
    let xs = (g.D.Disk.state c.args.disk.now).now.bytes in
    let same : lines_in c.args.at c.args.wires.now c.deref.result.now ≡ lines_in c.args.at c.args.wires.now (drop c.args.at xs) =
    ap (lines_in c.args.at c.args.wires.now) (c.deref.ensures.value ∙ sym (found_is _ _ (c.in_ok-bytes.ensures.bytes k)))
    ∙ lines_in-take c.args.at (LINE_BYTES * length c.args.wires.now) c.args.wires.now (drop c.args.at xs) (omega arith) in
    rw (← same) c.lines_in.ensures.is
