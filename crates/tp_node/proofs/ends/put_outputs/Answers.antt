use Rattle.std.proofs.Common.{refl, ◌∙◌}
use Rattle.tp_node.proofs.Lower.{out_end_bytes, length-out_end}
use Rattle.tp_node.proofs.Pieces.{pieces_more}
use Rattle.tp_node.proofs.ends.put_outputs.Goals as goal

pub loop-i-preserved : goal.loop-i-preserved
loop-i-preserved c =
    pieces_more out_end_bytes 16 c.loop-i.i _ c.args.ends.now c.index-ends-i.result c.args.out.now c.loop-i.out c.put_out_end.new.out
    length-out_end c.loop-i-test.true refl c.loop-i.invariant
    (rw (c.end.ensures ∙ c.index-ends-i.is) at c.put_out_end.ensures)
