use Rattle.std.proofs.Common.{refl}
use Rattle.tp_model.specs.Bytes.{u32_bytes}
use Rattle.tp_node.proofs.Pieces.{pieces_more}
use Rattle.tp_node.proofs.head.put_words.Goals as goal

pub loop-i-preserved : goal.loop-i-preserved
loop-i-preserved c =
    pieces_more u32_bytes 4 c.loop-i.i _ c.args.words.now 0 c.args.out.now c.loop-i.out c.write_u32.new.buf
    (λ x. refl) c.loop-i-test.true refl c.loop-i.invariant c.write_u32.ensures
