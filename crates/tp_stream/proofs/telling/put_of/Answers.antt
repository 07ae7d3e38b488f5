use Rattle.std.proofs.Common.{length-set, ◌∙◌, arith}
use Rattle.tp_stream.proofs.Notices.{put_more}
use Rattle.tp_stream.proofs.telling.put_of.Goals as goal

pub loop-port-preserved : goal.loop-port-preserved
loop-port-preserved g c =
    let I = c.loop-port.invariant in
    let many = I.many in
    record {
      many = length-set c.loop-port.put c.loop-port.port c.put_at.result ∙ many;
      each = put_more c.args.outputs.now c.loop-port.put c.loop-port.port c.put_at.result (omega (arith, many)) c.put_at.ensures I.each;
    }
