use Rattle.std.proofs.Common.{◌≡◌, ◌<◌, ◌∙◌, List, ap, subst, arith, length, take, get_or}
use Rattle.std.specs.Prelude.{All}
use Rattle.tp_stream_files.proofs.OwnPaths.{own_all, own_more}
use Rattle.tp_stream_files.specs.Named.{HaveOnePath}
use Rattle.tp_stream_files.specs.declared.ends.PortFile.{PortFile}
use Rattle.tp_stream_files.proofs.same.same_file.Goals as goal

pub loop-number-preserved : goal.loop-number-preserved
loop-number-preserved g c =
    let end = c.end-item.result in
    let i = c.loop-number.number in
    let outs = c.args.ends.now.outs.items in
    let same = c.deref-end-items.ensures.value in
    let long = ap length same in
    let test = c.loop-number-test.true in
    let low : i < length outs = omega (arith, test, long) in
    own_more c.args.device.now outs c.args.ends.now.ins.items i end low (c.end-item.is ∙ ap (λ ends. get_or ends i end) same) c.loop-number.invariant
    (c.goes_elsewhere.ensures c.if-goes_elsewhere.false)
    (subst (λ (ends : List PortFile). All (λ (other : PortFile). HaveOnePath end other → ⊥) (take i ends)) c.deref.ensures.value (c.goes_into.ensures c.if-goes_into.false))
    (subst (λ (ins : List PortFile). All (λ (other : PortFile). HaveOnePath end other → ⊥) ins) c.deref-else-goes_into.ensures.value (c.goes_into-else-goes_into.ensures c.if-goes_into-2.false))

pub returns : goal.returns
returns g c =
    let same = c.deref-end-items.ensures.value in
    let test = c.loop-number-test.false in
    let long = ap length same in
    own_all c.args.device.now c.args.ends.now.outs.items c.args.ends.now.ins.items c.loop-number.number (omega (arith, test, long)) c.loop-number.invariant
