use Rattle.std.proofs.Common.{◌≡◌, ◌<◌, ◌++◌, ◌∷◌, [], length, drop, take, sym, ap, ◌∙◌, arith, Some, slice_get}
use Rattle.tp_model.specs.Markers.{plain}
use Rattle.tp_net.proofs.Marked.{round_marker, round_other, round_room}
use Rattle.tp_net.proofs.line.Line.unmark.Goals as goal
use Rattle.tp_net.proofs.line.Line.unmark.Goals.{then-not-is_marker, else-not-is_marker}

pub push-requires : goal.push-requires
push-requires c =
    let us = c.args.self.now in
    let below : c.loop-at.at < length us = omega (arith, c.loop-at-test.true, c.len-at-end.ensures.value) in
    let at : slice_get (drop c.loop-at.at us ++ plain (take c.loop-at.at us)) 0 ≡ Some c.in-Some.token = ap (λ ts. slice_get ts 0) (sym c.loop-at.invariant) ∙ sym c.pop.ensures.value ∙ c.in-Some.is in
    let room = round_room us c.loop-at.at c.in-Some.token below at in
    omega (arith, room, ap length c.pop.ensures.after, ap (λ ts. length (drop 1 ts)) c.loop-at.invariant, c.len-at-end.ensures.value, c.len-at-end.ensures.bound)

pub loop-at-preserved : goal.loop-at-preserved
loop-at-preserved c =
    let us = c.args.self.now in
    let below : c.loop-at.at < length us = omega (arith, c.loop-at-test.true, c.len-at-end.ensures.value) in
    let at : slice_get (drop c.loop-at.at us ++ plain (take c.loop-at.at us)) 0 ≡ Some c.in-Some.token = ap (λ ts. slice_get ts 0) (sym c.loop-at.invariant) ∙ sym c.pop.ensures.value ∙ c.in-Some.is in
    elim c.if-not-is_marker.branch [
      | then-not-is_marker w ↦ w.self-is ∙ w.push.ensures ∙ ap (λ ts. ts ++ c.in-Some.token ∷ []) (c.pop.ensures.after ∙ ap (drop 1) c.loop-at.invariant)
          ∙ round_other us c.loop-at.at c.in-Some.token below at (sym c.is_marker.ensures ∙ w.if-not-is_marker.true)
      | else-not-is_marker w ↦ w.self-is ∙ c.pop.ensures.after ∙ ap (drop 1) c.loop-at.invariant
          ∙ round_marker us c.loop-at.at c.in-Some.token below at (sym c.is_marker.ensures ∙ w.if-not-is_marker.false)
    ]
