use Rattle.std.proofs.Common.{rules, ◌≡◌, ◌+◌, ◌-◌, ◌<◌, true, length, Err, refl, subst, ◌∙◌, arith}
use Rattle.tp_stream.proofs.Lower.{length-set, slice_get-get_or}
use Rattle.tp_stream.specs.Rooms.{has_room_for}
use Rattle.tp_stream.specs.Steps.{PutsLeft}
use Rattle.tp_stream.specs.Streamed.{OtherThanFull}
use Rattle.tp_stream.proofs.FailedEnds.{names_output}
use Rattle.tp_stream.proofs.Failures.{if_err}
use Rattle.tp_stream.proofs.Kept.{room_for_one, room_then}
use Rattle.tp_stream.proofs.Puts.{all_left, each_any, each_more, left_nothing, left_then, puts_left, stands_left}
use Rattle.tp_stream.proofs.pumping.step_all.Goals as goal

pub loop-output-init : goal.loop-output-init
loop-output-init g c = record { left = all_left c.args.held.now.book; puts = refl; many = refl; unfed = λ p. refl; noted = λ N. N; room = λ journal L there. (L, let none : length c.args.outputs.now ≡ length c.args.outputs.now - 0 = omega arith in subst (λ n. has_room_for journal c.args.held.now.book n ≡ true) none there) }

pub step_output-requires : goal.step_output-requires
step_output-requires g c k began =
    stands_left g.J.Naming.formatted c.args.flusher.now.world c.args.held.now.book c.loop-output.held.book (c.requires k began) c.loop-output.invariant.left

pub loop-output-preserved : goal.loop-output-preserved
loop-output-preserved g c =
    let I = c.loop-output.invariant in
    let b = c.args.held.now.book in
    let mark = c.args.flusher.now.world.mark in
    let within : c.loop-output.output-index < length c.loop-output.outputs = omega arith in
    let E = c.step_output.ensures in
    record {
      left = left_then b c.loop-output.held.book c.step_output.new.held.book I.left E.left;
      puts =
          each_more (PutsLeft b mark) c.loop-output.output-index c.args.outputs.now c.loop-output.outputs c.output-item.result c.step_output.new.output within I.puts
          (puts_left b c.loop-output.held.book mark _ c.step_output.new.output I.left E.puts);
      many = length-set c.loop-output.outputs c.loop-output.output-index c.step_output.new.output ∙ I.many;
      unfed = λ p. E.unfed p ∙ I.unfed p;
      noted = λ N. E.noted c.loop-output.outputs c.loop-output.output-index (slice_get-get_or c.loop-output.outputs c.loop-output.output-index c.output-item.result within) (I.noted N);
      room = λ journal L there.
          let many = I.many in
          let R = I.room journal L there in
          let one : length c.args.outputs.now - c.loop-output.output-index ≡ length c.args.outputs.now - (c.loop-output.output-index + 1) + 1 = omega (arith, within, many) in
          room_then journal c.loop-output.held.book c.step_output.new.held.book (length c.args.outputs.now - (c.loop-output.output-index + 1)) E.book R.0
          (subst (λ n. has_room_for journal c.loop-output.held.book n ≡ true) one R.1);
    }

pub returns-in_err-step_output-clause-room : goal.returns-in_err-step_output-clause-room
returns-in_err-step_output-clause-room g c journal L there =
    let I = c.loop-output.invariant in
    let within : c.loop-output.output-index < length c.loop-output.outputs = omega arith in
    let many = I.many in
    let R = I.room journal L there in
    let fault = c.in_err-step_output.field-0.0 in
    let is : c.from_residual.result ≡ Err fault = search rules in
    if_err c.from_residual.result fault OtherThanFull is
    (c.in_err-step_output.ensures.room
    (room_for_one journal c.loop-output.held.book (length c.args.outputs.now - c.loop-output.output-index) (omega (arith, within, many)) R.0 R.1))

pub returns-in_err-step_output-clause-puts : goal.returns-in_err-step_output-clause-puts
returns-in_err-step_output-clause-puts g c =
    let I = c.loop-output.invariant in
    let b = c.args.held.now.book in
    let mark = c.args.flusher.now.world.mark in
    let within : c.loop-output.output-index < length c.loop-output.outputs = omega arith in
    each_any (PutsLeft b mark) (left_nothing b mark) (c.loop-output.output-index + 1) c.args.outputs.now _
    (each_more (PutsLeft b mark) c.loop-output.output-index c.args.outputs.now c.loop-output.outputs c.output-item.result c.step_output.new.output within I.puts
    (puts_left b c.loop-output.held.book mark _ c.step_output.new.output I.left c.step_output.ensures.puts))

pub returns-clause-puts : goal.returns-clause-puts
returns-clause-puts g c =
    each_any (PutsLeft c.args.held.now.book c.args.flusher.now.world.mark) (left_nothing c.args.held.now.book c.args.flusher.now.world.mark) c.loop-output.output-index c.args.outputs.now
    c.loop-output.outputs c.loop-output.invariant.puts

pub returns-in_err-step_output-clause-ends : goal.returns-in_err-step_output-clause-ends
returns-in_err-step_output-clause-ends g c inputs =
    let within : c.loop-output.output-index < length c.loop-output.outputs = omega arith in
    let fault = c.in_err-step_output.field-0.0 in
    let is : c.from_residual.result ≡ Err fault = search rules in
    if_err c.from_residual.result fault _ is
    (names_output c.loop-output.outputs c.loop-output.output-index c.step_output.new.output inputs fault within c.in_err-step_output.ensures.names)

pub returns-in_err-step_output-clause-unfed : goal.returns-in_err-step_output-clause-unfed
returns-in_err-step_output-clause-unfed g c p = c.step_output.ensures.unfed p ∙ c.loop-output.invariant.unfed p

pub returns-in_err-step_output-clause-noted : goal.returns-in_err-step_output-clause-noted
returns-in_err-step_output-clause-noted g c N =
    let within : c.loop-output.output-index < length c.loop-output.outputs = omega arith in
    c.step_output.ensures.noted c.loop-output.outputs c.loop-output.output-index (slice_get-get_or c.loop-output.outputs c.loop-output.output-index c.output-item.result within)
    (c.loop-output.invariant.noted N)
