use Rattle.std.proofs.Common.{◌≡◌, false, arith, rules}
use Rattle.tp_turn.proofs.Lower.{slice_get_within, has_recorded_in, agreed, length-agreed}
use Rattle.tp_turn.specs.Turns.{InOrder}
use Rattle.tp_turn.specs.Moments.{moment_of}
use Rattle.tp_turn.specs.Settled.{Records}
use Rattle.tp_turn.specs.Whole.{ClosesFront}
use Rattle.tp_turn.proofs.Adding.{order_none, then_more}
use Rattle.tp_turn.proofs.Marking.{behind_more, behind_unrecorded}
use Rattle.tp_turn.proofs.markers.answer_markers.Goals as goal

pub recorded-requires : goal.recorded-requires
recorded-requires c =
    let b = c.record_asked.new.book.state in
    let below = slice_get_within (agreed b) c.args.number c.record_asked.new.node.live c.record_asked.ensures.is.there in
    omega (arith, c.known.ensures.shaped.count, below, length-agreed b c.known.ensures.keeps)

pub returns-then-not-recorded-clause-done : goal.returns-then-not-recorded-clause-done
returns-then-not-recorded-clause-done c =
    let b = c.record_asked.new.book in
    let not : has_recorded_in b.state.snapshot c.args.number ≡ false = search rules in
    behind_unrecorded c.args.number (Records c.args.number) (moment_of c.args.book.now c.args.node.now) b c.record_asked.new.node c.record_asked.ensures.is not c.record_asked.ensures.done 4

pub loop-link-init : goal.loop-link-init
loop-link-init c =
    let here = moment_of c.record_asked.new.book c.record_asked.new.node in
    record {
      done = then_more c.args.number (Records c.args.number) (InOrder (λ k. ClosesFront c.args.number k) 0) (moment_of c.args.book.now c.args.node.now) here here c.record_asked.ensures.done
          (order_none c.args.number (λ k. ClosesFront c.args.number k) here c.record_asked.ensures.is.there);
      is = c.record_asked.ensures.is;
    }

pub loop-link-preserved : goal.loop-link-preserved
loop-link-preserved c = record {
  done = behind_more c.args.number (Records c.args.number) (λ k. ClosesFront c.args.number k) c.loop-link.link (moment_of c.args.book.now c.args.node.now) (moment_of c.loop-link.book c.record_asked.new.node)
      (moment_of c.close_front.new.book c.record_asked.new.node) c.loop-link.invariant.done c.close_front.ensures.done;
  is = c.close_front.ensures.is;
}
