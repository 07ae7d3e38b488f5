use Rattle.std.proofs.Common.{◌≡◌, ◌<◌, sym, subst, arith, rules}
use Rattle.std.specs.Prelude.{Err}
use Rattle.tp_turn.specs.Turns.{InOrder}
use Rattle.tp_turn.specs.Moments.{moment_of, Done}
use Rattle.tp_turn.specs.Settled.{Records, LeavesLink, Settles, SettledAs}
use Rattle.tp_turn.proofs.Adding.{order_none, then_more}
use Rattle.tp_turn.proofs.Lining.{links_more, links_stop, settles_with}
use Rattle.tp_turn.proofs.settling.settle.Goals as goal

pub loop-link-init : goal.loop-link-init
loop-link-init c =
    let here = moment_of c.record_asked.new.book c.record_asked.new.node in
    record {
      done = then_more c.args.number (Records c.args.number) (InOrder (λ k. LeavesLink c.args.number k) 0) (moment_of c.args.book.now c.args.node.now) here here c.record_asked.ensures.done
          (order_none c.args.number (λ k. LeavesLink c.args.number k) here c.record_asked.ensures.is.there);
      is = c.record_asked.ensures.is;
    }

pub loop-link-preserved : goal.loop-link-preserved
loop-link-preserved c = record {
  done = links_more c.args.number (moment_of c.args.book.now c.args.node.now) (moment_of c.loop-link.book c.loop-link.node) (moment_of c.act_on_link.new.book c.act_on_link.new.node) c.loop-link.link
      c.loop-link.invariant.done c.in_ok-act_on_link.field-0 c.in_ok-act_on_link.ensures.done;
  is = c.act_on_link.ensures.is;
}

pub returns-in_err-act_on_link-clause-done : goal.returns-in_err-act_on_link-clause-done
returns-in_err-act_on_link-clause-done c =
    let e : c.from_residual.result ≡ Err c.in_err-act_on_link.field-0.0 = search rules in
    let there : c.loop-link.link < 4 = search rules in
    let start = moment_of c.args.book.now c.args.node.now in
    let last = moment_of c.act_on_link.new.book c.act_on_link.new.node in
    subst (λ r. Done c.args.number (SettledAs c.args.number r) start last) (sym e)
    (links_stop c.args.number start (moment_of c.loop-link.book c.loop-link.node) last c.loop-link.link c.loop-link.invariant.done c.in_err-act_on_link.field-0.0 there c.in_err-act_on_link.ensures.done)

pub returns-clause-done : goal.returns-clause-done
returns-clause-done c =
    let start = moment_of c.args.book.now c.args.node.now in
    let last = moment_of c.loop-link.book c.loop-link.node in
    let D : Done c.args.number (Settles c.args.number) start last = search rules in
    settles_with c.args.number _ start last D (omega (arith, c.next-first.ensures, c.next-last.ensures))
