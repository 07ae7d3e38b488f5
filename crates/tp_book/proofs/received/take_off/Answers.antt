use Rattle.std.proofs.Common.{sym, ◌∙◌}
use Rattle.tp_model.specs.declared.link.Token.TheVariants.{Data}
use Rattle.tp_book.proofs.InFront.{next_off, off_done}
use Rattle.tp_book.proofs.received.take_off.Goals as goal

pub pop-requires : goal.pop-requires
pop-requires c =
    let O = next_off c.loop-m.lines c.args.tokens.now c.loop-m.m-index (0, Data 0) c.loop-m-test.true c.loop-m.invariant.some in
    rw c.from.ensures O.there

pub loop-m-preserved : goal.loop-m-preserved
loop-m-preserved c =
    let O = next_off c.loop-m.lines c.args.tokens.now c.loop-m.m-index (0, Data 0) c.loop-m-test.true c.loop-m.invariant.some in
    record {
      some = rw (c.pop.ensures.after, c.from.ensures) O.some;
      is = rw (c.pop.ensures.after, c.from.ensures) (sym O.is) ∙ c.loop-m.invariant.is;
    }

pub returns : goal.returns
returns c = sym c.loop-m.invariant.is ∙ off_done c.loop-m.lines c.args.tokens.now c.loop-m.m-index c.loop-m-test.false
