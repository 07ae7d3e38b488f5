use Rattle.std.proofs.Common.{◌+◌, ◌-◌, ◌++◌, sym, ap, ◌∙◌, arith, append-nil}
use Rattle.tp_area.proofs.Lower.{u16_at, u16s_at}
use Rattle.tp_area.proofs.TwoBytes.{u16s_at-none, u16s_at_more}
use Rattle.tp_area.proofs.Parts.{u16_at-take}
use Rattle.tp_area.proofs.encoding.numbers.u16s_in.Goals as goal

pub loop-preserved : goal.loop-preserved
loop-preserved g c = record {
  read =
      ap (λ numbers. numbers ++ u16s_at (c.args.count - (c.loop.counter + 1)) c.split_at.result.1.now) c.push.ensures.items
      ∙ u16s_at_more c.loop.numbers.items c.u16_at.result c.loop.rest.now c.split_at.result.1.now c.args.count c.loop.counter (omega arith)
      (c.u16_at.ensures ∙ ap (λ bytes. u16_at bytes 0) c.split_at.ensures.front ∙ u16_at-take 2 0 c.loop.rest.now (omega arith)) c.split_at.ensures.back
      ∙ c.loop.invariant.read;
  count = omega arith;
  there = omega arith;
}

pub returns-clause-value : goal.returns-clause-value
returns-clause-value g c =
    sym (append-nil c.loop.numbers.items) ∙ ap (λ numbers. c.loop.numbers.items ++ numbers) (sym (u16s_at-none (c.args.count - c.loop.counter) c.loop.rest.now (omega arith))) ∙ c.loop.invariant.read
