use Rattle.std.proofs.Common.{◌≡◌, ◌+◌, ◌≤◌, ◌++◌, ℕ, length, refl, sym, ap, ◌∙◌, arith, Option, Some, None, get_or, length-append}
use Rattle.tp_replay.proofs.Lower.{take_all, Token, Data, t414, on_link, took_all}
use Rattle.tp_replay.proofs.TurnOfNode.{took_next, took_stops, at_most_one}
use Rattle.tp_replay.proofs.pieces.turns.take_all.Goals as goal

pub loop-m-init : goal.loop-m-init
unfolding took_all
loop-m-init c = (c.requires.live, (let none = ap length c.requires.empty in omega (arith, none)), rw c.requires.empty refl)

pub take_one-requires-clause-live : goal.take_one-requires-clause-live
take_one-requires-clause-live c = c.loop-m.invariant.0

pub take_one-requires-clause-room : goal.take_one-requires-clause-room
take_one-requires-clause-room c = omega (arith, c.loop-m.invariant.1, c.loop-m-test.true, c.requires.few)

pub returns-then-not-take_one-clause-live : goal.returns-then-not-take_one-clause-live
returns-then-not-take_one-clause-live c = c.take_one.ensures.live

pub returns-then-not-take_one-clause-takes : goal.returns-then-not-take_one-clause-takes
returns-then-not-take_one-clause-takes c =
    took_stops c.args.tokens.now c.loop-m.m-index (0, Data 0) c.loop-m-test.true c.args.node.now.live c.loop-m.node.live c.loop-m.out.items c.loop-m.invariant.2 c.if-not-take_one.ensures.takes

pub loop-m-preserved : goal.loop-m-preserved
loop-m-preserved c =
    let inv = c.loop-m.invariant in
    let one = c.if-not-take_one.ensures.takes in
    let link : ℕ = (get_or c.args.tokens.now c.loop-m.m-index (0, Data 0)).0 in
    let few = ap length one.2 ∙ length-append c.loop-m.out.items (on_link link one.0) in
    let single = at_most_one link one.0 in (
      c.take_one.ensures.live,
      omega (arith, few, single, inv.1),
      took_next c.args.tokens.now c.loop-m.m-index (0, Data 0) c.loop-m-test.true c.args.node.now.live c.loop-m.node.live c.take_one.new.node.live c.loop-m.out.items (on_link link one.0) c.take_one.new.out.items inv.2 one.1 one.2,
    )

pub returns-clause-live : goal.returns-clause-live
returns-clause-live c = c.loop-m.invariant.0

pub returns-clause-takes : goal.returns-clause-takes
returns-clause-takes c = sym (ap (λ ms. took_all t414 ms c.args.node.now.live) (take_all c.loop-m.m-index c.args.tokens.now c.loop-m-test.false)) ∙ c.loop-m.invariant.2
