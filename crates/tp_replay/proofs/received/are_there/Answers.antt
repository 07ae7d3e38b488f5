use Rattle.std.proofs.Common.{◌+◌, drop, sym, ap, ◌∙◌, arith}
use Rattle.std.specs.Prelude.{◌&&◌}
use Rattle.std.proofs.lemmas.List.{drop_all}
use Rattle.tp_replay.proofs.Stands.{all_stand, stand_from, stand_is}
use Rattle.tp_replay.proofs.received.are_there.Goals as goal

pub returns-then-not-stands : goal.returns-then-not-stands
returns-then-not-stands c =
    let wires = c.args.wires.now in
    let lines = c.args.lines.now in
    let takes = c.args.takes.now in
    let k = c.loop-link.link in
    let behind = all_stand wires c.args.nodes c.args.node lines (k + 1) (drop (k + 1) takes) in
    let none = sym c.stands.ensures ∙ c.if-not-stands.true in
    sym (ap (λ b. b && behind) none) ∙ sym (stand_from wires c.args.nodes c.args.node lines takes k (omega (arith, c.told-takes, c.loop-link-test.true))) ∙ c.loop-link.invariant ∙ stand_is wires c.args.nodes c.args.node lines takes

pub returns : goal.returns
returns c =
    let wires = c.args.wires.now in
    let lines = c.args.lines.now in
    let takes = c.args.takes.now in
    let k = c.loop-link.link in
    sym (ap (all_stand wires c.args.nodes c.args.node lines k) (drop_all k takes (omega (arith, c.told-takes, c.loop-link-test.false)))) ∙ c.loop-link.invariant ∙ stand_is wires c.args.nodes c.args.node lines takes
