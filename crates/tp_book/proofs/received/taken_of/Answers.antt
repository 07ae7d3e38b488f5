use Rattle.std.proofs.Common.{◌+◌, ◌^◌, ◌<◌, ◌++◌, length, map, drop, get_or, sym, ap, ◌∙◌, arith, append_assoc}
use Rattle.tp_book.proofs.Lower.{Token, Nothing, by_line, by_link, received}
use Rattle.tp_book.proofs.InFront.{lines_from, taken_few, low_on}
use Rattle.tp_book.proofs.received.taken_of.Goals as goal

pub add_taken-requires-clause-low : goal.add_taken-requires-clause-low
add_taken-requires-clause-low c =
    low_on c.args.wires.now c.args.nodes c.args.node (2 ^ 16) c.args.takes.now c.loop-link.link c.loop-link.taken.items (omega (arith, c.told-takes, c.loop-link-test.true)) c.loop-link.invariant.taken
    c.requires.low

pub loop-link-preserved : goal.loop-link-preserved
loop-link-preserved c =
    let takes = c.args.takes.now in
    let wires = c.args.wires.now in
    let N = c.args.nodes in
    let i = c.args.node in
    let k = c.loop-link.link in
    let below : k < length takes = omega (arith, c.told-takes, c.loop-link-test.true) in
    let one = get_or takes k Nothing in
    let mine = by_line wires N i (map (λ (token : Token). (k, token)) (received one)) in
    let rest = by_line wires N i (by_link (k + 1) (drop (k + 1) takes)) in
    let grown = c.add_taken.ensures in
    record {
      taken =
          ap (λ ms. ms ++ rest) grown ∙ append_assoc c.loop-link.taken.items mine rest
          ∙ ap (λ ms. c.loop-link.taken.items ++ ms) (sym (lines_from wires N i takes k below)) ∙ c.loop-link.invariant.taken;
      few = taken_few wires N i c.loop-link.taken.items k one c.add_taken.new.taken.items grown c.loop-link.invariant.few;
    }
