use Rattle.std.proofs.Common.{[], ◌∷◌, ◌++◌, None, take, map, length, sym, ap, ◌∙◌, arith}
use Rattle.tp_area.proofs.Lower.{length-map, length-take-le, map_more, take_all, end_number}
use Rattle.tp_area.proofs.encoding.end.end_numbers.Goals as goal

pub end_number-requires : goal.end_number-requires
end_number-requires c = c.requires.low c.loop-end.end-index c.loop-end-test.true

pub push-requires : goal.push-requires
push-requires c =
    let f = end_number c.args.version in
    let xs = c.args.ends.now in
    (omega arith, omega (arith, ap length c.loop-end.invariant, length-map (take c.loop-end.end-index xs) f, length-take-le c.loop-end.end-index xs (omega arith)))

pub loop-end-preserved : goal.loop-end-preserved
loop-end-preserved c =
    let f = end_number c.args.version in
    let xs = c.args.ends.now in
    let i = c.loop-end.end-index in
    c.push.ensures.items ∙ ap (λ numbers. numbers ++ c.end_number.result ∷ []) c.loop-end.invariant
    ∙ ap (λ number. map f (take i xs) ++ number ∷ []) c.end_number.ensures ∙ sym (map_more f xs i None c.loop-end-test.true)

pub returns : goal.returns
returns c =
    c.loop-end.invariant ∙ ap (λ ends. map (end_number c.args.version) ends) (take_all c.loop-end.end-index c.args.ends.now (omega arith))
