use Rattle.std.proofs.Common.{◌+◌, ◌++◌, ◌∷◌, sym, ap, ◌∙◌, arith, length, take, set, get_or, length-set, []}
use Rattle.tp_book.proofs.Lower.{take_more, length-take-le, set-set, Data, on_line, on_set_same}
use Rattle.tp_book.proofs.ports.fill.fill_line.Goals as goal

pub push-requires-clause-there : goal.push-requires-clause-there
push-requires-clause-there c = omega (arith, ap length c.loop-token.invariant, length-set c.args.lines.now c.args.line (take c.loop-token.token-index c.args.tokens.now), c.requires.there)

pub push-requires-clause-room : goal.push-requires-clause-room
push-requires-clause-room c =
    let on = ap (λ lines. on_line lines c.args.line) c.loop-token.invariant ∙ on_set_same c.args.lines.now c.args.line (take c.loop-token.token-index c.args.tokens.now) c.requires.there in
    omega (arith, ap length on, length-take-le c.loop-token.token-index c.args.tokens.now c.loop-token.auto.token-index-end, c.requires.few, c.loop-token-test.true)

pub loop-token-preserved : goal.loop-token-preserved
loop-token-preserved c =
    let on = ap (λ lines. on_line lines c.args.line) c.loop-token.invariant ∙ on_set_same c.args.lines.now c.args.line (take c.loop-token.token-index c.args.tokens.now) c.requires.there in
    c.push.ensures ∙ ap (λ tokens. set c.loop-token.lines c.args.line (tokens ++ get_or c.args.tokens.now c.loop-token.token-index (Data 0) ∷ [])) on
    ∙ ap (set c.loop-token.lines c.args.line) (sym (take_more c.args.tokens.now c.loop-token.token-index (Data 0) c.loop-token-test.true))
    ∙ ap (λ lines. set lines c.args.line (take (c.loop-token.token-index + 1) c.args.tokens.now)) c.loop-token.invariant
    ∙ set-set c.args.lines.now c.args.line (take c.loop-token.token-index c.args.tokens.now) (take (c.loop-token.token-index + 1) c.args.tokens.now)
