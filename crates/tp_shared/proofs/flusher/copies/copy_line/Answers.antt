use Rattle.std.proofs.Common.{◌≡◌, ◌+◌, ◌++◌, ◌∷◌, [], sym, ap, ◌∙◌, take, set, Some, slice_get}
use Rattle.tp_shared.proofs.Lower.{set-set, on_line, on_set_same}
use Rattle.tp_shared.proofs.Copying.{take_some}
use Rattle.tp_shared.proofs.flusher.copies.copy_line.Goals as goal

pub loop-at-preserved : goal.loop-at-preserved
loop-at-preserved c =
    let tokens = on_line c.args.from.now c.args.line in
    let at = c.loop-at.at in
    let got : slice_get tokens at ≡ Some c.in-Some.token = sym c.get.ensures ∙ c.in-Some.is in
    let on = ap (λ lines. on_line lines c.args.line) c.loop-at.invariant ∙ on_set_same c.args.lines.now c.args.line (take at tokens) c.requires.there.0 in
    c.push.ensures ∙ ap (λ ts. set c.loop-at.lines c.args.line (ts ++ c.in-Some.token ∷ [])) on
    ∙ ap (set c.loop-at.lines c.args.line) (sym (take_some tokens at c.in-Some.token got))
    ∙ ap (λ lines. set lines c.args.line (take (at + 1) tokens)) c.loop-at.invariant
    ∙ set-set c.args.lines.now c.args.line (take at tokens) (take (at + 1) tokens)
