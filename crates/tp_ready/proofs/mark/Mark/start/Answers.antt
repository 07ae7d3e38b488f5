use Rattle.std.proofs.Common.{◌≡◌, All, rules, sym, ap, subst, ◌∙◌}
use Rattle.std.proofs.lemmas.List.Elements.{All-push}
use Rattle.tp_ready.specs.Seen.{PassValue, RaiserValue, unrisen}
use Rattle.tp_ready.proofs.Steps.{begins}
use Rattle.tp_ready.proofs.mark.Mark.start.Goals as goal

pub of_words-requires : goal.of_words-requires
of_words-requires c = begins c.args.first

pub loop-preserved : goal.loop-preserved
loop-preserved c =
    let mark = c.in_ok-word.word.shared.table_id in
    let value : PassValue = record { mark = mark; at = c.args.first; least = 0; rises = unrisen c.args.first } in
    let raiser = c.loop.invariant.0 in
    let pass : c.pass.result ≡ value = c.pass.ensures.pass ∙ ap (λ (r : RaiserValue). record { mark = mark; at = r.at; least = 0; rises = r.rises }) raiser in (
      c.pass.ensures.raiser ∙ raiser,
      search rules,
      subst (λ items. All (λ p. p ≡ value) items) (sym c.in_ok-push.ensures.items) (All-push (λ p. p ≡ value) c.loop.all.items c.pass.result c.loop.invariant.2 pass),
    )
