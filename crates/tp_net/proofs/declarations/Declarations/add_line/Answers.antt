use Rattle.std.proofs.Common.{sym, ap, ◌∙◌, subst, inr}
use Rattle.tp_model.specs.TopologyText.{after_words}
use Rattle.tp_net.specs.Steps.{IsStep}
use Rattle.tp_net.proofs.Reading.{after_line-skipped, after_line-spaced, after_line-words}
use Rattle.tp_net.proofs.declarations.Declarations.add_line.Goals as goal

pub returns-then-is_skipped : goal.returns-then-is_skipped
returns-then-is_skipped c = after_line-skipped c.args.self.now c.args.number c.args.line.now (sym c.is_skipped.ensures ∙ c.if-is_skipped.true)

pub returns-then-has_space_around : goal.returns-then-has_space_around
returns-then-has_space_around c =
    inr (after_line-spaced c.args.self.now c.args.number c.args.line.now (sym c.is_skipped.ensures ∙ c.if-is_skipped.false) (sym c.has_space_around.ensures ∙ c.if-has_space_around.true))

pub returns : goal.returns
returns c =
    let line = after_line-words c.args.self.now c.args.number c.args.line.now (sym c.is_skipped.ensures ∙ c.if-is_skipped.false) (sym c.has_space_around.ensures ∙ c.if-has_space_around.false) in
    subst (λ want. IsStep want c.add_words.new.self c.add_words.result) (sym (line ∙ ap (after_words c.args.self.now c.args.number) (sym c.in-Ok.ensures)))
    (rw c.as_slice.ensures.value at c.add_words.ensures)
