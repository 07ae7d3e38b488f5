use Rattle.std.proofs.Common.{ap, ◌∙◌}
use Rattle.tp_book.specs.Inside.{value_of}
use Rattle.tp_book.proofs.MarkedLines.{unmarked_fields, unmarked_lines}
use Rattle.tp_book.proofs.journal.Journal.unmark.Goals as goal

pub invariant_of-self : goal.invariant_of-self
invariant_of-self c =
    let few = rw (← c.self.view_is) at c.requires.few in
    rw (c.unmark.ensures ∙ unmarked_lines c.self.inside c.self.invariant c.args.line) (unmarked_fields c.self.inside c.self.invariant c.args.line few)

pub returns : goal.returns
returns c =
    rw (← c.self.view_is)
    (ap (λ lines. value_of (record c.self.inside { lines = lines })) (c.unmark.ensures ∙ unmarked_lines c.self.inside c.self.invariant c.args.line))
