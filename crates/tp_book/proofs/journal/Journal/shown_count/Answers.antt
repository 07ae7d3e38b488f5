use Rattle.std.proofs.Common.{arith, sym, refl, ap, ◌∙◌, length}
use Rattle.tp_book.proofs.Lower.{length-map, slice_get_read}
use Rattle.tp_book.proofs.ShownOutputs.{shows_upto, shown_few}
use Rattle.tp_book.proofs.journal.Journal.shown_count.Goals as goal

pub returns-clause-few : goal.returns-clause-few
returns-clause-few c =
    let there = rw (← c.self.view_is) at c.requires in
    let at = slice_get_read c.self.inside.ports.items (length c.self.inside.ports.items) c.args.port c.index.result.now refl (omega (arith, there, length-map c.self.inside.ports.items (λ q. q.port))) c.index.ensures in
    let few = shown_few c.self.inside c.self.invariant c.args.port c.index.result.now at (sym (ap length c.marks.ensures.value) ∙ c.marks.ensures.len) c.args.mark in
    rw (← c.self.view_is) (omega (arith, few, c.self.invariant.numbers))

pub returns-clause-exactly : goal.returns-clause-exactly
returns-clause-exactly c =
    let there = rw (← c.self.view_is) at c.requires in
    let at = slice_get_read c.self.inside.ports.items (length c.self.inside.ports.items) c.args.port c.index.result.now refl (omega (arith, there, length-map c.self.inside.ports.items (λ q. q.port))) c.index.ensures in
    rw (← c.self.view_is)
    (shows_upto c.self.inside c.self.invariant c.args.port c.index.result.now at (sym (ap length c.marks.ensures.value) ∙ c.marks.ensures.len) c.args.mark)
