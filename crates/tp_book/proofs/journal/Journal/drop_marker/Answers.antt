use Rattle.tp_book.proofs.MarkedLines.{taken_fields}
use Rattle.tp_book.proofs.journal.Journal.drop_marker.Goals as goal

pub invariant_of-self : goal.invariant_of-self
invariant_of-self c =
    let front = rw (← c.self.view_is) at c.requires.front in
    let few = rw (← c.self.view_is) at c.requires.few in
    rw c.pop-marker.ensures.after (taken_fields c.self.inside c.self.invariant c.args.line front few)
