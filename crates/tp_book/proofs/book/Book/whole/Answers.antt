use Rattle.std.proofs.Common.{length, ap, ◌∙◌}
use Rattle.tp_book.proofs.Lower.{t414, whole, whole_of, has_four_links, whole_holds, whole_only, whole_there}
use Rattle.tp_book.specs.Book.{world_of}
use Rattle.tp_book.specs.Whole.{book_inside}
use Rattle.tp_book.proofs.book.Book.whole.Goals as goal

pub returns-clause-value : goal.returns-clause-value
unfolding whole
returns-clause-value c =
    rw (← c.self.view_is)
    (c.whole.ensures ∙ ap (λ n. whole_of c.wires.result.now n c.self.inside.snapshots.snapshot) c.wires.ensures.len
    ∙ ap (λ wires. whole_of wires (length c.self.inside.journal.state.lines) c.self.inside.snapshots.snapshot) c.wires.ensures.value)

pub returns-clause-holds : goal.returns-clause-holds
returns-clause-holds c = rw (← c.self.view_is) (whole_holds t414 has_four_links (world_of (book_inside c.self.inside)) c.self.invariant.holds)

pub returns-clause-only : goal.returns-clause-only
returns-clause-only c = rw (← c.self.view_is) (whole_only t414 (world_of (book_inside c.self.inside)) c.self.invariant.holds)

pub returns-clause-there : goal.returns-clause-there
returns-clause-there c = rw (← c.self.view_is) (whole_there t414 (world_of (book_inside c.self.inside)) c.self.invariant.holds)
