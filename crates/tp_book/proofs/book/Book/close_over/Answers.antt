use Rattle.std.proofs.Common.{sym, ap, ◌∙◌, Some}
use Rattle.tp_book.specs.Book.{world_of}
use Rattle.tp_book.specs.Whole.{book_inside}
use Rattle.tp_book.proofs.Stood.{stands_by, joined_by}
use Rattle.tp_book.proofs.Remarked.{running_in, closable_in, over_few, over_act, over_room, over_known, passed_stands}
use Rattle.tp_book.proofs.book.Book.close_over.Goals as goal

pub close_over_in-requires-clause-known : goal.close_over_in-requires-clause-known
close_over_in-requires-clause-known c =
    let ready = closable_in (book_inside c.self.inside) c.args.line (rw (← c.self.view_is) at c.requires.ready) in
    let run = running_in c.self.inside.snapshots.snapshot _ ready.1 in
    over_known c.self.inside.journal c.self.inside.snapshots c.self.inside.generation c.self.invariant c.known.ensures.keeps c.args.line run.0 run.1 ready.0 run.2

pub close_over_in-requires-clause-room : goal.close_over_in-requires-clause-room
close_over_in-requires-clause-room c =
    let ready = closable_in (book_inside c.self.inside) c.args.line (rw (← c.self.view_is) at c.requires.ready) in
    let run = running_in c.self.inside.snapshots.snapshot _ ready.1 in
    over_room c.self.inside.journal c.self.inside.snapshots c.self.inside.generation c.self.invariant c.known.ensures.keeps c.args.line run.0 run.1 ready.0 run.2

pub unmark-requires-clause-few : goal.unmark-requires-clause-few
unmark-requires-clause-few c =
    let ready = closable_in (book_inside c.self.inside) c.args.line (rw (← c.self.view_is) at c.requires.ready) in
    let run = running_in c.self.inside.snapshots.snapshot _ ready.1 in
    over_few c.self.inside.journal c.self.inside.snapshots c.self.inside.generation c.self.invariant c.known.ensures.keeps c.args.line run.0 run.1 ready.0 run.2

pub invariant_of-self : goal.invariant_of-self
invariant_of-self c =
    let ready = closable_in (book_inside c.self.inside) c.args.line (rw (← c.self.view_is) at c.requires.ready) in
    let run = running_in c.self.inside.snapshots.snapshot _ ready.1 in
    stands_by _ c.unmark.new.self _ c.close_over_in.new.snapshots c.self.inside.generation c.unmark.ensures c.close_over_in.ensures (passed_stands c.self.inside.journal c.self.inside.snapshots c.self.inside.generation c.self.invariant c.known.ensures.keeps c.args.line run.0 run.1 ready.0 run.2)

pub returns-clause-act : goal.returns-clause-act
returns-clause-act c =
    let ready = closable_in (book_inside c.self.inside) c.args.line (rw (← c.self.view_is) at c.requires.ready) in
    let run = running_in c.self.inside.snapshots.snapshot _ ready.1 in
    rw (← c.self.view_is)
    (over_act c.self.inside.journal c.self.inside.snapshots c.self.inside.generation c.self.invariant c.known.ensures.keeps c.args.line run.0 run.1 ready.0 run.2
    ∙ ap (λ b. Some (world_of b)) (sym (joined_by _ c.unmark.new.self _ c.close_over_in.new.snapshots c.self.inside.generation c.unmark.ensures c.close_over_in.ensures)))
