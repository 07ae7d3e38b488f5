use Rattle.std.proofs.Common.{sym, ap, ◌∙◌, Some}
use Rattle.tp_book.specs.Book.{world_of}
use Rattle.tp_book.proofs.Stood.{stands_by, joined_by}
use Rattle.tp_book.proofs.Remarked.{running_in, close_few, close_act, closed_stands}
use Rattle.tp_book.proofs.book.Book.close_line.Goals as goal

pub drop_marker-requires-clause-few : goal.drop_marker-requires-clause-few
drop_marker-requires-clause-few c =
    let ready = rw (← c.self.view_is) at c.requires.ready in
    let run = running_in c.self.inside.snapshots.snapshot _ (rw (← c.self.view_is) at c.requires.recorded) in
    close_few c.self.inside.journal c.self.inside.snapshots c.self.inside.generation c.self.invariant c.known.ensures.keeps c.args.line run.0 run.1 ready run.2

pub invariant_of-self : goal.invariant_of-self
invariant_of-self c =
    let ready = rw (← c.self.view_is) at c.requires.ready in
    let run = running_in c.self.inside.snapshots.snapshot _ (rw (← c.self.view_is) at c.requires.recorded) in
    stands_by _ c.drop_marker.new.self _ c.close.new.self c.self.inside.generation c.drop_marker.ensures c.close.ensures (closed_stands c.self.inside.journal c.self.inside.snapshots c.self.inside.generation c.self.invariant c.known.ensures.keeps c.args.line run.0 run.1 ready run.2)

pub returns-clause-act : goal.returns-clause-act
returns-clause-act c =
    let ready = rw (← c.self.view_is) at c.requires.ready in
    let run = running_in c.self.inside.snapshots.snapshot _ (rw (← c.self.view_is) at c.requires.recorded) in
    rw (← c.self.view_is)
    (close_act c.self.inside.journal c.self.inside.snapshots c.self.inside.generation c.self.invariant c.known.ensures.keeps c.args.line run.0 run.1 ready run.2
    ∙ ap (λ b. Some (world_of b)) (sym (joined_by _ c.drop_marker.new.self _ c.close.new.self c.self.inside.generation c.drop_marker.ensures c.close.ensures)))
