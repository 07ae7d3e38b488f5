use Rattle.std.proofs.Common.{◌<◌, length, sym, ap, ◌∙◌, arith, Some}
use Rattle.tp_book.specs.Book.{world_of}
use Rattle.tp_book.proofs.Stood.{stands_by, joined_by}
use Rattle.tp_book.proofs.Remarked.{asked_in, record_few, record_act, recorded_value, recorded_stands}
use Rattle.tp_book.proofs.book.Book.record.Goals as goal

pub mark_node-requires-clause-few : goal.mark_node-requires-clause-few
mark_node-requires-clause-few c =
    let there = rw (← c.self.view_is) at c.requires.there in
    let run = asked_in c.self.inside.snapshots.snapshot c.args.node (rw (← c.self.view_is) at c.requires.asked) in
    let below : c.args.node < length c.self.inside.journal.state.start.nodes = omega (arith, there, c.known.ensures.shaped.count) in
    record_few c.self.inside.journal c.self.inside.snapshots c.self.inside.generation c.self.invariant c.known.ensures.keeps c.args.node run.0 run.1 below run.2

pub invariant_of-self : goal.invariant_of-self
invariant_of-self c =
    let there = rw (← c.self.view_is) at c.requires.there in
    let run = asked_in c.self.inside.snapshots.snapshot c.args.node (rw (← c.self.view_is) at c.requires.asked) in
    let below : c.args.node < length c.self.inside.journal.state.start.nodes = omega (arith, there, c.known.ensures.shaped.count) in
    stands_by _ c.mark_node.new.self _ c.record.new.self c.self.inside.generation c.mark_node.ensures c.record.ensures (recorded_stands c.self.inside.journal c.self.inside.snapshots c.self.inside.generation c.self.invariant c.known.ensures.keeps c.args.node run.0 run.1 below run.2 c.image_of-image.result.image c.image_of-image.ensures)

pub returns-clause-book : goal.returns-clause-book
returns-clause-book c =
    let there = rw (← c.self.view_is) at c.requires.there in
    let run = asked_in c.self.inside.snapshots.snapshot c.args.node (rw (← c.self.view_is) at c.requires.asked) in
    let below : c.args.node < length c.self.inside.journal.state.start.nodes = omega (arith, there, c.known.ensures.shaped.count) in
    rw (← c.self.view_is)
    (joined_by _ c.mark_node.new.self _ c.record.new.self c.self.inside.generation c.mark_node.ensures c.record.ensures
    ∙ recorded_value c.self.inside.journal c.self.inside.snapshots c.self.inside.generation c.self.invariant c.known.ensures.keeps c.args.node run.0 run.1 below run.2 c.image_of-image.result.image c.image_of-image.ensures)

pub returns-clause-act : goal.returns-clause-act
returns-clause-act c =
    let there = rw (← c.self.view_is) at c.requires.there in
    let run = asked_in c.self.inside.snapshots.snapshot c.args.node (rw (← c.self.view_is) at c.requires.asked) in
    let below : c.args.node < length c.self.inside.journal.state.start.nodes = omega (arith, there, c.known.ensures.shaped.count) in
    rw (← c.self.view_is)
    (record_act c.self.inside.journal c.self.inside.snapshots c.self.inside.generation c.self.invariant c.known.ensures.keeps c.args.node run.0 run.1 below run.2
    ∙ ap (λ b. Some (world_of b)) (sym (joined_by _ c.mark_node.new.self _ c.record.new.self c.self.inside.generation c.mark_node.ensures c.record.ensures
    ∙ recorded_value c.self.inside.journal c.self.inside.snapshots c.self.inside.generation c.self.invariant c.known.ensures.keeps c.args.node run.0 run.1 below run.2 c.image_of-image.result.image c.image_of-image.ensures)))
