use Rattle.tp_book.proofs.Lower.{node_markers, node_markers_all}
use Rattle.tp_book.proofs.MarkedLines.{markers_room, markers_fields}
use Rattle.tp_book.proofs.journal.Journal.mark_node.Goals as goal

pub mark_node-requires-clause-room : goal.mark_node-requires-clause-room
mark_node-requires-clause-room c =
    let few = rw (← c.self.view_is) at c.requires.few in
    rw c.deref.ensures.value (markers_room c.self.inside c.self.invariant (node_markers c.args.node) (node_markers_all c.args.node) few)

pub invariant_of-self : goal.invariant_of-self
invariant_of-self c =
    let few = rw (← c.self.view_is) at c.requires.few in
    let on = rw c.deref.ensures.value at c.mark_node.ensures in
    markers_fields c.self.inside c.self.invariant (node_markers c.args.node) (node_markers_all c.args.node) few c.mark_node.new.lines on
