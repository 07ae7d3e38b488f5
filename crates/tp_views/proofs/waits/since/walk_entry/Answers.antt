use Rattle.std.specs.Prelude.{◌≡◌, ◌<◌, length, set, refl}
use Rattle.std.proofs.Common.{◌∙◌, ap, arith}
use Rattle.tp_views.proofs.Lower.{slice_get_read, process}
use Rattle.tp_views.specs.Since.{entry_since, known_since}
use Rattle.tp_views.proofs.Walks.{bytes_at, bytes_set, found_there, nodes_there, thawed_at, thawed_set}
use Rattle.tp_views.proofs.waits.since.walk_entry.Goals as goal

pub entry_since-requires-clause-thawed : goal.entry_since-requires-clause-thawed
entry_since-requires-clause-thawed c =
    let nodes = c.args.nodes.now.items in
    let below : c.process_of-number.result < length nodes = omega (arith, c.if-number-len.true, c.len-2.ensures, c.args.nodes.now.ok.0) in
    thawed_at nodes c.requires.thawed c.process_of-number.result c.index_mut-node.result.now (slice_get_read nodes (length nodes) c.process_of-number.result c.index_mut-node.result.now refl below c.index_mut-node.ensures.value)

pub entry_since-requires-clause-bytes : goal.entry_since-requires-clause-bytes
entry_since-requires-clause-bytes c =
    let nodes = c.args.nodes.now.items in
    let below : c.process_of-number.result < length nodes = omega (arith, c.if-number-len.true, c.len-2.ensures, c.args.nodes.now.ok.0) in
    bytes_at nodes c.requires.bytes c.process_of-number.result c.index_mut-node.result.now (slice_get_read nodes (length nodes) c.process_of-number.result c.index_mut-node.result.now refl below c.index_mut-node.ensures.value)

pub returns-then-number-len-clause-found : goal.returns-then-number-len-clause-found
returns-then-number-len-clause-found c =
    let wires = c.args.wires.now in
    let seen = c.args.seen.now in
    let kept = c.args.kept.now in
    let nodes = c.args.nodes.now.items in
    let found = c.args.found.now.items in
    let i = c.process_of-number.result in
    let node = c.index_mut-node.result.now in
    let size : c.len.result ≡ length nodes = omega (arith, c.len.ensures, c.args.nodes.now.ok.0) in
    let is : i ≡ process wires (length nodes) kept.0 = c.process_of-number.ensures ∙ (λ j. process wires (size j) (c.kept.view_is j).0) in
    let below : i < length nodes = omega (arith, c.if-number-len.true, c.len-2.ensures, c.args.nodes.now.ok.0) in
    let at = slice_get_read nodes (length nodes) i node refl below c.index_mut-node.ensures.value in
    ap (set found i) (c.entry_since.ensures.since ∙ ap (entry_since wires seen i kept node.live) (c.known_since-since.ensures ∙ ap (λ f. known_since f i) c.deref.ensures.value))
    ∙ found_there wires kept nodes i is seen found node at

pub returns-then-number-len-clause-nodes : goal.returns-then-number-len-clause-nodes
returns-then-number-len-clause-nodes c =
    let wires = c.args.wires.now in
    let kept = c.args.kept.now in
    let nodes = c.args.nodes.now.items in
    let i = c.process_of-number.result in
    let node = c.index_mut-node.result.now in
    let size : c.len.result ≡ length nodes = omega (arith, c.len.ensures, c.args.nodes.now.ok.0) in
    let is : i ≡ process wires (length nodes) kept.0 = c.process_of-number.ensures ∙ (λ j. process wires (size j) (c.kept.view_is j).0) in
    let below : i < length nodes = omega (arith, c.if-number-len.true, c.len-2.ensures, c.args.nodes.now.ok.0) in
    let at = slice_get_read nodes (length nodes) i node refl below c.index_mut-node.ensures.value in
    nodes_there wires kept nodes i is node c.entry_since.new.node at c.entry_since.ensures.node

pub returns-then-number-len-clause-thawed : goal.returns-then-number-len-clause-thawed
returns-then-number-len-clause-thawed c = thawed_set c.args.nodes.now.items c.requires.thawed c.process_of-number.result c.entry_since.new.node c.entry_since.ensures.thawed

pub returns-then-number-len-clause-bytes : goal.returns-then-number-len-clause-bytes
returns-then-number-len-clause-bytes c = bytes_set c.args.nodes.now.items c.requires.bytes c.process_of-number.result c.entry_since.new.node c.entry_since.ensures.bytes
