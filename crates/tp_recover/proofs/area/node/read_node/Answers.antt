use Rattle.std.proofs.Common.{◌∙◌, ◌+◌, ◌*◌, ap, drop, sym, refl, subst, take}
use Rattle.tp_recover.specs.Nodes.{live_node}
use Rattle.tp_recover.specs.Reading.{ReadAnswer}
use Rattle.tp_recover.proofs.Leaving.{then_leaves}
use Rattle.tp_recover.proofs.Passing.{found_is}
use Rattle.tp_recover.proofs.Nodes.{image_apart, node_read}
use Rattle.tp_recover.proofs.area.node.read_node.Goals as goal

pub node_in-requires-clause-bytes : goal.node_in-requires-clause-bytes
node_in-requires-clause-bytes g c = c.in_ok-memory.ensures.fit

pub returns-in_err-memory-clause-leaves : goal.returns-in_err-memory-clause-leaves
returns-in_err-memory-clause-leaves g c = then_leaves _ _ _ c.read_array.ensures.leaves c.read_bytes.ensures.leaves

pub returns-clause-leaves : goal.returns-clause-leaves
returns-clause-leaves g c = then_leaves _ _ _ c.read_array.ensures.leaves c.read_bytes.ensures.leaves

pub returns-clause-is : goal.returns-clause-is
returns-clause-is g c k =
    let old = (g.D.Disk.state c.args.disk.now).now in
    let now = (g.D.Disk.state c.read_array.new.disk).now in
    subst (λ given. ReadAnswer live_node given c.node_in.result)
    (sym (node_read c.args.at c.args.pages old.bytes _
    (image_apart c.args.at (c.args.at + 172) c.args.pages old now _ _ refl c.in_ok-head.ensures.kept
    (sym (found_is _ _ (c.in_ok-head.ensures.bytes (c.read_bytes.ensures.premise k))))
    (sym (found_is _ _ (c.in_ok-memory.ensures.bytes k)) ∙ ap (λ n. take (1024 * n) (drop (c.args.at + 172) now.bytes)) c.from.ensures))))
    c.node_in.ensures.is
