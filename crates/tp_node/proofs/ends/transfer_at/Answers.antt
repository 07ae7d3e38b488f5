use Rattle.std.proofs.lemmas.List.{drop-drop}
use Rattle.tp_node.proofs.ends.transfer_at.Goals as goal

pub returns : goal.returns
returns c =
    let bytes = c.args.bytes.now in
    rw (drop-drop 4 c.args.at bytes, drop-drop 8 c.args.at bytes, drop-drop 12 c.args.at bytes) (cc (c.u32_at.ensures, c.u32_at-2.ensures, c.u32_at-3.ensures))
