use Rattle.std.proofs.Common.{◌∙◌, ◌++◌, ap, string_bytes}
use Rattle.tp_views.specs.DotWaits.{edges_of}
use Rattle.tp_views.specs.Maps.{rows_seen}
use Rattle.tp_views.proofs.Joined.{joined_three, on_ok}
use Rattle.tp_views.proofs.waits.dot_waits.push_node.Goals as goal

pub returns : goal.returns
returns c =
    let named = ap (λ links. string_bytes c.push_wires.new.text ++ edges_of (rows_seen c.args.rows.now) links) c.links_of.ensures in
    on_ok _ _ c.push_links.result (λ edges. joined_three _ _ _ _ _ _ _ c.in_ok-push_node_line.ensures c.in_ok-push_wires.ensures (edges ∙ named)) c.push_links.ensures
