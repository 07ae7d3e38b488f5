use Rattle.std.proofs.Common.{◌∙◌, ◌++◌, ap, string_bytes}
use Rattle.tp_views.specs.JsonWaits.{link_fields}
use Rattle.tp_views.specs.Maps.{rows_seen}
use Rattle.tp_views.proofs.Joined.{joined_four, on_ok}
use Rattle.tp_views.proofs.waits.json_waits.push_node.Goals as goal

pub returns : goal.returns
returns c =
    let named = ap (λ links. string_bytes c.push_last.new.text ++ link_fields (rows_seen c.args.rows.now) c.args.reached.now c.args.number links) c.links_of.ensures in
    on_ok _ _ c.push_links.result (λ links. joined_four _ _ _ _ _ _ _ _ _ c.in_ok-push_number.ensures c.in_ok-push_does.ensures c.in_ok-push_last.ensures (links ∙ named)) c.push_links.ensures
