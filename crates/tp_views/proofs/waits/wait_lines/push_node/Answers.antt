use Rattle.std.proofs.Common.{◌∙◌, ◌++◌, ap, string_bytes}
use Rattle.tp_views.specs.Maps.{rows_seen}
use Rattle.tp_views.specs.Since.{known_since}
use Rattle.tp_views.specs.Waits.{last_part, links_part}
use Rattle.tp_views.proofs.Joined.{joined_four, on_ok}
use Rattle.tp_views.proofs.waits.wait_lines.push_node.Goals as goal

pub returns : goal.returns
returns c =
    let told = c.in_ok-push_last.ensures ∙ ap (λ known. string_bytes c.push_doing.new.text ++ last_part known.last) (c.known_since.ensures ∙ ap (λ all. known_since all c.args.number) c.deref.ensures.value) in
    let named = ap (λ links. string_bytes c.push_last.new.text ++ links_part (rows_seen c.args.rows.now) links) c.links_of.ensures in
    on_ok _ _ c.push_links.result (λ links. joined_four _ _ _ _ _ _ _ _ _ c.in_ok-push_name.ensures c.in_ok-push_doing.ensures told (links ∙ named)) c.push_links.ensures
