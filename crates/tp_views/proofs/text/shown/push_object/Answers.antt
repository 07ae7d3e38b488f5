use Rattle.std.proofs.Common.{◌++◌, ap, codes, string_bytes, ◌∙◌, false, true}
use Rattle.tp_views.specs.Fields.{fields_text}
use Rattle.tp_views.specs.Shown.{nodes_text, open_fields, ports_text}
use Rattle.tp_views.proofs.Joined.{joined_five, on_ok}
use Rattle.tp_views.proofs.text.shown.push_object.Goals as goal

pub returns : goal.returns
returns c =
    let now = c.args.now.now in
    on_ok _ _ c.push_open.result
    (λ last. joined_five (string_bytes c.args.text.now) (codes "{\"nodes\":[") (nodes_text true 0 now.nodes) (codes "],\"ports\":[") (ports_text true 0 now.ports) (fields_text true (open_fields c.args.front))
    (string_bytes c.push.new.text) (string_bytes c.push_nodes.new.text) (string_bytes c.push-2.new.text) (string_bytes c.push_ports.new.text) (string_bytes c.push_open.new.text)
    c.in_ok-push.ensures
    (c.in_ok-push_nodes.ensures ∙ ap (λ nodes. string_bytes c.push.new.text ++ nodes_text true 0 nodes) c.nodes.ensures)
    c.in_ok-push-2.ensures
    (c.in_ok-push_ports.ensures ∙ ap (λ ports. string_bytes c.push-2.new.text ++ ports_text true 0 ports) c.ports.ensures)
    last)
    c.push_open.ensures
