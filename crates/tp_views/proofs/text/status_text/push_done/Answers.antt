use Rattle.std.proofs.Common.{◌≡◌, ◌∙◌, ◌++◌, ap, length, string_bytes}
use Rattle.tp_views.proofs.Lower.{Head, Topology}
use Rattle.tp_views.specs.Done.{steps_made}
use Rattle.tp_views.specs.Json.{json_items}
use Rattle.tp_views.specs.Status.{node_items, steps_json}
use Rattle.tp_views.proofs.Joined.{joined_three, on_ok}
use Rattle.tp_views.proofs.text.status_text.push_done.Goals as goal

pub returns : goal.returns
returns c =
    let wired = c.wires-wires.ensures.value ∙ ap (λ (t : Topology). t.wires) c.topology.ensures.value ∙ ap (λ (h : Head). h.topology.wires) c.head.ensures in
    let there = c.nodes-nodes.ensures ∙ ap (λ now. now.nodes) c.network-now.ensures in
    let counted = c.node_count-count.ensures ∙ ap (λ now. length now.nodes) c.network-now.ensures in
    let first : string_bytes c.push_steps.new.text ≡ string_bytes c.args.text.now ++ steps_json (steps_made c.args.opened.now) =
    c.in_ok-push_steps.ensures ∙ (λ i. string_bytes c.args.text.now ++ steps_json (c.steps_made.ensures i)) in
    let second = c.in_ok-push_node_items.ensures
    ∙ (λ i. string_bytes c.push_steps.new.text ++ json_items 0 (node_items 0 (wired i) (counted i) (c.kept.ensures i) (there i))) in
    on_ok _ _ c.push.result (λ last. joined_three _ _ _ _ _ _ _ first second last) c.push.ensures
