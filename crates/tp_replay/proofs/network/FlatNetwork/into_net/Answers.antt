use Rattle.std.proofs.Common.{map, sym, ap, ◌∙◌}
use Rattle.tp_replay.proofs.Lower.{NodeState, image, Network}
use Rattle.tp_replay.proofs.Pages.{images_live}
use Rattle.tp_replay.proofs.ImagesAgain.{images_spelt, images_again}
use Rattle.tp_replay.proofs.network.FlatNetwork.into_net.Goals as goal

pub returns-clause-parts : goal.returns-clause-parts
returns-clause-parts c =
    let is = c.into_fields-wires.ensures.is in
    record {
      wires = ap (λ (s : Network NodeState). s.wires) is;
      images = c.in_ok-images_taken.ensures ∙ images_live c.into_fields-wires.result.1.items ∙ ap (λ (s : Network NodeState). map image s.nodes) is;
      lines = c.in_ok-all_tokens.ensures ∙ ap (λ (s : Network NodeState). s.lines) is;
      ports = c.in_ok-all_parts.ensures ∙ ap (map (λ port. port.port)) c.deref.ensures.value ∙ ap (λ (s : Network NodeState). s.ports) is;
    }

pub returns-clause-spelt : goal.returns-clause-spelt
returns-clause-spelt c =
    let is = c.into_fields-wires.ensures.is in
    images_spelt _ c.args.self c.into_fields-wires.ensures.flat (c.in_ok-images_taken.ensures ∙ images_live c.into_fields-wires.result.1.items ∙ ap (λ (s : Network NodeState). map image s.nodes) is)

pub returns-clause-again : goal.returns-clause-again
returns-clause-again c =
    let is = c.into_fields-wires.ensures.is in
    let taken = c.in_ok-images_taken.ensures ∙ images_live c.into_fields-wires.result.1.items ∙ ap (λ (s : Network NodeState). map image s.nodes) is in
    let nodes = images_again _ c.args.self c.into_fields-wires.ensures.flat taken ∙ sym (ap (λ (s : Network NodeState). s.nodes) is) in
    let ports = c.in_ok-all_parts.ensures ∙ ap (map (λ port. port.port)) c.deref.ensures.value in
    let lines = c.in_ok-all_tokens.ensures in
    (λ i. record { wires = c.into_fields-wires.result.0.items; nodes = nodes i; ports = ports i; lines = lines i }) ∙ is
