use Rattle.std.proofs.Common.{map, ap, ◌∙◌}
use Rattle.tp_replay.specs.Inside.{replay_state}
use Rattle.tp_replay.proofs.Pages.{images_live}
use Rattle.tp_replay.proofs.ImagesAgain.{images_spelt, images_again}
use Rattle.tp_replay.proofs.network.FlatNetwork.parts.Goals as goal

pub returns-clause-parts : goal.returns-clause-parts
returns-clause-parts c =
    let n = c.self.inside in
    rw (← c.self.view_is) (record {
      wires = c.in_ok-from_slice.ensures.items ∙ c.deref.ensures.value;
      images = c.in_ok-images_of.ensures.images ∙ images_live n.nodes.items;
      lines = c.in_ok-all_tokens.ensures;
      ports = c.in_ok-all_parts.ensures ∙ ap (map (λ port. port.port)) c.deref-2.ensures.value;
    })

pub returns-clause-spelt : goal.returns-clause-spelt
returns-clause-spelt c =
    let n = c.self.inside in
    rw (← c.self.view_is) (images_spelt _ (replay_state n) c.self.invariant.flat (c.in_ok-images_of.ensures.images ∙ images_live n.nodes.items))

pub returns-clause-again : goal.returns-clause-again
returns-clause-again c =
    let n = c.self.inside in
    let wires = c.in_ok-from_slice.ensures.items ∙ c.deref.ensures.value in
    let nodes = images_again _ (replay_state n) c.self.invariant.flat (c.in_ok-images_of.ensures.images ∙ images_live n.nodes.items) in
    let ports = c.in_ok-all_parts.ensures ∙ ap (map (λ port. port.port)) c.deref-2.ensures.value in
    let lines = c.in_ok-all_tokens.ensures in
    rw (← c.self.view_is) (λ i. record { wires = wires i; nodes = nodes i; ports = ports i; lines = lines i })
