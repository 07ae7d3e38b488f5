use Rattle.std.proofs.Common.{◌≡◌, true, ap, ◌∙◌, map, rules}
use Rattle.tp_tests_opening.specs.Nets.{spelt}
use Rattle.tp_tests_opening.proofs.Netting.{opens}
use Rattle.tp_tests_opening.proofs.network.Net.of_state.Goals as goal

pub invariant_of-result : goal.invariant_of-result
invariant_of-result c =
    let holds : c.holds_turns.result ≡ true = search rules in
    opens c.args.state.now _ c.in_ok-book.book c.in_ok-nodes.nodes.items c.requires.opened c.in_ok-book.ensures (c.holds_turns.ensures holds) c.requires.nodes
    (c.in_ok-nodes.ensures ∙ ap (λ images. spelt (map (λ image. image.items) images)) c.deref.ensures.value)
