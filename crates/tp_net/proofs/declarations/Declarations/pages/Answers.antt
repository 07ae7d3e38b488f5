use Rattle.std.proofs.Common.{◌≡◌, ◌++◌, ◌∷◌, [], ℕ, List, length, sym, ap, ◌∙◌, map, arith}
use Rattle.tp_net.proofs.Lower.{Bor, YieldsList-from_copied, YieldsList-from_rest, YieldsList-turn, YieldsList-end, length-map, map-id, map-map, Said}
use Rattle.tp_net.proofs.declarations.Declarations.pages.Goals as goal
use Rattle.tp_net.proofs.declarations.Declarations.pages.Goals.{After-into_iter-count-iterator}

-- what the map's values are
values_are : (c : After-into_iter-count-iterator) → c.values.result ≡ map (λ node. node.1) c.args.self.now.nodes
values_are c =
    c.values.ensures.rest
    ∙ sym (map-map (λ (node : List ℕ × ℕ). node.1) (λ (e : Bor (List ℕ) × ℕ). (e.0.now, e.1)) c.self.inside.nodes.entries)
    ∙ ap (λ (said : Said). map (λ node. node.1) said.nodes) c.self.view_is

pub push-requires : goal.push-requires
push-requires c =
    let k = (goal.at.push-requires c).After-into_iter-count-iterator in
    let is = values_are k in
    let source = c.copied-count-items.ensures.source in
    let t = YieldsList-turn (YieldsList-from_copied (YieldsList-from_rest (map (λ node. node.1) c.args.self.now.nodes) cc)) c.loop-count.yielded _ c.loop-count.yielded_by _ _ c.in-Some.count c.in-Some.is c.next.ensures.steps in
    let kept = ap (λ (said : Said). length said.nodes) c.self.view_is in
    (omega arith, omega (arith, t.0, ap length c.loop-count.invariant, c.self.invariant.0, kept, length-map c.args.self.now.nodes (λ (node : List ℕ × ℕ). node.1), length-map {B = List ℕ × ℕ} c.self.inside.nodes.entries (λ e. (e.0.now, e.1))))

pub loop-count-preserved : goal.loop-count-preserved
loop-count-preserved c = c.push.ensures.items ∙ ap (λ xs. xs ++ c.in-Some.count ∷ []) c.loop-count.invariant

pub returns : goal.returns
returns c =
    let k = (goal.at.returns c).After-into_iter-count-iterator in
    let is = values_are k in
    let source = c.copied-count-items.ensures.source in
    let t = YieldsList-end (YieldsList-from_copied (YieldsList-from_rest (map (λ node. node.1) c.args.self.now.nodes) cc)) c.loop-count.yielded _ c.loop-count.yielded_by _ _ c.in-None.is c.next.ensures.steps in
    c.loop-count.invariant ∙ sym (map-id c.loop-count.yielded) ∙ t.0
