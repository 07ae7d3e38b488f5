use Rattle.std.proofs.Common.{◌≡◌, suc, [], ◌∷◌, ◌++◌, length, refl, sym, ap, subst, ◌∙◌, arith, Some, slice_get, length-append}
use Rattle.std.specs.Prelude.{IsSome, is_some}
use Rattle.tp_shared.proofs.Lower.{YieldsList-from_vec, YieldsList-turn}
use Rattle.tp_shared.specs.Agreement.{Agreement}
use Rattle.tp_shared.specs.Parted.{IsDealt}
use Rattle.tp_shared.proofs.Dealing.{get_at, dealt_none, dealt_more}
use Rattle.tp_shared.proofs.parts.deal.Goals as goal

pub loop-node-init : goal.loop-node-init
loop-node-init c =
    let none = c.new-dealt.ensures in
    dealt_none c.args.book.now c.new-seals.result.items c.new-dealt.result c.new-seals.ensures.items none.zeroth none.first none.second none.third

pub loop-node-preserved : goal.loop-node-preserved
loop-node-preserved c =
    let count = length c.loop-node.yielded in
    let gives = c.into_iter-node-iterator.ensures.into_iter_gives in
    let turn = YieldsList-turn (YieldsList-from_vec {s = c.into_iter-node-iterator.result} c.args.nodes.items gives.0 (gives.1 ∙ c.args.nodes.ok.0)) c.loop-node.yielded c.loop-node.node-iterator c.loop-node.yielded_by c.next.result c.next.new.self c.in-Some.node c.in-Some.is c.next.ensures.steps in
    let at : slice_get c.args.nodes.items count ≡ Some c.in-Some.node = get_at c.args.nodes.items count c.in-Some.node turn.0 turn.1 in
    let agrees = c.requires.agree count c.in-Some.node at in
    let grows : suc count ≡ length (c.loop-node.yielded ++ c.in-Some.node ∷ []) = (let l = length-append c.loop-node.yielded (c.in-Some.node ∷ []) in omega (arith, l)) in
    let seal = c.ends_of-seal.result.0 in
    let shows = c.ends_of-seal.ensures.seal in
    subst (IsDealt c.args.book.now c.push.new.self.items c.push-in-loop-node.new.self) grows
    (dealt_more c.args.book.now c.loop-node.seals.items c.push.new.self.items c.loop-node.dealt c.push-in-loop-node.new.self (record { frozen = c.is_frozen-frozen.result; seal = seal })
    (record { node = c.in-Some.node; key = c.ends_of-seal.result.1 }) count c.len-index.result c.loop-node.invariant c.in_ok-push.ensures.items
    (let l = c.len-index.ensures in let k = c.loop-node.seals.ok.0 in let m = c.loop-node.invariant.many in omega (arith, l, k, m))
    c.in_ok-push-2.ensures.zeroth c.in_ok-push-2.ensures.first c.in_ok-push-2.ensures.second c.in_ok-push-2.ensures.third
    (record {
      named = refl;
      node = agrees.there ∙ ap (λ (a : Agreement). Some a.node) (sym shows);
      recorded = λ some. agrees.recorded (subst IsSome (ap (λ (a : Agreement). a.frozen) shows) some);
      kept = λ here there h t. agrees.kept here there (ap (λ (a : Agreement). a.frozen) (sym shows) ∙ h) t;
      reserved = c.requires.free count turn.0 ∙ ap (λ (a : Agreement). Some a.reserved) (sym shows);
      received = λ takes given. let none = ap (λ (a : Agreement). a.takes) (sym shows) ∙ given in cc;
      flag = c.is_frozen-frozen.ensures ∙ ap (λ (a : Agreement). is_some a.frozen) (sym shows);
    })
    (record { there = omega arith; named = sym c.ends_of-seal.ensures.names; shows = record { shown = c.ends_of-seal.ensures.key; image = agrees.image } }))
