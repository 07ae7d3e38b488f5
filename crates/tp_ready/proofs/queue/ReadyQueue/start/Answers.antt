use Rattle.std.proofs.Common.{◌≡◌, ◌<◌, ◌∙◌, ◌-◌, ◌+◌, Some, All, rules, take, drop, sym, ap, subst, length, arith}
use Rattle.tp_ready.proofs.Lower.{All-push, view, ruled_capacity}
use Rattle.tp_ready.specs.Holding.{past_at}
use Rattle.tp_ready.specs.Numbers.{HandValue}
use Rattle.tp_ready.specs.Past.{IsNew}
use Rattle.tp_ready.proofs.Dealing.{forks, first_goes, nothing_dealt, one_given, one_less}
use Rattle.tp_ready.proofs.queue.ReadyQueue.start.Goals as goal

pub ruled-requires-clause-rule : goal.ruled-requires-clause-rule
ruled-requires-clause-rule g c = nothing_dealt

pub another-theirs-requires-clause-rule : goal.another-theirs-requires-clause-rule
another-theirs-requires-clause-rule g c = forks _ _ _ _ _ _ c.loop.invariant.knows (λ h. omega arith) (first_goes _) (omega arith) (omega (arith, ap length c.loop.invariant.held))

pub invariant_of-push : goal.invariant_of-push
invariant_of-push g c =
    let rule = c.another-theirs.ensures.rule.1 in
    let more : c.loop.counter < c.args.hands = omega (arith, c.loop-test.true) in
    let claims = ap (λ v. v.claims) rule ∙ ap (take 1) c.loop.invariant.claims ∙ one_given c.args.hands c.loop.counter more in (
      ap (λ v. v.knows) rule,
      ap (λ v. v.held) rule ∙ c.loop.invariant.held,
      search rules,
      ap length claims,
    )

pub loop-preserved : goal.loop-preserved
loop-preserved g c =
    let left = c.another-theirs.ensures.rule.0 in
    let right = c.another-theirs.ensures.rule.1 in
    let before = c.loop.invariant in
    let more : c.loop.counter < c.args.hands = omega (arith, c.loop-test.true) in
    let named : c.another-theirs.result.table_id ≡ c.in_ok-line.line.table.shared.table_id = search rules in
    let count = ap (λ v. v.count) right ∙ before.count in
    let hands = ap (λ v. v.hands) right ∙ before.counted in
    let claims = ap (λ v. v.claims) right ∙ ap (take 1) before.claims ∙ one_given c.args.hands c.loop.counter more in
    let pushed : HandValue =
    record {
      of = Some (record { queue = c.another-theirs.result.table_id; count = (view c.another-theirs.result).count; hands = (view c.another-theirs.result).hands });
      past = past_at c.another-theirs.result;
    } in
    record {
      line = search rules;
      knows = ap (λ v. v.knows) left;
      held = ap (λ v. v.held) left;
      seen = ap (λ v. v.seen) left ∙ before.seen;
      count = ap (λ v. v.count) left ∙ before.count;
      counted = ap (λ v. v.hands) left ∙ before.counted;
      claims = ap (λ v. v.claims) left ∙ ap (drop 1) before.claims ∙ one_less c.args.hands c.loop.counter more;
      given = search rules;
      free = subst (λ items. All (λ hand. hand.of ≡ Some (record { queue = c.in_ok-line.line.table.shared.table_id; count = ruled_capacity c.in_ok-line.line; hands = c.args.hands })) items)
          (sym c.in_ok-push.ensures.items) (All-push (λ hand. hand.of ≡ Some (record { queue = c.in_ok-line.line.table.shared.table_id; count = ruled_capacity c.in_ok-line.line; hands = c.args.hands })) c.loop.all.items pushed before.free (λ i. Some (record { queue = named i; count = count i; hands = hands i })));
      new = subst (λ items. All (λ hand. IsNew hand.past) items) (sym c.in_ok-push.ensures.items)
          (All-push (λ hand. IsNew hand.past) c.loop.all.items pushed before.new (record { who = c.args.hands - (c.loop.counter + 1); claims = claims; seen = ap (λ v. v.seen) right ∙ before.seen }));
    }
