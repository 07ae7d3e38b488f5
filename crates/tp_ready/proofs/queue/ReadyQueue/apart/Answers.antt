use Rattle.std.proofs.Common.{◌≡◌, ◌≤◌, [], ◌∷◌, rules, ◌++◌, take, drop, length, sum_by, sym, ap, ◌∙◌, subst, take-append-drop, length-append, arith}
use Rattle.tp_ready.proofs.Lower.{sum_by-append, view}
use Rattle.tp_ready.proofs.Dealing.{forks, merges, distinct, twice, all_go, first_stays, first_one, rest_one, first_of, rest_of}
use Rattle.tp_ready.proofs.queue.ReadyQueue.apart.Goals as goal

pub another-theirs-requires-clause-rule : goal.another-theirs-requires-clause-rule
another-theirs-requires-clause-rule c =
    forks _ _ _ _ _ _ c.two.invariant.0 (λ h. omega arith) (all_go _) (omega arith) (omega (arith, c.two.invariant.3, ap length c.two.invariant.1))

pub absorb-requires-clause-rule : goal.absorb-requires-clause-rule
absorb-requires-clause-rule c = merges _ _ _ _ c.one.invariant.0

pub learn_as-requires-clause-rule : goal.learn_as-requires-clause-rule
learn_as-requires-clause-rule c = distinct _ _

pub another-back-requires-clause-rule : goal.another-back-requires-clause-rule
another-back-requires-clause-rule c =
    let v = view c.learn_as.new.pass in
    let both = c.learn_as.ensures.queue.1 ∙ c.absorb.ensures.rule in
    let theirs = c.another-theirs.ensures.rule.1 in
    let claims : length v.claims ≡ 2 =
    omega (arith, ap (λ u. length u.claims) both, length-append (view c.one.inside.port).claims (view c.another-theirs.result).claims, c.one.invariant.3, ap (λ u. length u.claims) theirs, c.two.invariant.3) in
    let held : v.held ≡ c.one.inside.number ∷ c.two.inside.number ∷ [] =
    let one = c.one.invariant.1 in
    let two = ap (λ u. u.held) theirs ∙ c.two.invariant.1 in
    ap (λ u. u.held) both ∙ (λ i. one i ++ two i) in
    forks _ _ _ _ _ _ (search rules) (λ h. sym (sum_by-append h (take 1 v.held) (drop 1 v.held)) ∙ ap (sum_by h) (take-append-drop 1 v.held)) (first_stays _)
    (omega (arith, first_one v.claims (omega (arith, claims)), subst (λ ys. length (take 1 ys) ≤ 1) (sym held) (omega arith)))
    (omega (arith, rest_one v.claims claims, subst (λ ys. length (drop 1 ys) ≤ 1) (sym held) (omega arith)))

pub returns-clause-apart : goal.returns-clause-apart
returns-clause-apart c same =
    let one = c.one.invariant.1 in
    let two = ap (λ v. v.held) c.another-theirs.ensures.rule.1 ∙ c.two.invariant.1 in
    let both = ap (λ v. v.held) c.absorb.ensures.rule ∙ (λ i. one i ++ two i) in
    twice c.one.inside.number c.two.inside.number _ both c.learn_as.ensures.rule.1 (ap (λ t. t.number) c.one.view_is ∙ same ∙ sym (ap (λ t. t.number) c.two.view_is))

pub absorb-requires-2-clause-rule : goal.absorb-requires-2-clause-rule
absorb-requires-2-clause-rule c = merges _ _ _ _ (ap (λ v. v.knows) c.another-theirs.ensures.rule.0)

pub invariant_of-two : goal.invariant_of-two
invariant_of-two c =
    let both = c.learn_as.ensures.queue.1 ∙ c.absorb.ensures.rule in
    let lent = c.another-theirs.ensures.rule.0 in
    let theirs = c.another-theirs.ensures.rule.1 in
    let back = c.another-back.ensures.rule.1 in
    let rule = c.absorb-2.ensures.rule in
    let one = (view c.one.inside.port).claims in
    let two = (view c.two.inside.port).claims in
    let claims = ap (λ v. v.claims) both ∙ ap (λ cs. one ++ cs) (ap (λ v. v.claims) theirs) in
    let held = ap (λ v. v.held) both ∙ (λ i. c.one.invariant.1 i ++ (ap (λ v. v.held) theirs ∙ c.two.invariant.1) i) in
    let got = ap (λ v. v.held) back ∙ ap (drop 1) held in
    let are = ap (λ v. v.claims) back ∙ ap (drop 1) claims ∙ rest_of one two c.one.invariant.3 in (
      ap (λ v. v.knows) rule,
      ap (λ v. v.held) rule ∙ (λ i. ap (λ v. v.held) lent i ++ got i),
      search rules,
      ap (λ v. length v.claims) rule ∙ ap length (λ i. ap (λ v. v.claims) lent i ++ are i) ∙ c.two.invariant.3,
    )

pub returns-clause-same : goal.returns-clause-same
returns-clause-same c =
    let both = c.learn_as.ensures.queue.1 ∙ c.absorb.ensures.rule in
    let lent = c.another-theirs.ensures.rule.0 in
    let theirs = c.another-theirs.ensures.rule.1 in
    let kept = c.another-back.ensures.rule.0 in
    let back = c.another-back.ensures.rule.1 in
    let rule = c.absorb-2.ensures.rule in
    let one = (view c.one.inside.port).claims in
    let two = (view c.two.inside.port).claims in
    let claims = ap (λ v. v.claims) both ∙ ap (λ cs. one ++ cs) (ap (λ v. v.claims) theirs) in
    let named : c.another-back.new.pass.table_id ≡ c.one.inside.port.table_id = search rules in
    let count = ap (λ v. v.count) kept ∙ ap (λ v. v.count) both in
    let hands = ap (λ v. v.hands) kept ∙ ap (λ v. v.hands) both in
    let mine = ap (λ v. v.claims) kept ∙ ap (take 1) claims ∙ first_of one two c.one.invariant.3 in
    let seen = ap (λ v. v.seen) kept ∙ ap (λ v. v.seen) both in
    let named' : c.absorb-2.new.pass.table_id ≡ c.two.inside.port.table_id = search rules in
    let count' = ap (λ v. v.count) rule ∙ ap (λ v. v.count) lent in
    let hands' = ap (λ v. v.hands) rule ∙ ap (λ v. v.hands) lent in
    let are = ap (λ v. v.claims) back ∙ ap (drop 1) claims ∙ rest_of one two c.one.invariant.3 in
    let mine' = ap (λ v. v.claims) rule ∙ (λ i. ap (λ v. v.claims) lent i ++ are i) in
    let seen' = ap (λ v. v.seen) rule ∙ ap (λ v. v.seen) lent in (
      (λ i. record { of = record { queue = named i; count = count i; hands = hands i }; number = c.one.inside.number; past = record { claims = mine i; seen = seen i } }) ∙ c.one.view_is,
      (λ i. record { of = record { queue = named' i; count = count' i; hands = hands' i }; number = c.two.inside.number; past = record { claims = mine' i; seen = seen' i } }) ∙ c.two.view_is,
    )
