-- Each step of a pass keeps the rule of the queue.
use Rattle.std.proofs.Common.{◌≡◌, ◌≢◌, ℕ, zero, suc, ◌+◌, ◌-◌, ◌<◌, ◌≤◌, true, false, true≢false, List, [], ◌∷◌, ◌++◌, length, set, sum_by, sym, refl, ap, ◌∙◌, subst, ⊎_elim, lt_of_not-le, length-append, Bool, arith, take, drop, take-append-drop}
use Rattle.tp_ready.proofs.Lower.{sum_by-cons, sum_by-append, sum_by_push, some, some-injective, some-ne-none, Pushes, Pops, Forks, Merges, Learns, at_set, at_snoc}
use lib.ListN.{get_elem?}
use Rattle.tp_ready.specs.declared.call.Call.{Call}
use Rattle.tp_ready.specs.declared.call.Claim.{Claim}
use Rattle.tp_ready.specs.declared.call.Step.{Step}
use Rattle.tp_ready.specs.declared.call.Step.TheVariants.{Took, Put}
use Rattle.tp_ready.specs.declared.view.View.{View}
use Rattle.tp_ready.specs.Past.{HasCalled, IsLegal, IsDue, calls_by, first_claims}
use Rattle.tp_ready.specs.View.{maker, holder, nobody, past_of, claimed, HoldsAtMost, AloneKnows, AreMine, HasSeenCalls, Dealt, Logged, one_at, AreDistinct, AreFew}
use Rattle.tp_ready.proofs.Calling.{Shares, called, by_own, by_other, claim_below, mine_split, nobody_saw, logged_call, logged_fork, logged_merge, logged_making, none_called, saw_append}
use Rattle.tp_ready.proofs.Weights.{sum_by-set, sum_by-le, sum_by-ones, sum_below-ones, one_at-same, sum_below-one_at-outside, sum_below-one_at}

-- what a pass holds, weighed
abbrev weight : (ℕ → ℕ) → View → ℕ
weight h v = sum_by h v.held

abbrev AllFit : ℕ → ℕ → List View → Type 0
AllFit count hands views = (pass : ℕ) (v : View) → get_elem? views pass ≡ some v → HoldsAtMost count hands v

AllFit-set : (count hands : ℕ) (views : List View) (pass : ℕ) (w : View) → HoldsAtMost count hands w → ((j : ℕ) (u : View) → j ≢ pass → get_elem? views j ≡ some u → HoldsAtMost count hands u)
    → AllFit count hands (set views pass w)
AllFit-set count hands views pass w mine others j u e =
    ⊎_elim (λ (t : (j ≡ pass) × (w ≡ u)). subst (λ (y : View). HoldsAtMost count hands y) t.1 mine) (λ (t : (j ≢ pass) × (get_elem? views j ≡ some u)). others j u t.0 t.1) (at_set views pass j w u e)

AllFit-append : (count hands : ℕ) (views : List View) (w : View) → AllFit count hands views → HoldsAtMost count hands w → AllFit count hands (views ++ w ∷ [])
AllFit-append count hands views w all new j u e = ⊎_elim (λ (t : get_elem? views j ≡ some u). all j u t) (λ (t : w ≡ u). subst (λ (y : View). HoldsAtMost count hands y) t new) (at_snoc views w u j e)

-- a pass that makes numbers or hands is alone
abbrev Makers : List View → Type 0
Makers views = (pass : ℕ) (v : View) → get_elem? views pass ≡ some v → v.makes ≡ true → AloneKnows views pass

-- none makes any
abbrev NoMaker : List View → Type 0
NoMaker views = (pass : ℕ) (v : View) → get_elem? views pass ≡ some v → v.makes ≡ false

no_makers : (views : List View) → NoMaker views → Makers views
no_makers views none pass v at makes = absurd (true≢false (sym makes ∙ none pass v at))

is_false : (b : Bool) → (b ≡ true → ⊥) → b ≡ false
is_false true never = absurd (never refl)
is_false false never = refl

-- if a pass knows the counts, no other makes any
others_make_none : (items : List ℕ) (views : List View) (pass : ℕ) (v : View) → Dealt items views → get_elem? views pass ≡ some v → v.knows ≡ true → (j : ℕ) (u : View) → j ≢ pass
    → get_elem? views j ≡ some u → u.makes ≡ false
others_make_none items views pass v dealt at knows j u other e =
    is_false u.makes (λ makes. true≢false (sym knows ∙ dealt.5 j u e makes pass v at (λ same. other (sym same))))

NoMaker-set : (views : List View) (pass : ℕ) (w : View) → w.makes ≡ false → ((j : ℕ) (u : View) → j ≢ pass → get_elem? views j ≡ some u → u.makes ≡ false) → NoMaker (set views pass w)
NoMaker-set views pass w mine others j u e =
    ⊎_elim (λ (t : (j ≡ pass) × (w ≡ u)). subst (λ (y : View). y.makes ≡ false) t.1 mine) (λ (t : (j ≢ pass) × (get_elem? views j ≡ some u)). others j u t.0 t.1) (at_set views pass j w u e)

NoMaker-append : (views : List View) (w : View) → NoMaker views → w.makes ≡ false → NoMaker (views ++ w ∷ [])
NoMaker-append views w all new j u e = ⊎_elim (λ (t : get_elem? views j ≡ some u). all j u t) (λ (t : w ≡ u). subst (λ (y : View). y.makes ≡ false) t new) (at_snoc views w u j e)

-- a holder fits, if it holds at most as many numbers as it is hands
holder_fits : (count hands : ℕ) (claims : List Claim) (held : List ℕ) (seen : List Call) (known counted : ℕ) → known ≡ count → counted ≡ hands → length held ≤ length claims
    → HoldsAtMost count hands (holder known counted claims held seen)
holder_fits count hands claims held seen known counted is are few = ((λ _. (is, are)), few)

nobody_fits : (count hands : ℕ) → HoldsAtMost count hands nobody
nobody_fits count hands = ((λ (t : false ≡ true). absurd (true≢false (sym t))), omega arith)

-- the one hand
abbrev IsOne : List Claim → Type 0
IsOne claims = (claim : Claim) × (claims ≡ claim ∷ [])

the_one : (claims : List Claim) → length claims ≡ 1 → IsOne claims
the_one [] one = absurd (omega (arith, one))
the_one (claim ∷ []) one = (claim, refl)
the_one (claim ∷ other ∷ claims) one = absurd (omega (arith, one))

-- the claim of a hand that made one more call
abbrev next_claim : Claim → Step → Claim
next_claim claim step = record { who = claim.who; calls = called claim.who step ∷ claim.calls }

-- its number stays
claimed_stays : (h : ℕ → ℕ) (v w : View) (claim next : Claim) → v.claims ≡ claim ∷ [] → w.claims ≡ next ∷ [] → next.who ≡ claim.who → claimed h w ≡ claimed h v
claimed_stays h v w claim next was is same =
    let f = λ (other : Claim). h other.who in
    omega (arith, ap (sum_by f) was, ap (sum_by f) is, sum_by-cons f claim [], sum_by-cons f next [], ap h same)

-- what a hand did that made one more call
did : (count hands : ℕ) (items : List ℕ) (views : List View) (pass : ℕ) (v w : View) (claim : Claim) (step : Step) (logged : Logged count hands items views) → Shares hands views
    → get_elem? views pass ≡ some v → (v.count ≡ count) × (v.hands ≡ hands) → v.claims ≡ claim ∷ [] → IsDue step items → w.claims ≡ next_claim claim step ∷ [] → w.seen ≡ called claim.who step ∷ logged.log
    → HasCalled v.count v.hands step (past_of v) (past_of w)
did count hands items views pass v w claim step logged shares at counts one due is seen =
    let saw = logged.saw pass v at in
    let call = called claim.who step in
    let own = (subst (λ claims. AreMine logged.log claims) one saw.mine).0 in
    let below = claim_below hands views pass v claim shares at one in
    let legal : IsLegal count (call ∷ logged.log) = (subst (IsDue step) (sym logged.waits) due, logged.legal) in
    record {
      who = claim.who;
      calls = claim.calls;
      newer = saw.newer;
      was = one;
      is = is;
      seen = seen ∙ ap (λ cs. call ∷ cs) saw.seen;
      below = omega (arith, below, counts.1);
      own = ap (calls_by claim.who) seen ∙ by_own claim.who step logged.log ∙ ap (λ cs. call ∷ cs) own;
      known = λ by far. ap (calls_by by) seen ∙ by_other by claim.who step logged.log (λ same. absurd (omega (arith, same, below, far, counts.1))) ∙ logged.known by (omega (arith, far, counts.1));
      legal = subst (λ log. IsLegal v.count log) (sym seen) (subst (λ n. IsLegal n (call ∷ logged.log)) (sym counts.0) legal);
    }

-- no hand that was just made called anything
first_mine : (hands : ℕ) → AreMine [] (first_claims hands)
first_mine zero = tt
first_mine (suc n) = (refl, first_mine n)

-- and nobody beside them
with_nobody : (count hands : ℕ) (items : List ℕ) (views : List View) → Logged count hands items views → Logged count hands items (views ++ nobody ∷ [])
with_nobody count hands items views logged =
    record { log = logged.log; waits = logged.waits; legal = logged.legal; saw = saw_append logged.log views nobody logged.saw (nobody_saw logged.log); known = logged.known }

-- the rule after the view of a pass that knows the counts has changed, if the queue loses what it gains
changed : (items items' : List ℕ) (views : List View) (pass : ℕ) (v w : View) (dealt : Dealt items views) → get_elem? views pass ≡ some v → v.knows ≡ true
    → ((h : ℕ → ℕ) → sum_by h items' + weight h w ≡ sum_by h items + weight h v) → ((h : ℕ → ℕ) → claimed h w ≡ claimed h v) → w.makes ≡ false → HoldsAtMost dealt.0 dealt.1 w
    → Logged dealt.0 dealt.1 items' (set views pass w) → Dealt items' (set views pass w)
changed items items' views pass v w dealt at knows same hands makes fits logged = (
  dealt.0,
  dealt.1,
  (λ h. omega (arith, sum_by-set (weight h) views pass v w at, dealt.2 h, same h)),
  (λ h. omega (arith, sum_by-set (claimed h) views pass v w at, dealt.3 h, hands h)),
  AllFit-set dealt.0 dealt.1 views pass w fits (λ j u _ e. dealt.4 j u e),
  no_makers (set views pass w) (NoMaker-set views pass w makes (others_make_none items views pass v dealt at knows)),
  logged,
)

-- a pass that knows the counts has them
count_is : (items : List ℕ) (views : List View) (pass : ℕ) (v : View) (dealt : Dealt items views) → get_elem? views pass ≡ some v → v.knows ≡ true → (v.count ≡ dealt.0) × (v.hands ≡ dealt.1)
count_is items views pass v dealt at knows = (dealt.4 pass v at).0 knows

-- what one pass holds is at most what all hold
weight_le : (h : ℕ → ℕ) (views : List View) (pass : ℕ) (v : View) → get_elem? views pass ≡ some v → weight h v ≤ sum_by (weight h) views
weight_le h views pass v at = omega (arith, sum_by-set (weight h) views pass v nobody at)

-- a number in the queue is below the count
in_queue : (x : ℕ) (items : List ℕ) (views : List View) (dealt : Dealt (x ∷ items) views) → x < dealt.0
in_queue x items views dealt =
    lt_of_not-le (λ (le : dealt.0 ≤ x). absurd (omega (arith, dealt.2 (one_at x), sum_by-cons (one_at x) x items, one_at-same x, sum_below-one_at-outside x dealt.0 le)))

pub takes : (pass : ℕ) (v : View) → v.knows ≡ true → v.held ≡ [] → length v.claims ≡ 1
    → Pops Dealt pass v (λ x w. (w ≡ holder v.count v.hands w.claims (v.held ++ x ∷ []) w.seen) × (length w.claims ≡ 1) × (x < v.count) × HasCalled v.count v.hands (Took x) (past_of v) (past_of w))
takes pass v knows none one x items views dealt at =
    let mine = the_one v.claims one in
    let claims = next_claim mine.0 (Took x) ∷ [] in
    let seen = called mine.0.who (Took x) ∷ dealt.6.log in
    let w = holder v.count v.hands claims (v.held ++ x ∷ []) seen in
    let is = count_is (x ∷ items) views pass v dealt at knows in
    let others = others_make_none (x ∷ items) views pass v dealt at knows in
    let few : length (v.held ++ x ∷ []) ≤ length claims = subst (λ (ys : List ℕ). length (ys ++ x ∷ []) ≤ length claims) (sym none) (omega arith) in (
      w,
      changed (x ∷ items) items views pass v w dealt at knows (λ h. omega (arith, sum_by-cons h x items, sum_by_push h v.held x))
          (λ h. claimed_stays h v w mine.0 (next_claim mine.0 (Took x)) mine.1 refl refl) refl (holder_fits dealt.0 dealt.1 claims w.held seen v.count v.hands is.0 is.1 few)
          (logged_call dealt.0 dealt.1 (x ∷ items) views pass v w mine.0 (Took x) dealt.6 dealt.3 at mine.1 refl refl refl refl others),
      (
        refl,
        refl,
        (let below = in_queue x items views dealt in omega (arith, is.0)),
        did dealt.0 dealt.1 (x ∷ items) views pass v w mine.0 (Took x) dealt.6 dealt.3 at is mine.1 refl refl refl,
      ),
    )

pub puts_back : (n pass : ℕ) (v : View) (x : ℕ) → v.knows ≡ true → v.held ≡ x ∷ [] → length v.claims ≡ 1
    → Pushes Dealt n pass v x (λ w. (w ≡ holder v.count v.hands w.claims [] w.seen) × (length w.claims ≡ 1) × HasCalled v.count v.hands (Put x) (past_of v) (past_of w))
puts_back n pass v x knows held one items views room dealt at =
    let mine = the_one v.claims one in
    let claims = next_claim mine.0 (Put x) ∷ [] in
    let seen = called mine.0.who (Put x) ∷ dealt.6.log in
    let w = holder v.count v.hands claims [] seen in
    let is = count_is items views pass v dealt at knows in
    let others = others_make_none items views pass v dealt at knows in (
      w,
      changed items (items ++ x ∷ []) views pass v w dealt at knows (λ h. omega (arith, sum_by_push h items x, ap (sum_by h) held))
          (λ h. claimed_stays h v w mine.0 (next_claim mine.0 (Put x)) mine.1 refl refl) refl (holder_fits dealt.0 dealt.1 claims [] seen v.count v.hands is.0 is.1 (omega arith))
          (logged_call dealt.0 dealt.1 items views pass v w mine.0 (Put x) dealt.6 dealt.3 at mine.1 tt refl refl refl others),
      (refl, refl, did dealt.0 dealt.1 items views pass v w mine.0 (Put x) dealt.6 dealt.3 at is mine.1 tt refl refl),
    )

-- a view that makes no more numbers or hands, and is known to nobody else
alone_set : (items : List ℕ) (views : List View) (pass : ℕ) (v w : View) → Dealt items views → get_elem? views pass ≡ some v → v.knows ≡ true → v.makes ≡ true → Makers (set views pass w)
alone_set items views pass v w dealt at knows makes j u e makes_u k y ek other =
    let alone = dealt.5 pass v at makes in
    let is : j ≡ pass =
    ⊎_elim (λ (t : (j ≡ pass) × (w ≡ u)). t.0) (λ (t : (j ≢ pass) × (get_elem? views j ≡ some u)). absurd (true≢false (sym makes_u ∙ others_make_none items views pass v dealt at knows j u t.0 t.1)))
    (at_set views pass j w u e) in
    ⊎_elim (λ (t : (k ≡ pass) × (w ≡ y)). absurd (other (t.0 ∙ sym is))) (λ (t : (k ≢ pass) × (get_elem? views k ≡ some y)). alone k y t.1 t.0) (at_set views pass k w y ek)

pub makes : (n pass x hands : ℕ) → Pushes Dealt n pass (maker x hands) x (λ w. w ≡ maker (x + 1) hands)
makes n pass x hands items views room dealt at =
    let v = maker x hands in
    let w = maker (x + 1) hands in
    let is : (x ≡ dealt.0) × (hands ≡ dealt.1) = count_is items views pass v dealt at refl in
    let alone = dealt.5 pass v at refl in (
      w,
      (
        suc dealt.0,
        dealt.1,
        (λ h. omega (arith, sum_by-set (weight h) views pass v w at, dealt.2 h, sum_by_push h items x, ap h is.0)),
        (λ h. omega (arith, sum_by-set (claimed h) views pass v w at, dealt.3 h)),
        AllFit-set (suc dealt.0) dealt.1 views pass w ((λ _. (omega (arith, is.0), is.1)), omega arith)
            (λ j u other e. ((λ knows. absurd (true≢false (sym knows ∙ alone j u e other))), (dealt.4 j u e).1)),
        alone_set items views pass v w dealt at refl refl,
        logged_making dealt.0 (suc dealt.0) dealt.1 dealt.1 items (items ++ x ∷ []) views pass v w dealt.6 at refl
            (ap (λ made. made ++ dealt.0 ∷ []) (none_called dealt.0 dealt.1 items views pass v dealt.6 at refl) ∙ ap (λ n. items ++ n ∷ []) (sym is.0)) (first_mine hands) refl,
      ),
      refl,
    )

-- a hand is made
grown : (hands : ℕ) → first_claims (hands + 1) ≡ record { who = hands; calls = [] } ∷ first_claims hands
grown hands = let e : hands + 1 ≡ suc hands = omega arith in ap first_claims e

pub grows : (pass count hands : ℕ) → Forks Dealt pass (maker count hands) (maker count (hands + 1)) nobody
grows pass count hands items views dealt at =
    let v = maker count hands in
    let l = maker count (hands + 1) in
    let is : (count ≡ dealt.0) × (hands ≡ dealt.1) = count_is items views pass v dealt at refl in
    let alone = dealt.5 pass v at refl in
    let all = alone_set items views pass v l dealt at refl refl in
    let made = logged_making dealt.0 dealt.0 dealt.1 (suc dealt.1) items items views pass v l dealt.6 at refl (none_called dealt.0 dealt.1 items views pass v dealt.6 at refl) (first_mine (hands + 1)) refl in
    let more : (h : ℕ → ℕ) → claimed h l ≡ h hands + claimed h v =
    λ h. let f = λ (other : Claim). h other.who in omega (arith, ap (sum_by f) (grown hands), sum_by-cons f (record { who = hands; calls = [] }) (first_claims hands)) in (
      dealt.0,
      suc dealt.1,
      (λ h. omega (arith, sum_by_push (weight h) (set views pass l) nobody, sum_by-set (weight h) views pass v l at, dealt.2 h)),
      (λ h. omega (arith, sum_by_push (claimed h) (set views pass l) nobody, sum_by-set (claimed h) views pass v l at, dealt.3 h, more h, ap h is.1)),
      AllFit-append dealt.0 (suc dealt.1) (set views pass l) nobody
          (AllFit-set dealt.0 (suc dealt.1) views pass l ((λ _. (is.0, omega (arith, is.1))), omega arith)
          (λ j u other e. ((λ knows. absurd (true≢false (sym knows ∙ alone j u e other))), (dealt.4 j u e).1)))
          (nobody_fits dealt.0 (suc dealt.1)),
      (λ j u e makes_u k y ek other.
          ⊎_elim (λ (tk : get_elem? (set views pass l) k ≡ some y).
          ⊎_elim (λ (tj : get_elem? (set views pass l) j ≡ some u). all j u tj makes_u k y tk other) (λ (t : nobody ≡ u). absurd (true≢false (sym makes_u ∙ sym (ap (λ (z : View). z.makes) t))))
          (at_snoc (set views pass l) nobody u j e)) (λ (t : nobody ≡ y). sym (ap (λ (z : View). z.knows) t)) (at_snoc (set views pass l) nobody y k ek)),
      with_nobody dealt.0 (suc dealt.1) items (set views pass l) made,
    )

-- the hands of two passes, if those of one were parted
abbrev IsParted : List Claim → List Claim → List Claim → Type 0
IsParted whole some_claims others = ((h : Claim → ℕ) → sum_by h some_claims + sum_by h others ≡ sum_by h whole) × ((log : List Call) → AreMine log whole → AreMine log some_claims × AreMine log others)

parted : (claims : List Claim) → IsParted claims (take 1 claims) (drop 1 claims)
parted claims =
    let is = take-append-drop 1 claims in (
      (λ h. sym (sum_by-append h (take 1 claims) (drop 1 claims)) ∙ ap (sum_by h) is),
      (λ log mine. mine_split log (take 1 claims) (drop 1 claims) (subst (λ cs. AreMine log cs) (sym is) mine)),
    )

-- the first hand stays, or the others do
pub first_stays : (claims : List Claim) → IsParted claims (take 1 claims) (drop 1 claims)
first_stays claims = parted claims

pub first_goes : (claims : List Claim) → IsParted claims (drop 1 claims) (take 1 claims)
first_goes claims = let p = parted claims in ((λ h. omega (arith, p.0 h)), (λ log mine. let both = p.1 log mine in (both.1, both.0)))

-- all that one was another is
pub all_go : (claims : List Claim) → IsParted claims [] claims
all_go claims = ((λ h. omega arith), (λ log mine. (tt, mine)))

pub first_one : (claims : List Claim) → 1 ≤ length claims → length (take 1 claims) ≡ 1
first_one [] some_claim = absurd (omega (arith, some_claim))
first_one (claim ∷ claims) some_claim = refl

pub rest_one : (claims : List Claim) → length claims ≡ 2 → length (drop 1 claims) ≡ 1
rest_one [] two = absurd (omega (arith, two))
rest_one (claim ∷ claims) two = omega (arith, two)

-- two hands, one of each list
pub first_of : (some_claims others : List Claim) → length some_claims ≡ 1 → take 1 (some_claims ++ others) ≡ some_claims
first_of [] others one = absurd (omega (arith, one))
first_of (claim ∷ []) others one = refl
first_of (claim ∷ next ∷ claims) others one = absurd (omega (arith, one))

pub rest_of : (some_claims others : List Claim) → length some_claims ≡ 1 → drop 1 (some_claims ++ others) ≡ others
rest_of [] others one = absurd (omega (arith, one))
rest_of (claim ∷ []) others one = refl
rest_of (claim ∷ next ∷ claims) others one = absurd (omega (arith, one))

-- the hands that are left, if one more is given out
pub one_less : (hands given : ℕ) → given < hands → drop 1 (first_claims (hands - given)) ≡ first_claims (hands - (given + 1))
one_less hands given more = let e : hands - given ≡ suc (hands - (given + 1)) = omega (arith, more) in ap (λ n. drop 1 (first_claims n)) e

pub one_given : (hands given : ℕ) → given < hands → take 1 (first_claims (hands - given)) ≡ record { who = hands - (given + 1); calls = [] } ∷ []
one_given hands given more = let e : hands - given ≡ suc (hands - (given + 1)) = omega (arith, more) in ap (λ n. take 1 (first_claims n)) e

-- a pass that makes no more numbers gives a new one some of those that it holds, and some of its hands
pub forks : (pass : ℕ) (v : View) (claims claims' : List Claim) (mine theirs : List ℕ) → v.knows ≡ true → ((h : ℕ → ℕ) → sum_by h mine + sum_by h theirs ≡ weight h v) → IsParted v.claims claims claims'
    → length mine ≤ length claims → length theirs ≤ length claims' → Forks Dealt pass v (holder v.count v.hands claims mine v.seen) (holder v.count v.hands claims' theirs v.seen)
forks pass v claims claims' mine theirs knows same both few few' items views dealt at =
    let l = holder v.count v.hands claims mine v.seen in
    let r = holder v.count v.hands claims' theirs v.seen in
    let is = count_is items views pass v dealt at knows in
    let vs = set views pass l in (
      dealt.0,
      dealt.1,
      (λ h. omega (arith, sum_by_push (weight h) vs r, sum_by-set (weight h) views pass v l at, dealt.2 h, same h)),
      (λ h. omega (arith, sum_by_push (claimed h) vs r, sum_by-set (claimed h) views pass v l at, dealt.3 h, both.0 (λ (claim : Claim). h claim.who))),
      AllFit-append dealt.0 dealt.1 vs r
          (AllFit-set dealt.0 dealt.1 views pass l (holder_fits dealt.0 dealt.1 claims mine v.seen v.count v.hands is.0 is.1 few) (λ j u _ e. dealt.4 j u e))
          (holder_fits dealt.0 dealt.1 claims' theirs v.seen v.count v.hands is.0 is.1 few'),
      no_makers (vs ++ r ∷ []) (NoMaker-append vs r (NoMaker-set views pass l refl (others_make_none items views pass v dealt at knows)) refl),
      logged_fork dealt.0 dealt.1 items views pass v l r dealt.6 at refl refl (both.1 dealt.6.log) refl refl,
    )

pub merges : (pass : ℕ) (v : View) (other : ℕ) (w : View) → v.knows ≡ true → Merges Dealt pass v other w (holder v.count v.hands (v.claims ++ w.claims) (v.held ++ w.held) v.seen) nobody
merges pass v other w knows items views dealt at apart there =
    let both = holder v.count v.hands (v.claims ++ w.claims) (v.held ++ w.held) v.seen in
    let vs = set views pass both in
    let is = count_is items views pass v dealt at knows in
    let was : get_elem? views other ≡ some w =
    ⊎_elim (λ (t : (other ≡ pass) × (both ≡ w)). absurd (apart t.0)) (λ (t : (other ≢ pass) × (get_elem? views other ≡ some w)). t.1) (at_set views pass other both w there) in
    let few : length (v.held ++ w.held) ≤ length (v.claims ++ w.claims) =
    omega (arith, length-append v.held w.held, length-append v.claims w.claims, (dealt.4 pass v at).1, (dealt.4 other w was).1) in (
      dealt.0,
      dealt.1,
      (λ h. omega (arith, sum_by-set (weight h) vs other w nobody there, sum_by-set (weight h) views pass v both at, dealt.2 h, sum_by-append h v.held w.held)),
      (λ h. omega (arith, sum_by-set (claimed h) vs other w nobody there, sum_by-set (claimed h) views pass v both at, dealt.3 h, sum_by-append (λ (claim : Claim). h claim.who) v.claims w.claims)),
      AllFit-set dealt.0 dealt.1 vs other nobody (nobody_fits dealt.0 dealt.1)
          (λ j u _ e. AllFit-set dealt.0 dealt.1 views pass both (holder_fits dealt.0 dealt.1 both.claims both.held v.seen v.count v.hands is.0 is.1 few) (λ k y _ f. dealt.4 k y f) j u e),
      no_makers (set vs other nobody)
          (NoMaker-set vs other nobody refl (λ j u _ e. NoMaker-set views pass both refl (others_make_none items views pass v dealt at knows) j u e)),
      logged_merge dealt.0 dealt.1 items views pass v both other w dealt.6 at was refl refl refl,
    )

-- what the others hold is no more than they are hands
others_hold : (items : List ℕ) (views : List View) (pass : ℕ) (v : View) (dealt : Dealt items views) → get_elem? views pass ≡ some v
    → sum_by (weight (λ _. 1)) views + length v.claims ≤ length v.held + dealt.1
others_hold items views pass v dealt at =
    let others = set views pass nobody in
    let fit = AllFit-set dealt.0 dealt.1 views pass nobody (nobody_fits dealt.0 dealt.1) (λ j u _ e. dealt.4 j u e) in
    let most = sum_by-le (weight (λ _. 1)) (claimed (λ _. 1)) others (λ i x e. omega (arith, sum_by-ones x.held, sum_by-ones x.claims, (fit i x e).1)) in
    omega (arith, most, sum_by-set (weight (λ _. 1)) views pass v nobody at, sum_by-set (claimed (λ _. 1)) views pass v nobody at, dealt.3 (λ _. 1), sum_below-ones dealt.1, sum_by-ones v.held, sum_by-ones v.claims)

pub few : (pass : ℕ) (v : View) → v.knows ≡ true → Learns Dealt pass v (AreFew v)
few pass v knows items views dealt at =
    let h : ℕ → ℕ = λ _. 1 in
    let is = count_is items views pass v dealt at knows in (
      omega (arith, dealt.2 h, weight_le h views pass v at, sum_by-ones items, sum_by-ones v.held, sum_below-ones dealt.0, is.0),
      omega (arith, dealt.2 h, others_hold items views pass v dealt at, sum_by-ones items, sum_below-ones dealt.0, is.0, is.1),
    )

pub distinct : (pass : ℕ) (v : View) → Learns Dealt pass v (λ _. AreDistinct v.held)
distinct pass v items views dealt at x = let h = one_at x in omega (arith, dealt.2 h, weight_le h views pass v at, sum_below-one_at x dealt.0)

-- a list of a number twice isn't distinct
pub twice : (a b : ℕ) (xs : List ℕ) → xs ≡ a ∷ b ∷ [] → AreDistinct xs → a ≢ b
twice a b xs is distinct same =
    let one = one_at-same b in
    let other : one_at b a ≡ 1 = ap (one_at b) same ∙ one in
    let most : sum_by (one_at b) (a ∷ b ∷ []) ≤ 1 = subst (λ ys. sum_by (one_at b) ys ≤ 1) is (distinct b) in
    absurd (omega arith)

-- ## The beginning

only_one : (x : View) (pass : ℕ) (v : View) → get_elem? (x ∷ []) pass ≡ some v → (pass ≡ 0) × (x ≡ v)
only_one x zero v e = (refl, some-injective x v e)
only_one x (suc pass) v e = absurd (some-ne-none v (sym e))

-- before any number or hand is made
pub nothing_dealt : Dealt [] (maker 0 0 ∷ [])
nothing_dealt = (
  0,
  0,
  (λ h. refl),
  (λ h. refl),
  (λ pass v at. subst (λ (y : View). HoldsAtMost 0 0 y) (only_one (maker 0 0) pass v at).1 ((λ _. (refl, refl)), omega arith)),
  (λ pass v at makes other y e apart. absurd (apart ((only_one (maker 0 0) other y e).0 ∙ sym (only_one (maker 0 0) pass v at).0))),
  record {
    log = [];
    waits = refl;
    legal = tt;
    saw = λ pass v at. subst (λ (y : View). HasSeenCalls [] y) (only_one (maker 0 0) pass v at).1 (record { newer = []; seen = refl; mine = tt; makes = λ _. refl });
    known = λ by _. refl;
  },
)
