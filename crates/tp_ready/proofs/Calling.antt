-- One more call keeps the order of all calls.
use Rattle.std.proofs.Common.{◌≡◌, ◌≢◌, ℕ, ◌<◌, ◌≤◌, true, false, true≢false, eq-eqb, ne_eqb, List, [], ◌∷◌, ◌++◌, set, sum_by, sym, refl, ap, ◌∙◌, subst, ⊎_elim, lt_of_not-le, append-nil, arith}
use Rattle.tp_ready.proofs.Lower.{sum_by-cons, at_set, at_snoc, set_else, some}
use lib.ListN.{get_elem?}
use Rattle.tp_ready.specs.declared.call.Call.{Call}
use Rattle.tp_ready.specs.declared.call.Claim.{Claim}
use Rattle.tp_ready.specs.declared.call.Step.{Step}
use Rattle.tp_ready.specs.declared.view.View.{View}
use Rattle.tp_ready.specs.Past.{IsDue, after_step, add_if, calls_by, waiting_numbers}
use Rattle.tp_ready.specs.View.{nobody, claimed, sum_below, one_at, AreMine, HasSeenCalls, Logged}
use Rattle.tp_ready.proofs.Weights.{sum_by-set, one_at-same, sum_below-one_at, sum_below-one_at-outside}

abbrev pub called : ℕ → Step → Call
called who step = record { by = who; step = step }

-- ## The calls of one hand

pub by_own : (who : ℕ) (step : Step) (log : List Call) → calls_by who (called who step ∷ log) ≡ called who step ∷ calls_by who log
by_own who step log = ap (λ b. add_if b (called who step) (calls_by who log)) (eq-eqb who who refl)

pub by_other : (by who : ℕ) (step : Step) (log : List Call) → who ≢ by → calls_by by (called who step ∷ log) ≡ calls_by by log
by_other by who step log other = ap (λ b. add_if b (called who step) (calls_by by log)) (ne_eqb who by other)

-- what is known of the calls of hands that make none stays
mine_stay : (who : ℕ) (step : Step) (log : List Call) (claims : List Claim) → sum_by (λ (claim : Claim). one_at who claim.who) claims ≡ 0 → AreMine log claims → AreMine (called who step ∷ log) claims
mine_stay who step log [] none mine = mine
mine_stay who step log (claim ∷ claims) none mine =
    let parts = sum_by-cons (λ (other : Claim). one_at who other.who) claim claims in
    let here : one_at who claim.who ≡ 0 = omega (arith, parts, none) in
    let rest : sum_by (λ (other : Claim). one_at who other.who) claims ≡ 0 = omega (arith, parts, none) in
    let other : who ≢ claim.who = λ same. absurd (omega (arith, here, ap (one_at who) same, one_at-same who)) in
    (by_other claim.who who step log other ∙ mine.0, mine_stay who step log claims rest mine.1)

pub mine_split : (log : List Call) (some_claims others : List Claim) → AreMine log (some_claims ++ others) → AreMine log some_claims × AreMine log others
mine_split log [] others mine = (tt, mine)
mine_split log (claim ∷ claims) others mine = let rest = mine_split log claims others mine.1 in ((mine.0, rest.0), rest.1)

pub mine_joined : (log : List Call) (some_claims others : List Claim) → AreMine log some_claims → AreMine log others → AreMine log (some_claims ++ others)
mine_joined log [] others mine more = more
mine_joined log (claim ∷ claims) others mine more = (mine.0, mine_joined log claims others mine.1 more)

-- ## Hands that are apart

abbrev pub Shares : ℕ → List View → Type 0
Shares hands views = (h : ℕ → ℕ) → sum_by (claimed h) views ≡ sum_below h hands

claimed_le : (h : ℕ → ℕ) (views : List View) (pass : ℕ) (v : View) → get_elem? views pass ≡ some v → claimed h v ≤ sum_by (claimed h) views
claimed_le h views pass v at = omega (arith, sum_by-set (claimed h) views pass v nobody at)

claims_one : (v : View) (claim : Claim) → v.claims ≡ claim ∷ [] → claimed (one_at claim.who) v ≡ 1
claims_one v claim one =
    let f = λ (other : Claim). one_at claim.who other.who in
    omega (arith, ap (sum_by f) one, sum_by-cons f claim [], one_at-same claim.who)

-- a hand that belongs to one pass belongs to no other
claims_apart : (hands : ℕ) (views : List View) (pass j : ℕ) (v u : View) (claim : Claim) → Shares hands views → get_elem? views pass ≡ some v → v.claims ≡ claim ∷ [] → j ≢ pass
    → get_elem? views j ≡ some u → claimed (one_at claim.who) u ≡ 0
claims_apart hands views pass j v u claim shares at one other there =
    let h = one_at claim.who in
    let others = set views pass nobody in
    let kept : get_elem? others j ≡ some u = set_else views pass j nobody other ∙ there in
    omega (arith, claimed_le h others j u kept, sum_by-set (claimed h) views pass v nobody at, claims_one v claim one, shares h, sum_below-one_at claim.who hands)

-- its number is below their count
pub claim_below : (hands : ℕ) (views : List View) (pass : ℕ) (v : View) (claim : Claim) → Shares hands views → get_elem? views pass ≡ some v → v.claims ≡ claim ∷ [] → claim.who < hands
claim_below hands views pass v claim shares at one =
    let h = one_at claim.who in
    lt_of_not-le (λ (le : hands ≤ claim.who). absurd (omega (arith, claimed_le h views pass v at, claims_one v claim one, shares h, sum_below-one_at-outside claim.who hands le)))

-- ## One more call

saw_set : (log : List Call) (views : List View) (pass : ℕ) (w : View) → HasSeenCalls log w → ((j : ℕ) (u : View) → j ≢ pass → get_elem? views j ≡ some u → HasSeenCalls log u) → (j : ℕ) (u : View)
    → get_elem? (set views pass w) j ≡ some u → HasSeenCalls log u
saw_set log views pass w mine others j u e =
    ⊎_elim (λ (t : (j ≡ pass) × (w ≡ u)). subst (λ (y : View). HasSeenCalls log y) t.1 mine) (λ (t : (j ≢ pass) × (get_elem? views j ≡ some u)). others j u t.0 t.1) (at_set views pass j w u e)

pub saw_append : (log : List Call) (views : List View) (w : View) → ((j : ℕ) (u : View) → get_elem? views j ≡ some u → HasSeenCalls log u) → HasSeenCalls log w → (j : ℕ) (u : View) → get_elem? (views ++ w ∷ []) j ≡ some u
    → HasSeenCalls log u
saw_append log views w all new j u e = ⊎_elim (λ (t : get_elem? views j ≡ some u). all j u t) (λ (t : w ≡ u). subst (λ (y : View). HasSeenCalls log y) t new) (at_snoc views w u j e)

-- a hand makes one more, while other passes make no numbers or hands
pub logged_call : (count hands : ℕ) (items : List ℕ) (views : List View) (pass : ℕ) (v w : View) (claim : Claim) (step : Step) (logged : Logged count hands items views) → Shares hands views
    → get_elem? views pass ≡ some v → v.claims ≡ claim ∷ [] → IsDue step items → w.claims ≡ record { who = claim.who; calls = called claim.who step ∷ claim.calls } ∷ []
    → w.seen ≡ called claim.who step ∷ logged.log → w.makes ≡ false → ((j : ℕ) (u : View) → j ≢ pass → get_elem? views j ≡ some u → u.makes ≡ false)
    → Logged count hands (after_step step items) (set views pass w)
logged_call count hands items views pass v w claim step logged shares at one due is seen makes others =
    let call = called claim.who step in
    let log = logged.log in
    let own = (subst (λ claims. AreMine log claims) one (logged.saw pass v at).mine).0 in
    let next : Claim = record { who = claim.who; calls = call ∷ claim.calls } in
    let next_mine : AreMine (call ∷ log) (next ∷ []) = (by_own claim.who step log ∙ ap (λ cs. call ∷ cs) own, tt) in
    let here : HasSeenCalls (call ∷ log) w =
    record {
      newer = [];
      seen = sym seen;
      mine = subst (λ claims. AreMine (call ∷ log) claims) (sym is) next_mine;
      makes = λ made. absurd (true≢false (sym made ∙ makes));
    } in
    let there : (j : ℕ) (u : View) → j ≢ pass → get_elem? views j ≡ some u → HasSeenCalls (call ∷ log) u =
    λ j u other e.
    let saw = logged.saw j u e in
    record {
      newer = call ∷ saw.newer;
      seen = ap (λ cs. call ∷ cs) saw.seen;
      mine = mine_stay claim.who step log u.claims (claims_apart hands views pass j v u claim shares at one other e) saw.mine;
      makes = λ made. absurd (true≢false (sym made ∙ others j u other e));
    } in
    let below = claim_below hands views pass v claim shares at one in
    record {
      log = call ∷ log;
      waits = ap (after_step step) logged.waits;
      legal = (subst (IsDue step) (sym logged.waits) due, logged.legal);
      saw = saw_set (call ∷ log) views pass w here there;
      known = λ by far. by_other by claim.who step log (λ same. absurd (omega (arith, same, below, far))) ∙ logged.known by far;
    }

-- ## Passes that part and meet

-- two passes have the hands that one had
pub logged_fork : (count hands : ℕ) (items : List ℕ) (views : List View) (pass : ℕ) (v l r : View) (logged : Logged count hands items views) → get_elem? views pass ≡ some v → l.seen ≡ v.seen
    → r.seen ≡ v.seen → (AreMine logged.log v.claims → AreMine logged.log l.claims × AreMine logged.log r.claims) → l.makes ≡ false → r.makes ≡ false
    → Logged count hands items (set views pass l ++ r ∷ [])
logged_fork count hands items views pass v l r logged at same same' parts l_makes r_makes =
    let saw = logged.saw pass v at in
    let both = parts saw.mine in
    let left : HasSeenCalls logged.log l =
    record { newer = saw.newer; seen = saw.seen ∙ ap (λ cs. saw.newer ++ cs) (sym same); mine = both.0; makes = λ made. absurd (true≢false (sym made ∙ l_makes)) } in
    let right : HasSeenCalls logged.log r =
    record { newer = saw.newer; seen = saw.seen ∙ ap (λ cs. saw.newer ++ cs) (sym same'); mine = both.1; makes = λ made. absurd (true≢false (sym made ∙ r_makes)) } in
    record {
      log = logged.log;
      waits = logged.waits;
      legal = logged.legal;
      saw = saw_append logged.log (set views pass l) r (saw_set logged.log views pass l left (λ j u _ e. logged.saw j u e)) right;
      known = logged.known;
    }

-- the view of nobody, whatever the calls are
pub nobody_saw : (log : List Call) → HasSeenCalls log nobody
nobody_saw log = record { newer = log; seen = sym (append-nil log); mine = tt; makes = λ made. absurd (true≢false (sym made)) }

-- one pass has the hands that two had
pub logged_merge : (count hands : ℕ) (items : List ℕ) (views : List View) (pass : ℕ) (v both : View) (other : ℕ) (w : View) (logged : Logged count hands items views) → get_elem? views pass ≡ some v
    → get_elem? views other ≡ some w → both.seen ≡ v.seen → both.claims ≡ v.claims ++ w.claims → both.makes ≡ false → Logged count hands items (set (set views pass both) other nobody)
logged_merge count hands items views pass v both other w logged at was same is makes =
    let saw = logged.saw pass v at in
    let theirs = logged.saw other w was in
    let here : HasSeenCalls logged.log both =
    record {
      newer = saw.newer;
      seen = saw.seen ∙ ap (λ cs. saw.newer ++ cs) (sym same);
      mine = subst (λ claims. AreMine logged.log claims) (sym is) (mine_joined logged.log v.claims w.claims saw.mine theirs.mine);
      makes = λ made. absurd (true≢false (sym made ∙ makes));
    } in
    record {
      log = logged.log;
      waits = logged.waits;
      legal = logged.legal;
      saw = saw_set logged.log (set views pass both) other nobody (nobody_saw logged.log) (λ j u _ e. saw_set logged.log views pass both here (λ k y _ f. logged.saw k y f) j u e);
      known = logged.known;
    }

-- ## While numbers and hands are made

-- another view of a pass that makes them, if nothing was called
pub logged_making : (count count' hands hands' : ℕ) (items items' : List ℕ) (views : List View) (pass : ℕ) (v w : View) (logged : Logged count hands items views) → get_elem? views pass ≡ some v
    → v.makes ≡ true → waiting_numbers count' [] ≡ items' → AreMine [] w.claims → w.seen ≡ [] → Logged count' hands' items' (set views pass w)
logged_making count count' hands hands' items items' views pass v w logged at makes waits mine seen =
    let none = (logged.saw pass v at).makes makes in
    record {
      log = [];
      waits = waits;
      legal = tt;
      saw = saw_set [] views pass w (record { newer = []; seen = sym seen; mine = mine; makes = λ _. refl }) (λ j u _ e. subst (λ (log : List Call). HasSeenCalls log u) none (logged.saw j u e));
      known = λ by _. refl;
    }

-- before any call the queue has the numbers that were made
pub none_called : (count hands : ℕ) (items : List ℕ) (views : List View) (pass : ℕ) (v : View) (logged : Logged count hands items views) → get_elem? views pass ≡ some v → v.makes ≡ true
    → waiting_numbers count [] ≡ items
none_called count hands items views pass v logged at makes = ap (waiting_numbers count) (sym ((logged.saw pass v at).makes makes)) ∙ logged.waits
