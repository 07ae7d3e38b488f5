-- What one process left as it was stopped, in its own journal.
use Rattle.std.proofs.Common.{◌≡◌, ℕ, zero, suc, ◌<◌, ◌≤◌, ◌⊎◌, inl, inr, List, [], ◌∷◌, drop, Ok, refl, sym, ap, subst, ◌∙◌, arith}
use Rattle.tp_law_processes.proofs.Lower.{AllByRecursion, cases_lt, drop_all, Entry, NodeState, t414, Network, Held, next_number, MayBe, Moment, MayHaveLeft, SomeMay, State, moment, device_areas, Opened, next_of, verdict, World, RecoversTo, synced_may, Began, Follows, now_is}
use Rattle.tp_law_processes.specs.Processes.{Process, Showing, answered, journal_of, showings}
use Rattle.tp_law_processes.proofs.Shows.{IsShowing, facts}

-- ## Moments

-- a crash from a later moment on is one from an earlier one on
some_from : (t from : ℕ) (ms : List Moment) (left : List ℕ) → from ≤ t → SomeMay (drop t ms) left → SomeMay (drop from ms) left
some_from zero zero ms left low some = some
some_from zero (suc from) ms left low some = absurd (omega (arith, low))
some_from (suc t) from [] left low some = absurd some
some_from (suc t) zero (m ∷ ms) left low some = inr (some_from t zero ms left (omega arith) some)
some_from (suc t) (suc from) (m ∷ ms) left low some = some_from t from ms left (omega (arith, low)) some

may_from : (s : State) (t from : ℕ) (left : List ℕ) → from ≤ t → MayHaveLeft s t left → MayHaveLeft s from left
may_from s t from left low (inl some) = inl (some_from t from s.past left low some)
may_from s t from left low (inr may) = inr may

-- one from the last moment on is one at the last
may_last : (s : State) (t : ℕ) (left : List ℕ) → moment s ≤ t → MayHaveLeft s t left → MayBe s.now left
may_last s t left up (inl some) = absurd (subst (λ ms. SomeMay ms left) (drop_all t s.past up) some)
may_last s t left up (inr may) = may

-- ## Numbers of what opens

-- each number below which all is recovered is no more than the next one
pub least_is : (start : Network NodeState) (journal : List Entry) (a b : ℕ) (left : List ℕ) → RecoversTo t414 device_areas start journal a left → (r : RecoversTo t414 device_areas start journal b left)
    → a ≤ next_number r.held
least_is start journal a b left q r =
    let same : q.held ≡ r.held = let both = sym q.reads ∙ r.reads in cc in
    let number : next_number q.held ≡ next_number r.held = ap (λ (h : Held NodeState). next_number h) same in
    let low = q.no_less in
    omega (arith, number, low)

-- with no number to recover
abbrev of_any : (start : Network NodeState) (journal : List Entry) (least : ℕ) (left : List ℕ) → RecoversTo t414 device_areas start journal least left → RecoversTo t414 device_areas start journal 0 left
of_any start journal least left r =
    record { held = r.held; reads = r.reads; now = r.now; replayed = r.replayed; exact = r.exact; no_less = omega arith; no_more = r.no_more }

follows_any : (start : Network NodeState) (journal : List Entry) (least : ℕ) (was left : List ℕ) → Follows start journal least was left → Follows start journal 0 was left
follows_any start journal least was left F = record {
  opened = F.opened;
  reads = F.reads;
  had = F.had;
  recovers = of_any start journal least left F.recovers;
  keeps = F.keeps;
  world = F.world;
  begins = F.begins;
}

-- ## A process

module _ (start : Network NodeState) (p : Process start) where
  abbrev journal : List Entry
  journal = journal_of p.did

  -- what was shown is recovered
  pub shown_recovers : (x : Showing) (S : IsShowing start journal p.old p.new x) → x.there ≤ p.at → RecoversTo t414 device_areas start journal S.number p.left
  shown_recovers x S by = let at = S.at in S.since.each p.left (may_from p.new p.at (moment S.there) p.left (omega (arith, at, by)) p.may)

  -- the same holds of what was answered, once it has ended
  pub answer_stands : moment p.new ≤ p.at → (k : ℕ) → k < answered p.did → Follows start journal (answered p.did) p.old.now.bytes p.left
  answer_stands ended k below = (facts start p.old p.new p.did).stored p.left (may_last p.new p.at p.left ended p.may) k below

  -- Nothing new was left, and nothing was shown or answered by then.
  pub record IsIdle : Type 0 where
    pub same : p.left ≡ p.old.now.bytes
    pub none : AllByRecursion (λ (x : Showing). p.at < x.there) (showings start p.old p.new p.did)
    pub silent : moment p.new ≤ p.at → answered p.did ≡ 0

  module _ (before : World NodeState) (began : Began start before p.old.now.bytes) (o : Opened) (reads : verdict p.old.now.bytes ≡ Ok o) where
    record IsFound : Type 0 where
      number : ℕ
      up : next_of o ≤ number
      recovers : RecoversTo t414 device_areas start journal number p.left

    -- something was shown by then, or nothing
    found : (xs : List Showing) → AllByRecursion (IsShowing start journal p.old p.new) xs → AllByRecursion (λ (x : Showing). p.at < x.there) xs ⊎ IsFound
    found [] all = inl tt
    found (x ∷ xs) all = elim (cases_lt p.at x.there) [
      | inl later ↦ elim (found xs all.1) [
        | inl none ↦ inl (later, none)
        | inr some ↦ inr some
      ]
      | inr by ↦
          let S = all.0 in
          let same : S.opened ≡ o = let both = sym S.reads ∙ reads in cc in
          let number : next_of S.opened ≡ next_of o = ap (λ (q : Opened). next_of q) same in
          let behind = S.behind in
          inr (record { number = S.number; up = omega (arith, number, behind); recovers = shown_recovers x S by })
    ]

    -- what was found follows, though it is what there was
    found_follows : p.left ≡ p.old.now.bytes → IsFound → Follows start journal 0 p.old.now.bytes p.left
    found_follows same some =
        let r = some.recovers in
        let at = now_is start journal some.number p.left o (ap verdict same ∙ reads) r in record {
          opened = o;
          reads = reads;
          had = at.1;
          recovers = of_any start journal some.number p.left r;
          keeps = let number = at.0 in omega (arith, number);
          world = before;
          begins = subst (Began start before) (sym same) began;
        }

    idle_or : (n : ℕ) → answered p.did ≡ n → p.left ≡ p.old.now.bytes → AllByRecursion (λ (x : Showing). p.at < x.there) (showings start p.old p.new p.did)
        → Follows start journal 0 p.old.now.bytes p.left ⊎ IsIdle
    idle_or zero is same none = inr (record { same = same; none = none; silent = λ ended. is })
    idle_or (suc n) is same none = elim (cases_lt p.at (moment p.new)) [
      | inl before ↦ inr (record { same = same; none = none; silent = λ ended. absurd (omega (arith, before, ended)) })
      | inr ended ↦ inl (follows_any start journal (answered p.did) p.old.now.bytes p.left (answer_stands ended 0 (omega (arith, is))))
    ]

    -- What it left follows what it had, or it was idle.
    pub stopped : Follows start journal 0 p.old.now.bytes p.left ⊎ IsIdle
    stopped =
        let F = facts start p.old p.new p.did in
        elim (F.leaves.each p.left (may_from p.new p.at (moment p.old) p.left p.begun p.may)) [
          | inr follows ↦ inl follows
          | inl may ↦
              let same : p.left ≡ p.old.now.bytes = synced_may p.old.now.bytes p.left (subst (λ ranges. MayBe (record { bytes = p.old.now.bytes; unsynced = ranges }) p.left) p.synced may) in
              elim (found (showings start p.old p.new p.did) F.shown) [
                | inr some ↦ inl (found_follows same some)
                | inl none ↦ idle_or (answered p.did) refl same none
              ]
        ]
