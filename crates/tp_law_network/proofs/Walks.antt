-- Pieces of a run without an opening, one after the other, and what crashes leave of the device on the way.
use Rattle.std.proofs.Common.{◌≡◌, ℕ, ◌≤◌, ◌⊎◌, inl, inr, false, List, [], ◌∷◌, ◌++◌, length, take, drop, refl, sym, ap, subst, ◌∙◌, arith, append_assoc, append-nil, length-append, Some, map}
use Rattle.tp_law_network.proofs.Lower.{AllByRecursion, take-append-le, drop-append-le, drop-length, Entry, Machine, Network, HasFourLinks, NeverMarks, after, MarkedNetwork, Act, happens, acted, Moment, MayBe, State, SomeMay, MayHaveLeft, moment, LeavesOnly, Areas, AreasHold, next_number, World, Event, Acts, Reads, Step, BeginsFormatted, grown, is_trim, is_reopening, RunLeads, Chained, Walks, RecoversTo}
use Rattle.tp_model.specs.Runs.{Run}
use Rattle.tp_law_network.proofs.Partial.{all_append, bind_some}
use Rattle.tp_law_network.proofs.Runs.{run_recovers}
use Rattle.tp_law_network.proofs.Stay.{stays}
use Rattle.tp_law_network.proofs.Acknowledged.{run_goes_on}

module _ {Node : Type 0} (M : Machine Node) (A : Areas Node) where
  -- ## One after the other

  pub run_then : (w u v : World Node) (es fs : List (Event Node)) → Run M A w es u → Run M A u fs v → Run M A w (es ++ fs) v
  run_then w u v [] fs first then = subst (λ x. Run M A x fs v) first then
  run_then w u v (e ∷ es) fs first then = (first.0, first.1, run_then first.0 u v es fs first.2 then)

  pub no_step : (w : World Node) → RunLeads M A w w
  no_step w = record { events = []; run = refl; unopened = tt }

  pub one_step : (w v : World Node) (e : Event Node) → is_reopening e ≡ false → Step M A w e v → RunLeads M A w v
  one_step w v e other step = record { events = e ∷ []; run = (v, step, refl); unopened = (other, tt) }

  pub leads_then : (w u v : World Node) → RunLeads M A w u → RunLeads M A u v → RunLeads M A w v
  leads_then w u v first then = record {
    events = first.events ++ then.events;
    run = run_then w u v first.events then.events first.run then.run;
    unopened = all_append (λ e. is_reopening e ≡ false) first.events then.events first.unopened then.unopened;
  }

  pub chained_from : (w u v : World Node) (us : List (World Node)) → RunLeads M A w u → Chained M A u us v → Chained M A w us v
  chained_from w u v [] first then = leads_then w u v first then
  chained_from w u v (x ∷ us) first then = (leads_then w u x first then.0, then.1)

  pub chain_leads : (w v : World Node) (us : List (World Node)) → Chained M A w us v → RunLeads M A w v
  chain_leads w v [] chain = chain
  chain_leads w v (u ∷ us) chain = leads_then w u v chain.0 (chain_leads u v us chain.1)

  chained_then : (w u v : World Node) (us vs : List (World Node)) → Chained M A w us u → Chained M A u vs v → Chained M A w (us ++ vs) v
  chained_then w u v [] vs first then = chained_from w u v vs first then
  chained_then w u v (x ∷ us) vs first then = (first.0, chained_then x u v us vs first.1 then)

  abbrev pub disks : List (World Node) → List Moment
  disks us = map (λ u. u.disk) us

  disks-append : (us vs : List (World Node)) → disks (us ++ vs) ≡ disks us ++ disks vs
  disks-append [] vs = refl
  disks-append (u ∷ us) vs = ap (λ ms. u.disk ∷ ms) (disks-append us vs)

  pub walks_then : (w u v : World Node) (old mid new : State) → Walks M A w u old mid → Walks M A u v mid new → Walks M A w v old new
  walks_then w u v old mid new first then = record {
    worlds = first.worlds ++ then.worlds;
    chain = chained_then w u v first.worlds then.worlds first.chain then.chain;
    past = then.past ∙ ap (λ ms. ms ++ disks then.worlds) first.past ∙ append_assoc old.past (disks first.worlds) (disks then.worlds)
        ∙ ap (λ ms. old.past ++ ms) (sym (disks-append first.worlds then.worlds));
    now = then.now;
  }

  -- a piece that makes no device call
  pub still_walks : (w v : World Node) (state : State) → RunLeads M A w v → v.disk ≡ state.now → Walks M A w v state state
  still_walks w v state leads now = record { worlds = []; chain = leads; past = sym (append-nil state.past); now = now }

  -- acts, none of them a trim
  pub acts_run : (w : World Node) (acts : List Act) (net : MarkedNetwork Node) → AllByRecursion (λ act. is_trim act ≡ false) acts → acted M w.net acts ≡ Some net
      → (journal : List Entry) × Run M A w (map Acts acts) (record w { net = net; journal = journal })
  unfolding acted
  acts_run w [] net none e = let same : w.net ≡ net = cc in (w.journal, ap (λ n. record w { net = n }) (sym same))
  acts_run w (act ∷ acts) net none e =
      let F = bind_some (happens M w.net act) (λ u. acted M u acts) net e in
      let u : World Node = record w { net = F.0; journal = grown act w.journal } in
      let rest = acts_run u acts net none.1 F.2 in
      (rest.0, (u, (none.0, F.0, F.1, refl), rest.1))

  -- ## What crashes leave on the way

  some_each : (P : List ℕ → Type 0) (left : List ℕ) (w v : World Node) (us : List (World Node)) → Chained M A w us v
      → ((u : World Node) → RunLeads M A w u → RunLeads M A u v → MayBe u.disk left → P left) → SomeMay (disks us) left → P left
  some_each P left w v [] chain each some = absurd some
  some_each P left w v (u ∷ us) chain each (inl may) = each u chain.0 (chain_leads u v us chain.1) may
  some_each P left w v (u ∷ us) chain each (inr some) = some_each P left u v us chain.1 (λ x M may. each x (leads_then w u x chain.0 M) may) some

  some_split : (xs ys : List Moment) (left : List ℕ) → SomeMay (xs ++ ys) left → SomeMay xs left ⊎ SomeMay ys left
  some_split [] ys left some = inr some
  some_split (x ∷ xs) ys left (inl may) = inl (inl may)
  some_split (x ∷ xs) ys left (inr some) = further (some_split xs ys left some)
    where
      further : SomeMay xs left ⊎ SomeMay ys left → SomeMay (x ∷ xs) left ⊎ SomeMay ys left
      further (inl early) = inl (inr early)
      further (inr late) = inr late

  -- what is true of whatever a crash leaves at each world on the way
  pub walks_leave : (P : List ℕ → Type 0) (w v : World Node) (old new : State) → Walks M A w v old new
      → ((u : World Node) → RunLeads M A w u → RunLeads M A u v → (left : List ℕ) → MayBe u.disk left → P left) → LeavesOnly old new P
  walks_leave P w v old new W each = record {
    later = omega (arith, ap length W.past, length-append old.past (disks W.worlds));
    each = λ left since. among left (at (moment old) left (omega arith) since);
    before = λ t left early since. since_then t left (at t left early since);
  }
    where
      now : (left : List ℕ) → MayBe new.now left → P left
      now left may = each v (chain_leads w v W.worlds W.chain) (no_step v) left (subst (λ (m : Moment). MayBe m left) (sym W.now) may)

      late : (left : List ℕ) → SomeMay (disks W.worlds) left → P left
      late left some = some_each P left w v W.worlds W.chain (λ u L K may. each u L K left may) some

      -- an old moment, or one since
      at : (t : ℕ) (left : List ℕ) → t ≤ moment old → MayHaveLeft new t left → SomeMay (drop t old.past) left ⊎ P left
      at t left early (inr may) = inr (now left may)
      at t left early (inl some) =
          which (some_split (drop t old.past) (disks W.worlds) left (subst (λ ms. SomeMay ms left) (ap (drop t) W.past ∙ drop-append-le t old.past (disks W.worlds) early) some))
        where
          which : SomeMay (drop t old.past) left ⊎ SomeMay (disks W.worlds) left → SomeMay (drop t old.past) left ⊎ P left
          which (inl earlier) = inl earlier
          which (inr later) = inr (late left later)

      among : (left : List ℕ) → SomeMay (drop (moment old) old.past) left ⊎ P left → P left
      among left (inl earlier) = absurd (subst (λ ms. SomeMay ms left) (drop-length old.past) earlier)
      among left (inr p) = p

      since_then : (t : ℕ) (left : List ℕ) → SomeMay (drop t old.past) left ⊎ P left → MayHaveLeft old t left ⊎ P left
      since_then t left (inl earlier) = inl (inl earlier)
      since_then t left (inr p) = inr p

  -- ## From a run that began with a formatted device

  module _ (four : HasFourLinks M) (never : NeverMarks M) (law : AreasHold M A) (start : Network Node) (before : List (Event Node)) (first w : World Node)
      (formatted : BeginsFormatted M A start first) (run : Run M A first before w) where
    pub recovers_at : (u v : World Node) → RunLeads M A w u → RunLeads M A u v → (left : List ℕ) → MayBe u.disk left → RecoversTo M A start v.journal w.mark left
    recovers_at u v earlier later left may =
        let read : World Node = record u { seen = u.mark ∷ u.seen } in
        let there = run_then first w read before (earlier.events ++ Reads ∷ []) run (run_then w u read earlier.events (Reads ∷ []) earlier.run (read, refl, refl)) in
        let up = (stays M four never A law start before earlier.events first w u formatted run earlier.run).0 in
        let r = run_recovers M four never A law start (before ++ (earlier.events ++ Reads ∷ [])) first read formatted there left may in
        let least = r.no_less.0 in
        let most = r.no_more in
        let on = run_goes_on M A later.events u v later.unopened later.run in
        record {
          held = r.held;
          reads = r.reads;
          now = r.now;
          replayed = r.replayed;
          exact = ap (λ journal. after M start (take (next_number r.held) journal)) on.1
              ∙ ap (after M start) (take-append-le (next_number r.held) u.journal on.0 most) ∙ r.exact;
          no_less = omega arith;
          no_more = omega (arith, ap length on.1, length-append u.journal on.0);
        }

    pub walks_recover : (v : World Node) (old new : State) → Walks M A w v old new → LeavesOnly old new (RecoversTo M A start v.journal w.mark)
    walks_recover v old new W = walks_leave (RecoversTo M A start v.journal w.mark) w v old new W (λ u earlier later left may. recovers_at u v earlier later left may)
