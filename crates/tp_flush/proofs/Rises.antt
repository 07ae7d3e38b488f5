-- What the device had when the mark was raised stays, as the flusher goes on.
use Rattle.std.proofs.Common.{◌≡◌, ℕ, ◌≤◌, ◌⊎◌, inl, inr, List, [], ◌∷◌, ◌++◌, sym, ap, subst, ◌∙◌, arith, le_refl, length-append}
use Rattle.std.specs.Prelude.{drop}
use Rattle.tp_flush.proofs.Lower.{AllByRecursion, take-append-le, drop-length, Entry, NodeState, t414, t414_ends, Network, after, next_number, MayBe, State, LeavesOnly, MayHaveLeft, SomeMay, moment, device_areas, World, RecoversTo, RunLeads, Walks, has_four_links, never_marks, areas_keep, run_goes_on, stays, chain_leads, no_step, recovers_at, walks_recover, Rise, RisesOn}
use Rattle.tp_flush.specs.Known.{Reached}
use Rattle.tp_flush.specs.Risen.{HaveRisen, WasStored}
use Rattle.tp_flush.proofs.Recovers.{recovers_less}

-- ## Lists

all_then : {P Q : Rise → Type 0} → ((rise : Rise) → P rise → Q rise) → (rises : List Rise) → AllByRecursion P rises → AllByRecursion Q rises
all_then then [] all = tt
all_then then (rise ∷ rises) all = (then rise all.0, all_then then rises all.1)

pub all_front : {A : Type 0} (P : A → Type 0) (xs more : List A) → AllByRecursion P (xs ++ more) → AllByRecursion P xs
all_front P [] more all = tt
all_front P (x ∷ xs) more all = (all.0, all_front P xs more all.1)

all_push : (P : Rise → Type 0) (rises : List Rise) (rise : Rise) → AllByRecursion P rises → P rise → AllByRecursion P (rises ++ rise ∷ [])
all_push P [] rise all last = (last, tt)
all_push P (r ∷ rises) rise all last = (all.0, all_push P rises rise all.1 last)

-- after the first
later_push : (P : Rise → Type 0) (rises : List Rise) (rise : Rise) → AllByRecursion P (drop 1 rises) → P rise → AllByRecursion P (drop 1 (rises ++ rise ∷ []))
later_push P [] rise all last = tt
later_push P (r ∷ rises) rise all last = all_push P rises rise all last

-- ## One rise

-- what recovers to a prefix of a journal recovers to a prefix of a longer journal
recovers_more : (start : Network NodeState) (journal more : List Entry) (least : ℕ) (left : List ℕ) → RecoversTo t414 device_areas start journal least left → RecoversTo t414 device_areas start (journal ++ more) least left
recovers_more start journal more least left r = record {
  held = r.held;
  reads = r.reads;
  now = r.now;
  replayed = r.replayed;
  exact = ap (after t414 start) (take-append-le (next_number r.held) journal more r.no_more) ∙ r.exact;
  no_less = r.no_less;
  no_more = let most = r.no_more in omega (arith, most, length-append journal more);
}

module _ (start : Network NodeState) (w v : World NodeState) (old new : State) (R : Reached start w) (W : Walks t414 device_areas w v old new) where
  leads : RunLeads t414 device_areas w v
  leads = chain_leads t414 device_areas w v W.worlds W.chain

  leaves : LeavesOnly old new (RecoversTo t414 device_areas start v.journal w.mark)
  leaves = walks_recover t414 device_areas has_four_links never_marks (areas_keep t414 t414_ends) start R.events R.first w R.formatted R.run v old new W

  up : w.mark ≤ v.mark
  up = (stays t414 has_four_links never_marks device_areas (areas_keep t414 t414_ends) start R.events leads.events R.first w v R.formatted R.run leads.run).0

  on : (more : List Entry) × (v.journal ≡ w.journal ++ more)
  on = run_goes_on t414 device_areas leads.events w v leads.unopened leads.run

  rise_walks : (rise : Rise) → (rise.to ≤ w.mark) × WasStored start w.journal old rise → (rise.to ≤ v.mark) × WasStored start v.journal new rise
  rise_walks rise was = (
    (let low = was.0 in omega (arith, low, up)),
    record {
      past = let before = was.1.past in let later = leaves.later in omega (arith, before, later);
      since = λ left may. which left (leaves.before rise.moment left was.1.past may);
    },
  )
    where
      which : (left : List ℕ) → MayHaveLeft old rise.moment left ⊎ RecoversTo t414 device_areas start v.journal w.mark left → RecoversTo t414 device_areas start v.journal rise.to left
      which left (inl earlier) = subst (λ journal. RecoversTo t414 device_areas start journal rise.to left) (sym on.1) (recovers_more start w.journal on.0 rise.to left (was.1.since left earlier))
      which left (inr later) = recovers_less start v.journal w.mark rise.to left was.0 later

  -- each of them, as the flusher goes on
  pub rises_walk : (rises : List Rise) → HaveRisen start w old rises → HaveRisen start v new rises
  rises_walk rises have = all_then rise_walks (drop 1 rises) have

-- ## The mark is raised

module _ (start : Network NodeState) (w : World NodeState) (mark : ℕ) (state : State) (R : Reached start (record w { mark = mark })) (disk : w.disk ≡ state.now) (up : w.mark ≤ mark) where
  stored_now : (left : List ℕ) → MayBe state.now left → RecoversTo t414 device_areas start w.journal mark left
  stored_now left may =
      let v : World NodeState = record w { mark = mark } in
      recovers_at t414 device_areas has_four_links never_marks (areas_keep t414 t414_ends) start R.events R.first v R.formatted R.run v v (no_step t414 device_areas v) (no_step t414 device_areas v) left
      (subst (λ m. MayBe m left) (sym disk) may)

  raised_now : (to : ℕ) → to ≤ mark → WasStored start w.journal state (record { to = to; moment = moment state })
  raised_now to low = record { past = le_refl (moment state); since = λ left may. which left may }
    where
      which : (left : List ℕ) → MayHaveLeft state (moment state) left → RecoversTo t414 device_areas start w.journal to left
      which left (inl some) = absurd (subst (λ ms. SomeMay ms left) (drop-length state.past) some)
      which left (inr may) = recovers_less start w.journal mark to left low (stored_now left may)

  -- one more, as the device is now
  pub rises_raise : (to : ℕ) (rises : List Rise) → to ≤ mark → HaveRisen start w state rises → HaveRisen start (record w { mark = mark }) state (rises ++ record { to = to; moment = moment state } ∷ [])
  rises_raise to rises low have =
      later_push (λ rise. (rise.to ≤ mark) × WasStored start w.journal state rise) rises (record { to = to; moment = moment state })
      (all_then (λ rise was. ((let least = was.0 in omega (arith, least, up)), was.1)) (drop 1 rises) have) (low, raised_now to low)

-- ## What a pass saw

-- each rise that it saw, after the first, was stored
pub rises_seen : (start : Network NodeState) (w : World NodeState) (state : State) (seen all : List Rise) → RisesOn seen all → HaveRisen start w state all → AllByRecursion (WasStored start w.journal state) (drop 1 seen)
rises_seen start w state [] all goes have = tt
rises_seen start w state (rise ∷ seen) all goes have =
    let P : Rise → Type 0 = λ r. (r.to ≤ w.mark) × WasStored start w.journal state r in
    all_then (λ r was. was.1) seen (all_front P seen goes.0 (subst (HaveRisen start w state) goes.1 have))
