-- Nothing that a device had is lost, if its flusher goes on from it.
use Rattle.std.proofs.Common.{◌≡◌, ℕ, ◌+◌, ◌≤◌, ◌⊎◌, inl, inr, List, take, Some, Ok, sym, ap, subst, ◌∙◌, arith}
use Rattle.tp_flush.proofs.Lower.{option_map, result_ok, length-map, Entry, NodeState, t414, t414_ends, Network, after, Held, next_number, MayBe, State, LeavesOnly, device_areas, Opened, held_of, next_of, verdict, World, reopened, RunLeads, RecoversTo, has_four_links, never_marks, areas_keep, verdict_leads, may_stand, run_recovers, chain_leads, no_step, recovers_at, walks_leave, and_then, weaker, LeavesNothingNew}
use Rattle.tp_flush.specs.Known.{Began, Reached}
use Rattle.tp_flush.specs.Flushing.{Flushing, Walked}
use Rattle.tp_flush.specs.Follows.{Follows}
use Rattle.tp_flush.proofs.Begins.{first_reached}
use Rattle.tp_flush.proofs.Kept.{reached_then}
use Rattle.tp_flush.proofs.Turns.{walked_stays}

-- its next number
pub number_is : (o : Opened) → next_number (held_of o) ≡ next_of o
number_is o = ap (λ n. o.base + n) (length-map o.kept (λ e. e.0))

-- ## What opens

-- bytes open to one that is held
pub held_is : (bytes : List ℕ) (o : Opened) (h : Held NodeState) → verdict bytes ≡ Ok o → device_areas.verdict bytes ≡ Some h → h ≡ held_of o
unfolding verdict
held_is bytes o h is reads =
    let other : device_areas.verdict bytes ≡ Some (held_of o) = ap (λ r. option_map held_of (result_ok r)) is in
    cc

-- and lead to one network
pub now_is : (start : Network NodeState) (journal : List Entry) (least : ℕ) (bytes : List ℕ) (o : Opened) → verdict bytes ≡ Ok o → (r : RecoversTo t414 device_areas start journal least bytes)
    → (next_number r.held ≡ next_of o) × (after t414 start (take (next_of o) journal) ≡ Some o.now)
now_is start journal least bytes o is r =
    let same = held_is bytes o r.held is r.reads in
    let number : next_number r.held ≡ next_of o = ap (λ (h : Held NodeState). next_number h) same ∙ number_is o in
    let led : after t414 r.held.network r.held.entries ≡ Some o.now = ap (λ (h : Held NodeState). after t414 h.network h.entries) same ∙ verdict_leads bytes o is in
    let one : Some r.now ≡ Some o.now = sym r.replayed ∙ led in
    (number, ap (λ n. after t414 start (take n journal)) (sym number) ∙ r.exact ∙ one)

-- to which the entries below the mark lead, in the world that goes on from it
reopened_has : (start : Network NodeState) (before : World NodeState) (bytes : List ℕ) (o : Opened) → Began start before bytes → verdict bytes ≡ Ok o
    → after t414 start (take (next_of o) (reopened before bytes (held_of o) o.now).journal) ≡ Some o.now
reopened_has start before bytes o began is =
    let w : World NodeState = reopened before bytes (held_of o) o.now in
    let R = first_reached start before bytes began o is in
    let r = run_recovers t414 has_four_links never_marks device_areas (areas_keep t414 t414_ends) start R.events R.first w R.formatted R.run bytes (may_stand w.disk) in
    (now_is start w.journal 0 bytes o is (record {
      held = r.held;
      reads = r.reads;
      now = r.now;
      replayed = r.replayed;
      exact = r.exact;
      no_less = omega arith;
      no_more = r.no_more;
    })).1

-- ## As the flusher walks on

module _ (start : Network NodeState) (before : World NodeState) (bytes : List ℕ) (o : Opened) (began : Began start before bytes) (is : verdict bytes ≡ Ok o)
    (a b : Flushing) (first : a.world ≡ reopened before bytes (held_of o) o.now) (W : Walked a b) where
  there : Reached start a.world
  there = subst (Reached start) (sym first) (first_reached start before bytes began o is)

  mark_is : a.world.mark ≡ next_of o
  mark_is = ap (λ (w : World NodeState). w.mark) first ∙ number_is o

  had : after t414 start (take (next_of o) b.world.journal) ≡ Some o.now
  had =
      ap (λ n. after t414 start (take n b.world.journal)) (sym mark_is)
      ∙ ap (after t414 start) (walked_stays start a b there W).1
      ∙ ap (λ n. after t414 start (take n a.world.journal)) mark_is
      ∙ ap (λ (w : World NodeState). after t414 start (take (next_of o) w.journal)) first
      ∙ reopened_has start before bytes o began is

  -- what has all below a mark that is no less
  follows_from : (u : World NodeState) (mark least : ℕ) (left : List ℕ) → Reached start u → MayBe u.disk left → RecoversTo t414 device_areas start b.world.journal mark left → least ≤ mark → next_of o ≤ mark
      → Follows start b.world.journal least bytes left
  follows_from u mark least left reached may r low up = record {
    opened = o;
    reads = is;
    had = had;
    recovers = record {
      held = r.held;
      reads = r.reads;
      now = r.now;
      replayed = r.replayed;
      exact = r.exact;
      no_less = let most = r.no_less in omega (arith, low, most);
      no_more = r.no_more;
    };
    keeps = let most = r.no_less in omega (arith, up, most);
    world = u;
    begins = record { reached = reached; may = may };
  }

  -- what a crash leaves in a world on the way
  follows_at : (u : World NodeState) → RunLeads t414 device_areas a.world u → RunLeads t414 device_areas u b.world → (left : List ℕ) → MayBe u.disk left → Follows start b.world.journal 0 bytes left
  follows_at u earlier later left may =
      let r = recovers_at t414 device_areas has_four_links never_marks (areas_keep t414 t414_ends) start there.events there.first a.world there.formatted there.run u b.world earlier later left may in
      follows_from u a.world.mark 0 left (reached_then start a.world u there earlier) may r (omega arith) (let at = mark_is in omega (arith, at))

  -- at each moment
  pub walked_follows : LeavesOnly a.state b.state (Follows start b.world.journal 0 bytes)
  walked_follows = walks_leave t414 device_areas (Follows start b.world.journal 0 bytes) a.world b.world a.state b.state W (λ u earlier later left may. follows_at u earlier later left may)

  -- at the last one, up to the mark
  pub stored_follows : (next : ℕ) → next ≤ b.world.mark → (left : List ℕ) → MayBe b.state.now left → Follows start b.world.journal next bytes left
  stored_follows next low left may =
      let reached = reached_then start a.world b.world there (chain_leads t414 device_areas a.world b.world W.worlds W.chain) in
      let here : MayBe b.world.disk left = subst (λ m. MayBe m left) (sym W.now) may in
      let r =
      recovers_at t414 device_areas has_four_links never_marks (areas_keep t414 t414_ends) start reached.events reached.first b.world reached.formatted reached.run b.world b.world
      (no_step t414 device_areas b.world) (no_step t414 device_areas b.world) left here in
      follows_from b.world b.world.mark next left reached here r low (let at = mark_is in let up = (walked_stays start a b there W).0 in omega (arith, at, up))

-- ## Over a device that was read first

-- nothing else was done
pub read_alone : (start : Network NodeState) (journal : List Entry) (old new : State) → LeavesNothingNew old new → LeavesOnly old new (λ left. MayBe old.now left ⊎ Follows start journal 0 old.now.bytes left)
read_alone start journal old new L = weaker old new (MayBe old.now) _ (λ left may. inl may) L

-- something was walked
pub walked_either : (start : Network NodeState) (journal : List Entry) (old new : State) → LeavesOnly old new (Follows start journal 0 old.now.bytes)
    → LeavesOnly old new (λ left. MayBe old.now left ⊎ Follows start journal 0 old.now.bytes left)
walked_either start journal old new W = weaker old new (Follows start journal 0 old.now.bytes) _ (λ left f. inr f) W

-- a device was read, which left its bytes as they are, and was then written
pub read_first : (start : Network NodeState) (journal : List Entry) (old read new : State) → LeavesNothingNew old read → read.now.bytes ≡ old.now.bytes
    → LeavesOnly read new (λ left. MayBe read.now left ⊎ Follows start journal 0 read.now.bytes left) → LeavesOnly old new (λ left. MayBe old.now left ⊎ Follows start journal 0 old.now.bytes left)
read_first start journal old read new L same R =
    and_then old read new _ (read_alone start journal old read L)
    (weaker read new (λ left. MayBe read.now left ⊎ Follows start journal 0 read.now.bytes left) _
    (λ left either. elim either [ inl may ↦ inl (L.each left (inr may)) | inr f ↦ inr (subst (λ bytes. Follows start journal 0 bytes left) same f) ]) R)
