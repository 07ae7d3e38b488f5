-- A flusher that begins over a device that was opened.
use Rattle.std.proofs.Common.{◌≡◌, ℕ, ◌+◌, List, [], ◌∷◌, ◌++◌, length, refl, sym, ap, subst, ◌∙◌, Ok, Bool, false, arith}
use Rattle.tp_flush.proofs.Lower.{length-map, option_map, result_ok, Entry, NodeState, t414, Network, MarkedNetwork, next_number, State, Opened, held_of, next_of, verdict, Resting, device_areas, World, Reopens, CrashLeaves, reopened, verdict_leads, run_then, Place, RaiserValue, unrisen}
use Rattle.tp_flush.specs.Known.{Began, Reached}
use Rattle.tp_flush.specs.Risen.{HaveRisen}
use Rattle.tp_flush.specs.Flushing.{KeepsWorld, position}

next_of_held : (o : Opened) → next_of o ≡ next_number (held_of o)
next_of_held o = ap (λ n. o.base + n) (sym (length-map o.kept (λ e. e.0)))

-- a run leads to the world that goes on from what was opened
pub first_reached : (start : Network NodeState) (before : World NodeState) (bytes : List ℕ) → Began start before bytes → (o : Opened) → verdict bytes ≡ Ok o
    → Reached start (reopened before bytes (held_of o) o.now)
unfolding verdict
first_reached start before bytes B o is =
    let R = B.reached in
    let w : World NodeState = reopened before bytes (held_of o) o.now in
    let leaves : CrashLeaves t414 device_areas before.disk bytes (held_of o) o.now = record {
      may = B.may;
      reads = ap (λ r. option_map held_of (result_ok r)) is;
      is = verdict_leads bytes o is;
    } in
    record {
      first = R.first;
      events = R.events ++ Reopens bytes (held_of o) o.now ∷ [];
      formatted = R.formatted;
      run = run_then t414 device_areas R.first before w R.events (Reopens bytes (held_of o) o.now ∷ []) R.run (w, (leaves, refl), refl);
    }

-- the world of what was told of a book, over a device that was opened and synced
abbrev pub begun : World NodeState → MarkedNetwork NodeState → ℕ → List Entry → List ℕ → ℕ → World NodeState
begun before net base journal bytes next = record {
  net = net;
  base = base;
  journal = journal;
  disk = record { bytes = bytes; unsynced = [] };
  at = Resting;
  backlog = [];
  stored = next;
  mark = next;
  seen = before.seen;
}

module _ (before : World NodeState) (net : MarkedNetwork NodeState) (base : ℕ) (journal : List Entry) (o : Opened) (bytes : List ℕ) (next : ℕ)
    (net_is : net ≡ (reopened before bytes (held_of o) o.now).net) (base_is : base ≡ o.base) (journal_is : journal ≡ (reopened before bytes (held_of o) o.now).journal) (next_is : next ≡ next_of o) where
  pub begun_is : begun before net base journal bytes next ≡ reopened before bytes (held_of o) o.now
  begun_is = λ i. record {
    net = net_is i;
    base = base_is i;
    journal = journal_is i;
    disk = record { bytes = bytes; unsynced = [] };
    at = Resting;
    backlog = [];
    stored = (next_is ∙ next_of_held o) i;
    mark = (next_is ∙ next_of_held o) i;
    seen = before.seen;
  }

  pub first_keeps : (keeps : Type 0) (start : Network NodeState) (s : State) (place : Place) (broken : Bool) (mark : RaiserValue) → s.now.bytes ≡ bytes → place.next ≡ next → broken ≡ false → mark.at ≡ next → mark.rises ≡ unrisen next
      → (keeps → verdict s.now.bytes ≡ Ok o) → (keeps → s.now.unsynced ≡ [])
      → KeepsWorld keeps start before (record { world = begun before net base journal bytes next; opened = bytes }) s place broken mark
  first_keeps keeps start s place broken mark are at unbroken marked unraised read synced = record {
    next = at;
    cut = omega (arith, base_is, next_is);
    ends = omega (arith, base_is, next_is, next_of_held o, ap (λ (n : MarkedNetwork NodeState). length n.entries) net_is);
    mark = marked;
    at = ap position (sym unbroken);
    disk = λ k. λ i. record { bytes = sym are i; unsynced = sym (synced k) i };
    reached = λ k began. subst (Reached start) (sym begun_is) (first_reached start before bytes began o (ap verdict (sym are) ∙ read k));
    rises = λ k began. subst (HaveRisen start (begun before net base journal bytes next) s) (sym unraised) tt;
  }
