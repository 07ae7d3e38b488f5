-- What a crash may leave at each position of the flusher and within each of its calls, and what holds after the call.
use Rattle.std.proofs.Common.{◌≡◌, ℕ, ◌⊎◌, inl, inr, List, refl, ap, subst, ◌∙◌, arith, Some}
use Rattle.tp_law_network.proofs.Lower.{Entry, Machine, Network, after, MayBe, Call, Sync, done, within, Areas, AreasHold, Held, with_more, ArePossible, Position, Resting, Body, Ready, Gate, Cleared, Tail, Opening, Opened, Broken, Allows, putting, syncing, looking, clearing, clear_done, add_body, body_done, add_gate, gate_done, tail_putting, tail_syncing, switching, switch_done, reached, left, World}
use Rattle.tp_law_network.specs.Standing.{RestsBetweenGroups}
use Rattle.tp_law_network.proofs.Moments.{synced_may}
use Rattle.tp_law_network.proofs.Device.{rests_may, put_may, put_done, rests_synced, clear_within, clear_written, clear_may, clear_synced, body_within, body_written, body_may, body_synced, ready_may, gate_within, gate_written, gate_may, gate_synced, switch_within, switch_written, switch_may, switch_synced}
use Rattle.tp_law_network.proofs.Prefix.{Copied, held_of, kept_stands, group_stands, group_possible, group_kept, copied_stands}
use Rattle.tp_law_network.proofs.Invariant.{Reads, KeptOf, CopiedOf, BeginsWith, At}

module _ {Node : Type 0} (M : Machine Node) (A : Areas Node) (law : AreasHold M A) (start : Network Node) (w : World Node) where
  -- what the device holds by the kept entries
  abbrev kept_held : KeptOf M start w → Held Node
  kept_held K = held_of w.net.start K.tail K.durable w.base

  kept_reads : (K : KeptOf M start w) (bytes : List ℕ) → A.verdict bytes ≡ Some (kept_held K) → Reads M A start w.journal w.stored bytes
  kept_reads K bytes is = record { held = kept_held K; is = is; stands = kept_stands M start w.net.start w.net.entries w.base w.journal w.stored w.backlog K }

  -- that, or with the group that is being written
  group_reads : (K : KeptOf M start w) (es : List Entry) → BeginsWith es w.backlog → (bytes : List ℕ)
      → (A.verdict bytes ≡ Some (kept_held K)) ⊎ (A.verdict bytes ≡ Some (with_more (kept_held K) es)) → Reads M A start w.journal w.stored bytes
  group_reads K es begins bytes (inl is) = kept_reads K bytes is
  group_reads K es begins bytes (inr is) = record {
    held = with_more (kept_held K) es;
    is = is;
    stands = group_stands M start w.net.start w.net.entries w.base w.journal w.stored w.backlog es begins.0 begins.1 K;
  }

  copy_reads : (copy : Held Node) (upto : ℕ) → CopiedOf M start w copy upto → (bytes : List ℕ) → A.verdict bytes ≡ Some copy → Reads M A start w.journal w.stored bytes
  copy_reads copy upto C bytes is = record {
    held = copy;
    is = is;
    stands = copied_stands M start w.net.start w.net.entries w.base w.journal w.stored w.net.snapshot copy upto C;
  }

  -- that, or the copy
  switch_reads : (K : KeptOf M start w) (copy : Held Node) (upto : ℕ) → CopiedOf M start w copy upto → (bytes : List ℕ)
      → (A.verdict bytes ≡ Some (kept_held K)) ⊎ (A.verdict bytes ≡ Some copy) → Reads M A start w.journal w.stored bytes
  switch_reads K copy upto C bytes (inl is) = kept_reads K bytes is
  switch_reads K copy upto C bytes (inr is) = copy_reads copy upto C bytes is

  -- once the other area's gate is synced, the copy is what is stored
  copy_stored : (copy : Held Node) (upto : ℕ) → CopiedOf M start w copy upto → Copied M start w.net.start w.net.entries w.base w.journal upto w.net.snapshot copy upto
  copy_stored copy upto C = record {
    counts = C.counts;
    whole = C.whole;
    before = C.before;
    first = C.first;
    since = C.since;
    own = C.own;
    all = C.all;
    number = C.number;
    count = C.count;
    there = C.there;
    network = C.network;
    tail = C.tail;
    size = C.size;
    same = C.same;
    order = C.order;
    no_less = let n = C.number in omega arith;
  }

  module _ (last : Network Node) (now : after M w.net.start w.net.entries ≡ Some last) where
    possible : (K : KeptOf M start w) (es : List Entry) → BeginsWith es w.backlog → ArePossible M (kept_held K) es
    possible K es begins = group_possible M start w.net.start w.net.entries w.base w.journal w.stored w.backlog es begins.0 begins.1 K last now

    -- ## What a crash leaves now

    pub reads_at : (pos : Position Node) → At M A start w pos → (bytes : List ℕ) → MayBe w.disk bytes → Reads M A start w.journal w.stored bytes
    reads_at Resting a bytes may = kept_reads a.0 bytes (rests_may M A law (kept_held a.0) w.disk a.1 bytes may)
    reads_at (Body place es) a bytes may = kept_reads a.0.0 bytes (body_may M A law (kept_held a.0.0) w.disk place es a.0.1 bytes may)
    reads_at (Ready place es) a bytes may = kept_reads a.0.0 bytes (ready_may M A law (kept_held a.0.0) w.disk place es a.0.1 bytes may)
    reads_at (Gate place es) a bytes may =
        group_reads a.0.0 es a.1 bytes (gate_may M A law (kept_held a.0.0) w.disk place es a.0.1 (possible a.0.0 es a.1) bytes may)
    reads_at Cleared a bytes may = kept_reads a.0 bytes (clear_may M A law (kept_held a.0) w.disk a.1 bytes may)
    reads_at (Tail copy upto) a bytes may = kept_reads a.0.0 bytes (rests_may M A law (kept_held a.0.0) w.disk a.0.1 bytes may)
    reads_at (Opening copy upto) a bytes may =
        switch_reads a.0.0 copy upto a.1 bytes (switch_may M A law (kept_held a.0.0) w.disk copy a.0.1 bytes may)
    reads_at (Opened copy upto) a bytes may =
        let stands = synced_may w.disk.bytes bytes (subst (λ ranges. MayBe (record { bytes = w.disk.bytes; unsynced = ranges }) bytes) a.1 may) in
        copy_reads copy upto a.2 bytes (ap A.verdict stands ∙ a.0)
    reads_at Broken a bytes may = a bytes may

    -- ## What a crash leaves within the next call

    pub reads_within : (from to : Position Node) (call : Call) → Allows A w.disk w.backlog from call to → At M A start w from
        → (bytes : List ℕ) → MayBe (within call w.disk) bytes → Reads M A start w.journal w.stored bytes
    reads_within from to call (putting at piece inside) a bytes may = kept_reads a.0 bytes (put_may M A law (kept_held a.0) w.disk a.1 at piece inside bytes may).0
    reads_within from to call syncing a bytes may = reads_at Resting a bytes may
    reads_within from to call looking a bytes may = reads_at Resting a bytes may
    reads_within from to call (clearing at was) a bytes may = kept_reads a.0 bytes (clear_within M A law (kept_held a.0) w.disk a.1 at was bytes may)
    reads_within from to call clear_done a bytes may = reads_at Cleared a bytes may
    reads_within from to call (add_body es more place body front spelt) a bytes may =
        kept_reads a.0 bytes (body_within M A law (kept_held a.0) w.disk a.1 place es body spelt bytes may)
    reads_within from to call (body_done es place) a bytes may = reads_at (Body place es) a bytes may
    reads_within from to call (add_gate es place) a bytes may =
        group_reads a.0.0 es a.1 bytes (gate_within M A law (kept_held a.0.0) w.disk place es a.0.1 (possible a.0.0 es a.1) bytes may)
    reads_within from to call (gate_done es place) a bytes may = reads_at (Gate place es) a bytes may
    reads_within from to call (tail_putting copy upto at piece inside) a bytes may =
        kept_reads a.0.0 bytes (put_may M A law (kept_held a.0.0) w.disk a.0.1 at piece inside bytes may).0
    reads_within from to call (tail_syncing copy upto) a bytes may = reads_at (Tail copy upto) a bytes may
    reads_within from to call (switching copy upto at synced other) a bytes may =
        switch_reads a.0.0 copy upto a.1 bytes (switch_within M A law (kept_held a.0.0) w.disk copy a.0.1 at synced other bytes may)
    reads_within from to call (switch_done copy upto) a bytes may = reads_at (Opening copy upto) a bytes may

    -- ## What holds after it

    pub done_at : (from to : Position Node) (call : Call) → Allows A w.disk w.backlog from call to → At M A start w from
        → At M A start (record w { disk = done call w.disk; at = to; stored = reached from w.stored; backlog = left from w.backlog }) to
    done_at from to call (putting at piece inside) a = (a.0, put_done M A law (kept_held a.0) w.disk a.1 at piece inside)
    done_at from to call syncing a = (a.0, rests_synced M A law (kept_held a.0) w.disk a.1)
    done_at from to call looking a = a
    done_at from to call (clearing at was) a = (a.0, clear_written M A law (kept_held a.0) w.disk a.1 at was)
    done_at from to call clear_done a = (a.0, clear_synced M A law (kept_held a.0) w.disk a.1)
    done_at from to call (add_body es more place body front spelt) a =
        ((a.0, body_written M A law (kept_held a.0) w.disk a.1 place es body spelt), (more, front))
    done_at from to call (body_done es place) a = ((a.0.0, body_synced M A law (kept_held a.0.0) w.disk place es a.0.1), a.1)
    done_at from to call (add_gate es place) a = ((a.0.0, gate_written M A law (kept_held a.0.0) w.disk place es a.0.1), a.1)
    done_at from to call (gate_done es place) a =
        group_kept M start w.net.start w.net.entries w.base w.journal w.stored w.backlog es a.1.0 a.1.1 a.0.0 (λ h. RestsBetweenGroups A h (done Sync w.disk))
        (gate_synced M A law (kept_held a.0.0) w.disk place es a.0.1 (possible a.0.0 es a.1))
    done_at from to call (tail_putting copy upto at piece inside) a = ((a.0.0, put_done M A law (kept_held a.0.0) w.disk a.0.1 at piece inside), a.1, a.2)
    done_at from to call (tail_syncing copy upto) a = ((a.0.0, rests_synced M A law (kept_held a.0.0) w.disk a.0.1), a.1, a.2)
    done_at from to call (switching copy upto at synced other) a = ((a.0.0, switch_written M A law (kept_held a.0.0) w.disk copy a.0.1 at synced other), a.1, a.2)
    done_at from to call (switch_done copy upto) a = (switch_synced M A law (kept_held a.0.0) w.disk copy a.0.1, refl, copy_stored copy upto a.1, a.2, refl)
