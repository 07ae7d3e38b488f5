-- The kept cut stays spelt and the device's head stays, whatever is appended, put into the other area, or read in the book.
use Rattle.std.proofs.Common.{◌≡◌, ℕ, ◌+◌, ◌≤◌, ◌<◌, List, [], ◌∷◌, length, refl, sym, ap, subst, ◌∙◌, Bool, true, false, Option, Some, None, Result, Ok, Err, OnOk, arith}
use Rattle.std.specs.Prelude.{not, if◌then◌else◌}
use Rattle.tp_flush.proofs.Lower.{AllByRecursion, Entry, TwoAreas, AREA_HEAD_BYTES, u8_at, NodeState, t414, t414_ends, Network, MarkedNetwork, Act, acted, happens, gate_closed, World, is_trim, area_start, areas_end, is_open, Moment, SameOutside, State, Called, clear_calls, put_calls, Opened, verdict, room, Topology, Place, StoreFault, Appended, body_of, if_open, other_gate, has_room_at, CanBeAppended, Told, IsFirst, ToldSince, start_stays, reads_of, bind_some, written_same_outside, CutSpelt}
use Rattle.tp_flush.specs.Flushing.{HeadSays, IsOfDevice}
use Rattle.tp_flush.proofs.Appends.{Answered, after_group}
use Rattle.tp_flush.proofs.Beside.{areas_fit, head_first, head_kept, put_same}
use Rattle.tp_flush.proofs.Closed.{closed_when, group_outside}
use Rattle.tp_flush.proofs.Looks.{copied, learned, raised}
use Rattle.tp_flush.proofs.Puts.{Answered as PutAnswered, after_put}

-- what is known of a device holds over a world with its kept cut, in its areas
pub same_device : (keeps : Type 0) (most : Option ℕ) (w v : World NodeState) (s new : State) (place to : Place) (broken broke : Bool) (t : Topology) → v.base ≡ w.base → v.net.start ≡ w.net.start → to.areas ≡ place.areas
    → (keeps → broke ≡ false → HeadSays t place.areas new.now.bytes) → IsOfDevice keeps most w s place broken t → IsOfDevice keeps most v new to broke t
same_device keeps most w v s new place to broken broke t base start areas head D = record {
  spelt = subst (λ (n : ℕ). CutSpelt t n v.net.start) (sym base) (subst (λ (net : Network NodeState). CutSpelt t w.base net) (sym start) D.spelt);
  bound = D.bound ∙ ap (λ (a : TwoAreas). Some (room t a.length)) (sym areas);
  head = λ k unbroken. subst (λ (a : TwoAreas). HeadSays t a new.now.bytes) (sym areas) (head k unbroken);
}

-- ## The opening

pub first_device : (keeps : Type 0) (most : Option ℕ) (w : World NodeState) (s : State) (place : Place) (broken : Bool) (t : Topology) (o : Opened) → t ≡ o.head.topology → place.areas ≡ o.head.areas → w.base ≡ o.base → w.net.start ≡ o.cut
    → CutSpelt o.head.topology o.base o.cut → most ≡ Some (room o.head.topology o.head.areas.length) → (keeps → verdict s.now.bytes ≡ Ok o) → IsOfDevice keeps most w s place broken t
unfolding verdict
first_device keeps most w s place broken t o topology areas base start spelt bound reads = record {
  spelt =
      subst (λ (u : Topology). CutSpelt u w.base w.net.start) (sym topology) (subst (λ (n : ℕ). CutSpelt o.head.topology n w.net.start) (sym base)
      (subst (λ (net : Network NodeState). CutSpelt o.head.topology o.base net) (sym start) spelt));
  bound = bound ∙ (λ i. Some (room (sym topology i) (sym areas i).length));
  head = λ k unbroken. record {
    version = o.head.version;
    is = (reads_of t414 t414_ends s.now.bytes o (reads k)).head ∙ (λ i. Ok (record { version = o.head.version; topology = sym topology i; areas = sym areas i }));
  };
}

-- ## Reading the book

pub start_since : (acts : List Act) (w v : MarkedNetwork NodeState) → AllByRecursion (λ act. is_trim act ≡ false) acts → acted t414 w acts ≡ Some v → v.start ≡ w.start
unfolding acted
start_since [] w v none e = let same : w ≡ v = cc in ap (λ (n : MarkedNetwork NodeState). n.start) (sym same)
start_since (act ∷ acts) w v none e =
    let B = bind_some (happens t414 w act) (λ u. acted t414 u acts) v e in
    start_since acts B.0 v none.1 B.2 ∙ start_stays t414 w B.0 act none.0 B.1

pub start_told : (w : World NodeState) (old now : Told) → IsFirst old w → ToldSince old now → now.net.start ≡ w.net.start
start_told w old now first since = start_since since.acts old.net now.net since.none since.net ∙ ap (λ (n : MarkedNetwork NodeState). n.start) first.net

module _ (keeps : Type 0) (most : Option ℕ) (w : World NodeState) (old now : Told) (s : State) (place : Place) (broken : Bool) (t : Topology) (first : IsFirst old w) (since : ToldSince old now) (D : IsOfDevice keeps most w s place broken t) where
  pub look_device : IsOfDevice keeps most (learned w now) s place broken t
  look_device = same_device keeps most w (learned w now) s s place place broken broken t (since.base ∙ first.base) (start_told w old now first since) refl D.head D

  pub copy_device : IsOfDevice keeps most (copied w now) s place broken t
  copy_device = same_device keeps most w (copied w now) s s place place broken broken t (since.base ∙ first.base) (start_told w old now first since) refl D.head D

pub raise_device : (keeps : Type 0) (most : Option ℕ) (w : World NodeState) (s : State) (place : Place) (broken : Bool) (t : Topology) → IsOfDevice keeps most w s place broken t → IsOfDevice keeps most (raised w) s place broken t
raise_device keeps most w s place broken t D = same_device keeps most w (raised w) s s place place broken broken t refl refl refl D.head D

-- ## A group

pub group_base : (broke : Bool) (next : ℕ) (w : World NodeState) (disk : Moment) → (after_group broke next w disk).base ≡ w.base
group_base true next w disk = refl
group_base false next w disk = refl

group_start : (broke : Bool) (next : ℕ) (w : World NodeState) (disk : Moment) → (after_group broke next w disk).net.start ≡ w.net.start
group_start true next w disk = refl
group_start false next w disk = refl

pub append_device : (keeps : Type 0) (most : Option ℕ) (w : World NodeState) (s new : State) (place to : Place) (t : Topology) (es : List Entry) (r : Result Unit StoreFault) (broke : Bool) (filled : Option Place) (failures_old failures_new : ℕ)
    → IsOfDevice keeps most w s place false t → Answered r es place to broke filled failures_old failures_new → CanBeAppended place.form place.next es → has_room_at place (length es) ≡ true
    → area_start place.areas place.second + AREA_HEAD_BYTES ≤ place.end → (keeps → areas_end place.areas ≤ length s.now.bytes) → (keeps → OnOk r (Appended es place s new))
    → IsOfDevice keeps most (after_group broke to.next w new.now) new to broke t
append_device keeps most w s new place to t es (Ok x) broke filled failures_old failures_new D A can fits low whole did =
    same_device keeps most w (after_group broke to.next w new.now) s new place to false broke t (group_base broke to.next w new.now) (group_start broke to.next w new.now) (ap (λ (q : Place). q.areas) A.done.0)
    (λ k unbroken.
    head_kept place.end (1 + length (body_of place.next es)) s.now.bytes new.now.bytes t place.areas (group_outside place s new es can fits low (whole k) (did k).called)
    (omega (arith, low, head_first place.areas place.second)) (D.head k refl)) D
append_device keeps most w s new place to t es (Err e) broke filled failures_old failures_new D A can fits low whole did =
    same_device keeps most w (after_group broke to.next w new.now) s new place to false broke t (group_base broke to.next w new.now) (group_start broke to.next w new.now) (ap (λ (q : Place). q.areas) A.failed.1)
    (λ k unbroken. let no = A.failed.2 in cc) D

-- ## Bytes in the other area

put_base : (broke : Bool) (w : World NodeState) (disk : Moment) → (after_put broke w disk).base ≡ w.base
put_base true w disk = refl
put_base false w disk = refl

put_start : (broke : Bool) (w : World NodeState) (disk : Moment) → (after_put broke w disk).net.start ≡ w.net.start
put_start true w disk = refl
put_start false w disk = refl

pub put_device : (keeps : Type 0) (most : Option ℕ) (w : World NodeState) (s new : State) (place to : Place) (t : Topology) (r : Result Unit StoreFault) (broke : Bool) (failures_old failures_new : ℕ)
    → IsOfDevice keeps most w s place false t → PutAnswered r broke failures_old failures_new → to ≡ place → (keeps → OnOk r (HeadSays t place.areas new.now.bytes))
    → IsOfDevice keeps most (after_put broke w new.now) new to broke t
put_device keeps most w s new place to t r broke failures_old failures_new D A same head =
    same_device keeps most w (after_put broke w new.now) s new place to false broke t (put_base broke w new.now) (put_start broke w new.now) (ap (λ (q : Place). q.areas) same)
    (λ k unbroken. closed_when r broke failures_old failures_new A (HeadSays t place.areas new.now.bytes) (head k) unbroken) D

-- the head, after a piece
pub piece_head : (place : Place) (at : ℕ) (bytes : List ℕ) (s new : State) (t : Topology) → areas_end place.areas ≤ length s.now.bytes → at + length bytes < place.areas.length
    → Called (put_calls ((other_gate place + 1 + at, bytes) ∷ [])) s new → HeadSays t place.areas s.now.bytes → HeadSays t place.areas new.now.bytes
piece_head place at bytes s new t whole small called is =
    head_kept (other_gate place + 1 + at) (length bytes) s.now.bytes new.now.bytes t place.areas (put_same place at bytes s new whole small called) (omega (arith, head_first place.areas (not place.second))) is

-- and after the other area's gate was closed, now or before
pub clear_head : (place : Place) (s new : State) (t : Topology) → areas_end place.areas ≤ length s.now.bytes → 1 ≤ place.areas.length
    → Called (clear_calls (if_open (other_gate place) s.now.bytes)) s new → HeadSays t place.areas s.now.bytes → HeadSays t place.areas new.now.bytes
clear_head place s new t whole some called is = go (is_open (u8_at s.now.bytes (other_gate place))) called
  where
    go : (found : Bool) → Called (clear_calls (if found then Some (other_gate place) else None)) s new → HeadSays t place.areas new.now.bytes
    go false did = subst (λ (m : Moment). HeadSays t place.areas m.bytes) (sym did.now) is
    go true did =
        let room = areas_fit place.areas (length s.now.bytes) (not place.second) whole in
        head_kept (other_gate place) 1 s.now.bytes new.now.bytes t place.areas
        (subst (SameOutside (other_gate place) 1 s.now.bytes) (sym (ap (λ (m : Moment). m.bytes) did.now)) (written_same_outside s.now.bytes (other_gate place) gate_closed (omega (arith, room, some))))
        (head_first place.areas (not place.second)) is
