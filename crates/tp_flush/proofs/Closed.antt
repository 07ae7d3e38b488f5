-- The other area stays closed, whatever is appended to the open one or put after its gate.
use Rattle.std.proofs.Common.{◌≡◌, ◌≢◌, ◌⊎◌, inl, inr, ℕ, zero, suc, ◌+◌, ◌-◌, ◌<◌, ◌≤◌, List, [], ◌∷◌, length, get_or, refl, sym, ap, subst, ◌∙◌, Bool, true, false, Option, Some, None, Result, Ok, Err, OnOk, arith, get_or-set_other}
use Rattle.std.specs.Prelude.{not, if◌then◌else◌, replicate}
use Rattle.tp_flush.proofs.Lower.{eqb_tells, ltb-true, true≢false, Entry, TwoAreas, AREA_HEAD_BYTES, MAX_NODES, u8_at, NodeState, MarkedNetwork, IsFrozenAs, World, gate_closed, area_start, areas_end, content_of, is_open, Moment, SameOutside, State, Called, clear_calls, group_calls, put_calls, group_length, image_length, is_roomy, Topology, piece_place, Place, StoreFault, Appended, body_of, OtherIsClosed, if_open, other_gate, behind_group, has_room_at, content_beside, CanBeAppended, length-body, gate_same, Told, IsFirst, ToldSince, length-content_of, written_same_outside, frozen_since}
use Rattle.tp_flush.specs.declared.progress.Progress.{Progress}
use Rattle.tp_flush.specs.Progress.{is_out, not_begun, with_out}
use Rattle.tp_flush.specs.Copying.{IsPartOut}
use Rattle.tp_flush.specs.Flushing.{KeepsCopy}
use Rattle.tp_flush.proofs.Appends.{Answered, after_group}
use Rattle.tp_flush.proofs.Beside.{areas_fit, content_kept, put_content}
use Rattle.tp_flush.proofs.Puts.{Answered as PutAnswered, image_inside}
use Rattle.tp_flush.proofs.Standing.{other_kept}

-- ## A group

-- it is apart from the other area
apart : (areas : TwoAreas) (second : Bool) (end size : ℕ) → area_start areas second + AREA_HEAD_BYTES ≤ end → end + size < area_start areas second + areas.length
    → (area_start areas (not second) + areas.length ≤ end) ⊎ (end + (1 + size) ≤ area_start areas (not second))
apart areas false end size low high = inr (omega (arith, high))
apart areas true end size low high = inl (omega (arith, low))

ends_inside : (areas : TwoAreas) (second : Bool) (end size long : ℕ) → end + size < area_start areas second + areas.length → areas_end areas ≤ long → end + 1 + size ≤ long
ends_inside areas false end size long high whole = omega (arith, high, whole)
ends_inside areas true end size long high whole = omega (arith, high, whole)

module _ (place : Place) (s new : State) (es : List Entry) (can : CanBeAppended place.form place.next es) (fits : has_room_at place (length es) ≡ true)
    (low : area_start place.areas place.second + AREA_HEAD_BYTES ≤ place.end) (whole : areas_end place.areas ≤ length s.now.bytes)
    (called : Called (group_calls place.end (body_of place.next es)) s new) where
  size : length (body_of place.next es) ≡ group_length (length es)
  size = length-body place.form place.next es can

  high : place.end + group_length (length es) < area_start place.areas place.second + place.areas.length
  high = ltb-true (place.end + group_length (length es)) (area_start place.areas place.second + place.areas.length) fits

  pub group_outside : SameOutside place.end (1 + length (body_of place.next es)) s.now.bytes new.now.bytes
  group_outside =
      let fit = ends_inside place.areas place.second place.end (group_length (length es)) (length s.now.bytes) high whole in
      subst (SameOutside place.end (1 + length (body_of place.next es)) s.now.bytes) (sym (ap (λ (m : Moment). m.bytes) called.now))
      (gate_same s.now.bytes place.end (body_of place.next es) (omega (arith, fit, size)))

  group_apart : (other_gate place + place.areas.length ≤ place.end) ⊎ (place.end + (1 + length (body_of place.next es)) ≤ other_gate place)
  group_apart =
      subst (λ n. (other_gate place + place.areas.length ≤ place.end) ⊎ (place.end + (1 + n) ≤ other_gate place)) (sym size)
      (apart place.areas place.second place.end (group_length (length es)) low high)

  some : 1 ≤ place.areas.length
  some = omega (arith, low, high)

  pub closed_behind : OtherIsClosed place s → OtherIsClosed (behind_group place (length es)) new
  closed_behind shut = ap is_open (group_outside.same (other_gate place) (side group_apart)) ∙ shut
    where
      side : (other_gate place + place.areas.length ≤ place.end) ⊎ (place.end + (1 + length (body_of place.next es)) ≤ other_gate place)
          → (other_gate place < place.end) ⊎ (place.end + (1 + length (body_of place.next es)) ≤ other_gate place)
      side (inl front) = inl (omega (arith, front, some))
      side (inr from) = inr from

  pub content_behind : content_beside place new ≡ content_beside place s
  content_behind = content_kept place place.end (1 + length (body_of place.next es)) s new group_outside (side group_apart) some
    where
      side : (other_gate place + place.areas.length ≤ place.end) ⊎ (place.end + (1 + length (body_of place.next es)) ≤ other_gate place)
          → (place.end + (1 + length (body_of place.next es)) ≤ other_gate place + 1) ⊎ (other_gate place + place.areas.length ≤ place.end)
      side (inl front) = inr front
      side (inr from) = inl (omega (arith, from))

-- what the flusher keeps for a snapshot's copy, after a group that was appended or failed
pub append_copies : (keeps : Type 0) (net : MarkedNetwork NodeState) (s new : State) (place to : Place) (t : Topology) (p : Progress) (es : List Entry) (r : Result Unit StoreFault) (broke : Bool) (filled : Option Place) (failures_old failures_new : ℕ)
    → KeepsCopy keeps net s place false t p → Answered r es place to broke filled failures_old failures_new → CanBeAppended place.form place.next es → has_room_at place (length es) ≡ true
    → area_start place.areas place.second + AREA_HEAD_BYTES ≤ place.end → (keeps → areas_end place.areas ≤ length s.now.bytes) → (keeps → OnOk r (Appended es place s new))
    → KeepsCopy keeps net new to broke t p
append_copies keeps net s new place to t p es (Ok x) broke filled failures_old failures_new C A can fits low whole did = record {
  roomy = ap (λ (q : Place). is_roomy t q.areas.length) A.done.0 ∙ C.roomy;
  closed = λ k unbroken cleared.
      subst (λ (q : Place). OtherIsClosed q new) (sym A.done.0)
      (let D = did k in closed_behind place s new es can fits low (whole k) D.called (C.closed k refl cleared));
  images = λ k unbroken i there out.
      let D = did k in
      subst (λ (q : Place). IsPartOut t net (content_beside q new) i (get_or t.pages i 0)) (sym A.done.0)
      (subst (λ xs. IsPartOut t net xs i (get_or t.pages i 0)) (sym (content_behind place s new es can fits low (whole k) D.called)) (C.images k refl i there out));
}
append_copies keeps net s new place to t p es (Err e) broke filled failures_old failures_new C A can fits low whole did = record {
  roomy = ap (λ (q : Place). is_roomy t q.areas.length) A.failed.1 ∙ C.roomy;
  closed = λ k unbroken cleared. let no = A.failed.2 in cc;
  images = λ k unbroken. let no = A.failed.2 in cc;
}

pub group_net : (broke : Bool) (next : ℕ) (w : World NodeState) (disk : Moment) → (after_group broke next w disk).net ≡ w.net
group_net true next w disk = refl
group_net false next w disk = refl

-- ## Bytes after the other area's gate

pub closed_when : (r : Result Unit StoreFault) (broke : Bool) (failures_old failures_new : ℕ) → PutAnswered r broke failures_old failures_new → (X : Type 0) → OnOk r X → broke ≡ false → X
closed_when (Ok x) broke failures_old failures_new A X is unbroken = is
closed_when (Err e) broke failures_old failures_new A X is unbroken = let no = A.failed.0 in cc

pub put_copies : (keeps : Type 0) (net : MarkedNetwork NodeState) (new : State) (place to : Place) (t : Topology) (p : Progress) (r : Result Unit StoreFault) (broke : Bool) (failures_old failures_new : ℕ)
    → is_roomy t place.areas.length ≡ true → PutAnswered r broke failures_old failures_new → to ≡ place → (keeps → OnOk r (OtherIsClosed place new))
    → (keeps → OnOk r ((i : ℕ) → i < length t.pages → is_out p i ≡ true → IsPartOut t net (content_beside place new) i (get_or t.pages i 0))) → KeepsCopy keeps net new to broke t p
put_copies keeps net new place to t p r broke failures_old failures_new roomy A same shut images = record {
  roomy = ap (λ (q : Place). is_roomy t q.areas.length) same ∙ roomy;
  closed = λ k unbroken cleared. subst (λ (q : Place). OtherIsClosed q new) (sym same) (closed_when r broke failures_old failures_new A (OtherIsClosed place new) (shut k) unbroken);
  images = λ k unbroken i there out.
      subst (λ (q : Place). IsPartOut t net (content_beside q new) i (get_or t.pages i 0)) (sym same)
      (closed_when r broke failures_old failures_new A ((i : ℕ) → i < length t.pages → is_out p i ≡ true → IsPartOut t net (content_beside place new) i (get_or t.pages i 0)) (images k) unbroken i there out);
}

-- the other area's gate is closed, or was closed: its content stays
pub clear_content : (place : Place) (s new : State) → areas_end place.areas ≤ length s.now.bytes → 1 ≤ place.areas.length
    → Called (clear_calls (if_open (other_gate place) s.now.bytes)) s new → content_beside place new ≡ content_beside place s
clear_content place s new whole some called = go (is_open (u8_at s.now.bytes (other_gate place))) called
  where
    go : (found : Bool) → Called (clear_calls (if found then Some (other_gate place) else None)) s new → content_beside place new ≡ content_beside place s
    go false did = ap (λ (m : Moment). content_of place.areas (not place.second) m.bytes) did.now
    go true did =
        let room = areas_fit place.areas (length s.now.bytes) (not place.second) whole in
        content_kept place (other_gate place) 1 s new
        (subst (SameOutside (other_gate place) 1 s.now.bytes) (sym (ap (λ (m : Moment). m.bytes) did.now)) (written_same_outside s.now.bytes (other_gate place) gate_closed (omega (arith, room, some))))
        (inl (omega arith)) some

-- a piece that was put leaves the images of other nodes
pub piece_images : (t : Topology) (net : MarkedNetwork NodeState) (place : Place) (s new : State) (node at : ℕ) (bytes : List ℕ) (p : Progress) → areas_end place.areas ≤ length s.now.bytes
    → is_roomy t place.areas.length ≡ true → node < length t.pages → piece_place t node 0 ≤ at → at + length bytes ≤ piece_place t node 0 + image_length (get_or t.pages node 0) → is_out p node ≡ false
    → Called (put_calls ((other_gate place + 1 + at, bytes) ∷ [])) s new
    → ((i : ℕ) → i < length t.pages → is_out p i ≡ true → IsPartOut t net (content_beside place s) i (get_or t.pages i 0))
    → (i : ℕ) → i < length t.pages → is_out p i ≡ true → IsPartOut t net (content_beside place new) i (get_or t.pages i 0)
piece_images t net place s new node at bytes p whole roomy there from until free called images i i_there out =
    let inside = image_inside t place.areas.length node roomy there in
    let size : length (content_beside place s) ≡ place.areas.length - 1 = length-content_of place.areas (not place.second) s.now.bytes (areas_fit place.areas (length s.now.bytes) (not place.second) whole) in
    let other : i ≢ node = λ same. true≢false (sym out ∙ ap (is_out p) same ∙ free) in
    subst (λ xs. IsPartOut t net xs i (get_or t.pages i 0)) (sym (put_content place at bytes s new whole (omega (arith, inside, until)) called))
    (other_kept t net (content_beside place s) at bytes (omega (arith, inside, until, size)) i node other i_there there from until (images i i_there out))

-- ## Looks at the book

pub frozen_told : (w : World NodeState) (old now : Told) → IsFirst old w → ToldSince old now → (i : ℕ) (node : NodeState) → IsFrozenAs w.net i node → IsFrozenAs now.net i node
frozen_told w old now first since i node F = frozen_since since.acts old.net now.net since.none since.net i node (subst (λ n. IsFrozenAs n i node) (sym first.net) F)

pub look_copies : (keeps : Type 0) (w : World NodeState) (old now : Told) (s : State) (place : Place) (broken : Bool) (t : Topology) (p : Progress) → IsFirst old w → ToldSince old now
    → KeepsCopy keeps w.net s place broken t p → KeepsCopy keeps now.net s place broken t p
look_copies keeps w old now s place broken t p first since C = record {
  roomy = C.roomy;
  closed = C.closed;
  images = λ k unbroken i there out.
      let P = C.images k unbroken i there out in
      record { node = P.node; frozen = frozen_told w old now first since i P.node P.frozen; long = P.long; head = P.head; pages = P.pages };
}

-- ## Which images are out

none_set : (n i : ℕ) → get_or (replicate n false) i false ≡ false
none_set zero i = refl
none_set (suc n) zero = refl
none_set (suc n) (suc i) = none_set n i

pub none_out : (p : Progress) → p ≡ not_begun → (i : ℕ) → is_out p i ≡ false
none_out p is i = ap (λ q. is_out q i) is ∙ none_set MAX_NODES i

pub out_more : (keeps : Type 0) (net : MarkedNetwork NodeState) (s : State) (place : Place) (broken : Bool) (t : Topology) (p : Progress) (node : ℕ) → KeepsCopy keeps net s place broken t p
    → (keeps → IsPartOut t net (content_beside place s) node (get_or t.pages node 0)) → KeepsCopy keeps net s place broken t (with_out p node)
out_more keeps net s place broken t p node C stands = record {
  roomy = C.roomy;
  closed = C.closed;
  images = λ k unbroken i there out. elim (eqb_tells i node) [
    | inl same ↦ subst (λ (j : ℕ). IsPartOut t net (content_beside place s) j (get_or t.pages j 0)) (sym same.1) (stands k)
    | inr other ↦ C.images k unbroken i there (sym (get_or-set_other p.out node i true false other.1) ∙ out)
  ];
}

-- a place in the content of the other area
pub piece_room : (place : Place) (s : State) (end : ℕ) → areas_end place.areas ≤ length s.now.bytes → end < place.areas.length → end ≤ length (content_beside place s)
piece_room place s end whole inside = omega (arith, inside, length-content_of place.areas (not place.second) s.now.bytes (areas_fit place.areas (length s.now.bytes) (not place.second) whole))
