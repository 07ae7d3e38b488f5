-- Calls in order: where they lead, what breaks, and what a crash on the way may leave.
use Rattle.std.proofs.Common.{◌≡◌, ℕ, ◌+◌, ◌≤◌, ◌⊎◌, inl, inr, List, [], ◌∷◌, ◌++◌, length, drop, refl, sym, ap, subst, ◌∙◌, arith, append_assoc, length-append, Result, Ok, Err, OnOk, OnErr}
use Rattle.tp_disk.proofs.Lower.{append-nil, drop-append-le, drop-length, Moment, MayBe, IsOutside, Call, Write, Sync, Read, written, done, within, broken, SameOutside, State, MomentPassed, Fails, IsSynced, SomeMay, MayHaveLeft, moment, LeavesOnly, all_done, moments_of, Called, Broke}
use Rattle.tp_disk.specs.Laws.{IsMomentInside}
use Rattle.tp_disk.proofs.Moments.{may_within, write_may, may_write, broken_may, synced_may}

-- ## One call

-- after a call that was done, what a crash within it may leave
pub done_may : (m : Moment) (call : Call) (left : List ℕ) → IsMomentInside call m → MayBe (done call m) left → MayBe (within call m) left
done_may m (Write at bytes) left inside may = write_may m at bytes left inside may
done_may m Sync left inside may = record { same_length = may.same_length; same_outside = λ place out. may.same_outside place tt }
done_may m Read left inside may = may

-- so may one before it and one after it
pub before_or_after_may : (call : Call) (m : Moment) (left : List ℕ) → IsMomentInside call m → MayBe m left ⊎ MayBe (done call m) left → MayBe (within call m) left
before_or_after_may call m left inside (inl may) = may_within m call left may
before_or_after_may call m left inside (inr may) = done_may m call left inside may

-- and the other way round
pub may_before_or_after : (call : Call) (m : Moment) (left : List ℕ) → IsMomentInside call m → MayBe (within call m) left → MayBe m left ⊎ MayBe (done call m) left
may_before_or_after (Write at bytes) m left inside may = inr (may_write m at bytes left inside may)
may_before_or_after Sync m left inside may = inl may
may_before_or_after Read m left inside may = inl may

-- the moment after a call that failed
pub now_broken : (call : Call) (s t : State) → Fails call s t → t.now ≡ broken call t.now.bytes s.now
now_broken call s t failed = ap (λ (ranges : List (ℕ × ℕ)). let m : Moment = record { bytes = t.now.bytes; unsynced = ranges } in m) failed.unsynced

-- after a call, done or failed, what a crash within it may leave
pub after_may : {E : Type 0} (r : Result Unit E) (call : Call) (s t : State) (left : List ℕ) → IsMomentInside call s.now
    → OnOk r (t.now ≡ done call s.now) → OnErr r (Fails call s t) → MayBe t.now left → MayBe (within call s.now) left
after_may (Ok u) call s t left inside was failed may =
    done_may s.now call left inside (subst (λ (m : Moment). MayBe m left) was may)
after_may (Err e) call s t left inside was failed may =
    broken_may s.now call t.now.bytes left failed.content (subst (λ (m : Moment). MayBe m left) (now_broken call s t failed) may)

-- ## Several calls

pub all_done-append : (first second : List Call) (m : Moment) → all_done (first ++ second) m ≡ all_done second (all_done first m)
all_done-append [] second m = refl
all_done-append (call ∷ first) second m = all_done-append first second (done call m)

pub moments_of-append : (first second : List Call) (m : Moment)
    → moments_of (first ++ second) m ≡ moments_of first m ++ moments_of second (all_done first m)
moments_of-append [] second m = refl
moments_of-append (call ∷ first) second m = ap (λ ms. m ∷ ms) (moments_of-append first second (done call m))

pub called_one : (call : Call) (s t : State) → t.now ≡ done call s.now → MomentPassed s t → Called (call ∷ []) s t
called_one call s t was goes = record { now = was; past = goes }

pub called_then : (first second : List Call) (s t u : State) → Called first s t → Called second t u → Called (first ++ second) s u
called_then first second s t u one two = record {
  now = two.now ∙ ap (all_done second) one.now ∙ sym (all_done-append first second s.now);
  past = two.past ∙ ap (λ ms. ms ++ moments_of second t.now) one.past
      ∙ append_assoc s.past (moments_of first s.now) (moments_of second t.now)
      ∙ ap (λ (m : Moment). s.past ++ (moments_of first s.now ++ moments_of second m)) one.now
      ∙ ap (λ ms. s.past ++ ms) (sym (moments_of-append first second s.now));
}

pub broke_one : (call : Call) (s t : State) → MomentPassed s t → Fails call s t → Broke (call ∷ []) s t
broke_one call s t goes failed = record {
  at = record {
    before = [];
    call = call;
    after = [];
    are = refl;
    left = t.now.bytes;
    may = failed.content;
    is = now_broken call s t failed;
  };
  past = goes;
}

-- one of the first calls broke
pub broke_first : (first second : List Call) (s t : State) → Broke first s t → Broke (first ++ second) s t
broke_first first second s t broke =
    let b = broke.at in
    record {
      at = record {
        before = b.before;
        call = b.call;
        after = b.after ++ second;
        are = ap (λ calls. calls ++ second) b.are ∙ append_assoc b.before (b.call ∷ b.after) second;
        left = b.left;
        may = b.may;
        is = b.is;
      };
      past = broke.past;
    }

-- the moments before two runs of calls, one after the other
past_then : (past : List Moment) (first second : List Call) (m : Moment)
    → (past ++ moments_of first m) ++ moments_of second (all_done first m) ≡ past ++ moments_of (first ++ second) m
past_then past first second m =
    append_assoc past (moments_of first m) (moments_of second (all_done first m)) ∙ ap (λ ms. past ++ ms) (sym (moments_of-append first second m))

-- the first calls were done, and one of the second ones broke
pub broke_later : (first second : List Call) (s t u : State) → Called first s t → Broke second t u → Broke (first ++ second) s u
broke_later first second s t u one broke =
    let b = broke.at in
    let same : all_done b.before t.now ≡ all_done (first ++ b.before) s.now =
    ap (all_done b.before) one.now ∙ sym (all_done-append first b.before s.now) in
    let last : List Call = b.before ++ b.call ∷ [] in
    record {
      at = record {
        before = first ++ b.before;
        call = b.call;
        after = b.after;
        are = ap (λ calls. first ++ calls) b.are ∙ sym (append_assoc first b.before (b.call ∷ b.after));
        left = b.left;
        may = subst (λ (m : Moment). MayBe (within b.call m) b.left) same b.may;
        is = b.is ∙ ap (broken b.call b.left) same;
      };
      past = broke.past ∙ ap (λ ms. ms ++ moments_of last t.now) one.past
          ∙ ap (λ (m : Moment). (s.past ++ moments_of first s.now) ++ moments_of last m) one.now
          ∙ past_then s.past first last s.now
          ∙ ap (λ calls. s.past ++ moments_of calls s.now) (sym (append_assoc first b.before (b.call ∷ [])));
    }

-- ## What a crash on the way may leave

some_may-last : (ms : List Moment) (last : Moment) (left : List ℕ) → SomeMay (ms ++ last ∷ []) left → SomeMay ms left ⊎ MayBe last left
some_may-last [] last left (inl may) = inr may
some_may-last [] last left (inr more) = elim more [ ]
some_may-last (m ∷ ms) last left (inl may) = inl (inl may)
some_may-last (m ∷ ms) last left (inr more) =
    elim (some_may-last ms last left more) [ inl earlier ↦ inl (inr earlier) | inr may ↦ inr may ]

-- after one call more
pub since_before : (s t : State) (from : ℕ) (left : List ℕ) → from ≤ moment s → MomentPassed s t → MayHaveLeft t from left → MayHaveLeft s from left ⊎ MayBe t.now left
since_before s t from left le goes (inr now) = inr now
since_before s t from left le goes (inl past) =
    let parts : drop from t.past ≡ drop from s.past ++ s.now ∷ [] = ap (drop from) goes ∙ drop-append-le from s.past (s.now ∷ []) le in
    inl (some_may-last (drop from s.past) s.now left (subst (λ ms. SomeMay ms left) parts past))

-- no call yet
pub started : (s : State) (P : List ℕ → Type 0) → ((left : List ℕ) → MayBe s.now left → P left) → LeavesOnly s s P
started s P here = record {
  later = omega arith;
  each = λ left since. here left (only_now left since);
  before = λ from left le since. inl since;
}
  where
    only_now : (left : List ℕ) → MayHaveLeft s (moment s) left → MayBe s.now left
    only_now left (inr now) = now
    only_now left (inl past) = absurd (subst (λ ms. SomeMay ms left) (drop-length s.past) past)

-- one call more
pub goes_on : (s t u : State) (P : List ℕ → Type 0) → LeavesOnly s t P → MomentPassed t u → ((left : List ℕ) → MayBe u.now left → P left) → LeavesOnly s u P
goes_on s t u P only goes here = record {
  later = let first = only.later in let longer = ap length goes ∙ length-append t.past (t.now ∷ []) in omega (arith, longer);
  each = λ left since.
      elim (since_before t u (moment s) left only.later goes since) [ inl old ↦ only.each left old | inr now ↦ here left now ];
  before = λ from left le since.
      elim (since_before t u from left (let first = only.later in omega arith) goes since) [
        | inl old ↦ only.before from left le old
        | inr now ↦ inr (here left now)
      ];
}

-- one run of calls after another
pub and_then : (s t u : State) (P : List ℕ → Type 0) → LeavesOnly s t P → LeavesOnly t u P → LeavesOnly s u P
and_then s t u P one two = record {
  later = let first = one.later in let second = two.later in omega arith;
  each = λ left since. elim (two.before (moment s) left one.later since) [ inl old ↦ one.each left old | inr has ↦ has ];
  before = λ from left le since.
      elim (two.before from left (let first = one.later in omega arith) since) [ inl old ↦ one.before from left le old | inr has ↦ inr has ];
}

pub weaker : (s t : State) (P Q : List ℕ → Type 0) → ((left : List ℕ) → P left → Q left) → LeavesOnly s t P → LeavesOnly s t Q
weaker s t P Q imply only = record {
  later = only.later;
  each = λ left since. imply left (only.each left since);
  before = λ from left le since. elim (only.before from left le since) [ inl old ↦ inl old | inr has ↦ inr (imply left has) ];
}

-- one call, done or failed
pub call_leaves : {E : Type 0} (r : Result Unit E) (call : Call) (s t : State) → IsMomentInside call s.now → MomentPassed s t
    → OnOk r (t.now ≡ done call s.now) → OnErr r (Fails call s t) → LeavesOnly s t (MayBe (within call s.now))
call_leaves r call s t inside goes was failed =
    goes_on s s t (MayBe (within call s.now)) (started s (MayBe (within call s.now)) (may_within s.now call)) goes
    (λ left may. after_may r call s t left inside was failed may)

-- ## A write and a sync

-- if all was synced before, a crash within a write leaves what was there outside its range
pub same_outside_write : (m : Moment) (at : ℕ) (bytes left : List ℕ) → m.unsynced ≡ [] → MayBe (within (Write at bytes) m) left
    → SameOutside at (length bytes) m.bytes left
same_outside_write m at bytes left synced may = record {
  same_length = may.same_length;
  same = λ place out. may.same_outside place
      (subst (λ (ranges : List (ℕ × ℕ)). IsOutside (ranges ++ (at, length bytes) ∷ []) place) (sym synced) (out, tt));
}

-- the bytes after a write and a sync
pub written_through : (at : ℕ) (bytes : List ℕ) (s t : State) → Called (Write at bytes ∷ Sync ∷ []) s t
    → (t.now.bytes ≡ written s.now.bytes at bytes) × IsSynced t
written_through at bytes s t called = (ap (λ (m : Moment). m.bytes) called.now, ap (λ (m : Moment). m.unsynced) called.now)

-- if all is synced a crash leaves the bytes as they are
pub synced_stands : (s : State) (left : List ℕ) → IsSynced s → MayBe s.now left → left ≡ s.now.bytes
synced_stands s left synced may =
    synced_may s.now.bytes left (subst (λ (ranges : List (ℕ × ℕ)). let m : Moment = record { bytes = s.now.bytes; unsynced = ranges } in MayBe m left) synced may)

-- ## Steps of a write and a sync, over their results

-- a write that failed
pub write_broke : (at : ℕ) (bytes : List ℕ) (s t : State) → MomentPassed s t → Fails (Write at bytes) s t → Broke (Write at bytes ∷ Sync ∷ []) s t
write_broke at bytes s t goes failed = broke_first (Write at bytes ∷ []) (Sync ∷ []) s t (broke_one (Write at bytes) s t goes failed)

-- a sync that failed, after the write
pub sync_broke : (at : ℕ) (bytes : List ℕ) (s t u : State) → t.now ≡ done (Write at bytes) s.now → MomentPassed s t → MomentPassed t u → Fails Sync t u
    → Broke (Write at bytes ∷ Sync ∷ []) s u
sync_broke at bytes s t u was goes then failed =
    broke_later (Write at bytes ∷ []) (Sync ∷ []) s t u (called_one (Write at bytes) s t was goes) (broke_one Sync t u then failed)

-- the write was done, and then the sync was done or failed
pub through_leaves : {E : Type 0} (r : Result Unit E) (at : ℕ) (bytes : List ℕ) (s t u : State) → at + length bytes ≤ length s.now.bytes
    → t.now ≡ done (Write at bytes) s.now → MomentPassed s t → MomentPassed t u → OnOk r (u.now ≡ done Sync t.now) → OnErr r (Fails Sync t u)
    → LeavesOnly s u (MayBe (within (Write at bytes) s.now))
through_leaves {E} r at bytes s t u room was goes goes_then then failed =
    let P : List ℕ → Type 0 = MayBe (within (Write at bytes) s.now) in
    let unit_done : Result Unit E = Ok tt in
    let first = call_leaves unit_done (Write at bytes) s t room goes was tt in
    let second = call_leaves r Sync t u tt goes_then then failed in
    and_then s t u P first (weaker t u (MayBe t.now) P
    (λ left may. done_may s.now (Write at bytes) left room (subst (λ (m : Moment). MayBe m left) was may)) second)

-- ## Calls in order, with what a crash within each may leave

-- P holds of whatever a crash before the calls, within one of them or after them may leave
abbrev pub AllWithin : List Call → Moment → (List ℕ → Type 0) → Type 0
AllWithin [] m P = (left : List ℕ) → MayBe m left → P left
AllWithin (call ∷ calls) m P = ((left : List ℕ) → MayBe (within call m) left → P left) × AllWithin calls (done call m) P

-- before them
pub within_start : (calls : List Call) (m : Moment) (P : List ℕ → Type 0) → AllWithin calls m P → (left : List ℕ) → MayBe m left → P left
within_start [] m P all left may = all left may
within_start (call ∷ calls) m P all left may = all.0 left (may_within m call left may)

-- after some of them, and within the next
within_front : (first second : List Call) (m : Moment) (P : List ℕ → Type 0) → AllWithin (first ++ second) m P → AllWithin first m P
within_front [] second m P all = within_start second m P all
within_front (call ∷ first) second m P all = (all.0, within_front first second (done call m) P all.1)

within_later : (first second : List Call) (m : Moment) (P : List ℕ → Type 0) → AllWithin (first ++ second) m P → AllWithin second (all_done first m) P
within_later [] second m P all = all
within_later (call ∷ first) second m P all = within_later first second (done call m) P all.1

-- they were done
pub called_leaves : (calls : List Call) (s t : State) (P : List ℕ → Type 0) → Called calls s t → AllWithin calls s.now P → LeavesOnly s t P
called_leaves [] s t P called all =
    let past : t.past ≡ s.past = called.past ∙ append-nil s.past in
    let here : LeavesOnly s s P = started s P all in
    let now = subst (λ (m : Moment). let u : State = record { now = m; past = s.past } in LeavesOnly s u P) (sym called.now) here in
    subst (λ (ms : List Moment). let u : State = record { now = t.now; past = ms } in LeavesOnly s u P) (sym past) now
called_leaves (call ∷ calls) s t P called all =
    let u : State = record { now = done call s.now; past = s.past ++ s.now ∷ [] } in
    let first : LeavesOnly s u P = goes_on s s u P (started s P (within_start (call ∷ calls) s.now P all)) refl (within_start calls (done call s.now) P all.1) in
    let rest : Called calls u t = record { now = called.now; past = called.past ∙ sym (append_assoc s.past (s.now ∷ []) (moments_of calls (done call s.now))) } in
    and_then s u t P first (called_leaves calls u t P rest all.1)

-- one of them broke
pub broke_leaves : (calls : List Call) (s t : State) (P : List ℕ → Type 0) → Broke calls s t → AllWithin calls s.now P → LeavesOnly s t P
broke_leaves calls s t P broke all =
    let b = broke.at in
    let u : State = record { now = all_done b.before s.now; past = s.past ++ moments_of b.before s.now } in
    let each : AllWithin (b.before ++ b.call ∷ b.after) s.now P = subst (λ cs. AllWithin cs s.now P) b.are all in
    let first : LeavesOnly s u P = called_leaves b.before s u P (record { now = refl; past = refl }) (within_front b.before (b.call ∷ b.after) s.now P each) in
    let next = within_later b.before (b.call ∷ b.after) s.now P each in
    let goes : MomentPassed u t = broke.past ∙ sym (past_then s.past b.before (b.call ∷ []) s.now) in
    goes_on s u t P first goes
    (λ left may. next.0 left (broken_may u.now b.call b.left left b.may (subst (λ (m : Moment). MayBe m left) b.is may)))

-- each was done, or one of them broke
pub calls_leave : {T E : Type 0} (r : Result T E) (calls : List Call) (s t : State) (P : List ℕ → Type 0) → OnOk r (Called calls s t) → OnErr r (Broke calls s t)
    → AllWithin calls s.now P → LeavesOnly s t P
calls_leave (Ok x) calls s t P called broke all = called_leaves calls s t P called all
calls_leave (Err e) calls s t P called broke all = broke_leaves calls s t P broke all
