-- A device in memory keeps the model, whatever its plan.
use Rattle.std.proofs.Common.{◌≡◌, ℕ, ◌+◌, ◌≤◌, false, Result, Ok, Err, OnErr, is_ok, List, length, take, sym, ap, subst, arith}
use Rattle.tp_disk.proofs.Lower.{length-take, Moment, MayBe, Call, Write, Sync, Read, written, within, broken, State, Fails}
use Rattle.tp_disk.specs.declared.plan.Outcome.{Outcome}
use Rattle.tp_disk.specs.declared.plan.Outcome.TheVariants.{Done, Refused, Torn}
use Rattle.tp_disk.specs.Laws.{IsMomentInside}
use Rattle.tp_disk.specs.Plan.{torn_over}
use Rattle.tp_disk.specs.Memory.{CameTo}
use Rattle.tp_disk.proofs.Moments.{length-written, get_or-written_outside, outside_each, outside_inner, may_stand, may_within}

-- fewer bytes put into a write's range
pub may_be_torn : (m : Moment) (at : ℕ) (bytes torn : List ℕ) → at + length bytes ≤ length m.bytes → length torn ≤ length bytes
    → MayBe (within (Write at bytes) m) (written m.bytes at torn)
may_be_torn m at bytes torn room fits =
    let inside : at + length torn ≤ length m.bytes = omega arith in
    record {
      same_length = length-written m.bytes at torn inside;
      same_outside = λ place out. get_or-written_outside m.bytes at torn inside place
          (outside_inner (at, length bytes) (at, length torn) place (omega arith, omega arith)
          (outside_each m.unsynced (at, length bytes) place out).1);
    }

torn_may : (m : Moment) (call : Call) (torn : List ℕ) → IsMomentInside call m → MayBe (within call m) (torn_over call torn m.bytes)
torn_may m (Write at bytes) torn inside = may_be_torn m at bytes (take (length bytes) torn) inside (omega (arith, length-take (length bytes) torn))
torn_may m Sync torn inside = may_stand m
torn_may m Read torn inside = may_stand m

-- a call that broke, with the bytes that it left
broke : (call : Call) (left : List ℕ) (s t : State) → t.now ≡ broken call left s.now → MayBe (within call s.now) left → Fails call s t
broke call left s t is may = record {
  unsynced = ap (λ (m : Moment). m.unsynced) is;
  content = subst (λ bytes. MayBe (within call s.now) bytes) (sym (ap (λ (m : Moment). m.bytes) is)) may;
}

-- a call that wasn't done failed as the model says
pub came_failed : (outcome : Outcome) (call : Call) (s t : State) → IsMomentInside call s.now → CameTo outcome call false s t → Fails call s t
came_failed Done call s t inside came = absurd (let is = came.result in cc)
came_failed Refused call s t inside came = broke call s.now.bytes s t came.now (may_within s.now call s.now.bytes (may_stand s.now))
came_failed (Torn torn) call s t inside came = broke call (torn_over call torn.items s.now.bytes) s t came.now (torn_may s.now call torn.items inside)

pub failed_as_planned : {E : Type 0} (r : Result Unit E) (outcome : Outcome) (call : Call) (s t : State) → IsMomentInside call s.now
    → CameTo outcome call (is_ok r) s t → OnErr r (Fails call s t)
failed_as_planned (Ok u) outcome call s t inside came = tt
failed_as_planned (Err e) outcome call s t inside came = came_failed outcome call s t inside came
