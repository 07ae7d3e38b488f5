-- How groups, and turns, ended.
use Rattle.std.proofs.Common.{◌≡◌, ℕ, ◌+◌, List, length, inl, refl, sym, ap, subst, ◌∙◌, Bool, true, false, Option, Result, Ok, Err, MatchResult, arith, ◌-◌}
use Rattle.std.specs.Prelude.{IfOk, drop}
use Rattle.tp_flush.proofs.Lower.{Entry, NodeState, Moment, Position, Resting, Broken, World, Place, StoreFault}
use Rattle.tp_flush.specs.declared.fault.FlushFault.{FlushFault}
use Rattle.tp_flush.specs.declared.fault.FlushFault.TheVariants.{AreaFull, DeviceFailed, Memory, StoreBroken}
use Rattle.tp_flush.specs.Flushing.{Flushing, OnlyLooked, position}
use Rattle.tp_flush.specs.Ends.{Ended, Failed, Stored, Waits}
use Rattle.tp_flush.proofs.Appends.{Answered, after_group, appended, failed_at}

pub if_ok_three : {A E : Type 0} (P Q R S : A → Type 0) (r : Result A E) → ((x : A) → P x → Q x → R x → S x) → IfOk r P → IfOk r Q → IfOk r R → IfOk r S
if_ok_three P Q R S (Ok x) three p q r = three x p q r
if_ok_three P Q R S (Err e) three p q r = tt

-- what rests isn't broken
pub never_both : {P : Type 0} (pos : Position NodeState) → pos ≡ Resting → pos ≡ Broken → P
never_both pos rests broken = cc

-- only a failure has the position of a failure
pub broken_at : (failed : Bool) → position failed ≡ Broken → failed ≡ true
broken_at true is = refl
broken_at false is = never_both (position false) refl is

pub waits_still : (a : Flushing) → a.world.at ≡ Resting → Waits a a
waits_still a rests = record { rested = record { began = rests; rests = rests; failures = refl }; mark = refl; generation = refl }

pub looked_waits : (a b : Flushing) → a.world.at ≡ Resting → OnlyLooked a b → b.world.mark ≡ a.world.mark → Waits a b
looked_waits a b rests L mark = record { rested = record { began = rests; rests = L.at ∙ rests; failures = L.failures }; mark = mark; generation = ap (λ (p : Place). p.generation) L.place }

pub waits_then : (a b c : Flushing) → Waits a b → Waits b c → Waits a c
waits_then a b c first then = record {
  rested = record { began = first.rested.began; rests = then.rested.rests; failures = then.rested.failures ∙ first.rested.failures };
  mark = then.mark ∙ first.mark;
  generation = then.generation ∙ first.generation;
}

pub failed_then : (a b c : Flushing) → Waits a b → Failed b c → Failed a c
failed_then a b c first then = record {
  began = first.rested.began;
  broken = then.broken;
  failures = then.failures ∙ ap (λ n. n + 1) first.rested.failures;
  mark = then.mark ∙ first.mark;
  generation = then.generation ∙ first.generation;
}

-- a fault after groups that were stored
pub stored_then : (q : Result Unit FlushFault) (fault : FlushFault) → q ≡ Err fault → (one all : ℕ) (a b c : Flushing) → Waits a b → Stored (Err fault) one b c → Stored q all a c
stored_then q fault is one all a b c first then = subst (λ (x : Result Unit FlushFault). Stored x all a c) (sym is) (by fault then)
  where
    by : (fault : FlushFault) → Stored (Err fault) one b c → Stored (Err fault) all a c
    by DeviceFailed then = failed_then a b c first then
    by StoreBroken then = then
    by Memory then = then
    by AreaFull then = waits_then a b c first then

-- a turn that ended with a fault of the store
pub stored_ended : {A : Type 0} (q : Result A FlushFault) (fault : FlushFault) → q ≡ Err fault → (count : ℕ) (a b c : Flushing) → Waits a b → Stored (Err fault) count b c → Ended q a c
stored_ended {A} q fault is count a b c first then = subst (λ (x : Result A FlushFault). Ended x a c) (sym is) (by fault then)
  where
    by : (fault : FlushFault) → Stored (Err fault) count b c → Ended {A = A} (Err fault) a c
    by DeviceFailed then = inl (failed_then a b c first then)
    by StoreBroken then = absurd then
    by Memory then = absurd then
    by AreaFull then = waits_then a b c first then

-- a group, as the store answers
pub group_stored : (r : Result Unit StoreFault) (q : Result Unit FlushFault) → MatchResult r (λ unit. q ≡ Ok unit) (λ fault. q ≡ Err DeviceFailed)
    → (es : List Entry) (place to : Place) (broke : Bool) (filled : Option Place) (a b : Flushing) (disk : Moment) → a.world.at ≡ Resting → place.next ≡ a.world.stored
    → Answered r es place to broke filled a.failures b.failures → b.world ≡ after_group broke to.next a.world disk
    → a.place ≡ place → b.place ≡ to → Stored q (length es) a b
group_stored (Ok unit) q is es place to broke filled a b disk rests next A after was now =
    let world : b.world ≡ appended to.next a.world disk = after ∙ ap (λ failed. after_group failed to.next a.world disk) A.done.1 in
    let number : to.next ≡ a.world.stored + length es = ap (λ (p : Place). p.next) A.done.0 ∙ ap (λ n. n + length es) next in
    let count : to.next - a.world.stored ≡ length es = omega (arith, number) in
    let waits : Waits a b = record {
      rested = record { began = rests; rests = ap (λ (w : World NodeState). w.at) world ∙ rests; failures = A.done.3 };
      mark = ap (λ (w : World NodeState). w.mark) world;
      generation = ap (λ (p : Place). p.generation) (now ∙ A.done.0) ∙ ap (λ (p : Place). p.generation) (sym was);
    } in
    subst (λ (x : Result Unit FlushFault). Stored x (length es) a b) (sym is)
    (waits, ap (λ (w : World NodeState). w.stored) world ∙ number, ap (λ (w : World NodeState). w.backlog) world ∙ ap (λ n. drop n a.world.backlog) count)
group_stored (Err fault) q is es place to broke filled a b disk rests next A after was now =
    let world : b.world ≡ failed_at a.world disk = after ∙ ap (λ failed. after_group failed to.next a.world disk) A.failed.2 in
    let failed : Failed a b = record {
      began = rests;
      broken = ap (λ (w : World NodeState). w.at) world;
      failures = A.failed.3;
      mark = ap (λ (w : World NodeState). w.mark) world;
      generation = ap (λ (p : Place). p.generation) (now ∙ A.failed.1 ∙ sym was);
    } in
    subst (λ (x : Result Unit FlushFault). Stored x (length es) a b) (sym is) failed
