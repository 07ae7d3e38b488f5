-- Parts of a turn, one after the other.
use Rattle.std.proofs.Common.{◌≡◌, ℕ, ◌≤◌, ◌+◌, inr, sym, subst, refl, ◌∙◌, ap, Bool, true, false, Result, Ok, Err, arith}
use Rattle.tp_flush.proofs.Lower.{AreTrue, same_kept, NodeState, IsFrozenAs, Network, t414, State, device_areas, Walks, Resting, World, Place}
use Rattle.tp_flush.specs.declared.fault.FlushFault.{FlushFault}
use Rattle.tp_flush.specs.declared.fault.FlushFault.TheVariants.{AreaFull, DeviceFailed, Memory, StoreBroken}
use Rattle.tp_flush.specs.declared.progress.Progress.{Progress}
use Rattle.tp_flush.specs.Known.{Began}
use Rattle.tp_flush.specs.Flushing.{Flushing, FlushedOn, IsSameProcess, OnlyLooked}
use Rattle.tp_flush.specs.Ends.{Checkpointed, Ended, Rested, Tried, Waits, WaitsBehind, NothingStored, WentOn, generation_after}
use Rattle.tp_flush.proofs.Kept.{looked_walks}
use Rattle.tp_flush.proofs.Endings.{failed_then, looked_waits, waits_still, waits_then}
use Rattle.tp_flush.proofs.Turns.{walked_nowhere, walked_then}

module _ (start : Network NodeState) (before : World NodeState) where
  pub goes_still : (a : Flushing) → (AreTrue a.reads → a.world.disk ≡ a.state.now) → FlushedOn start before a a
  goes_still a was = record { premise = λ are. are; walks = λ k began. walked_nowhere a (was k); process = record { opened = refl; size = refl; topology = refl } }

  -- the world of the device stayed as it was
  pub goes_marked : (a b : Flushing) → (AreTrue a.reads → a.world.disk ≡ a.state.now) → b.world ≡ a.world → b.state ≡ a.state → b.reads ≡ a.reads → IsSameProcess a b → FlushedOn start before a b
  goes_marked a b was world state reads P = record {
    premise = same_kept a.reads b.reads reads;
    walks = λ k began.
        subst (λ (v : World NodeState). Walks t414 device_areas a.world v a.state b.state) (sym world) (subst (λ (s : State). Walks t414 device_areas a.world a.world a.state s) (sym state) (walked_nowhere a (was (same_kept a.reads b.reads reads k))));
    process = P;
  }

  pub goes_looked : (a b : Flushing) → (AreTrue a.reads → a.world.disk ≡ a.state.now) → OnlyLooked a b → FlushedOn start before a b
  goes_looked a b was L = record {
    premise = same_kept a.reads b.reads L.reads;
    walks = λ k began. looked_walks a b (was (same_kept a.reads b.reads L.reads k)) L;
    process = record { opened = L.opened; size = L.size; topology = L.topology };
  }

  pub goes_then : (a b c : Flushing) → FlushedOn start before a b → FlushedOn start before b c → FlushedOn start before a c
  goes_then a b c first then =
      let P = first.process in
      let Q = then.process in
      record {
        premise = λ k. first.premise (then.premise k);
        walks = λ k began. walked_then a b c (first.walks (then.premise k) began) (then.walks k (subst (Began start before) (sym P.opened) began));
        process = record { opened = Q.opened ∙ P.opened; size = Q.size ∙ P.size; topology = Q.topology ∙ P.topology };
      }

-- ## How they ended

pub went_still : (a : Flushing) → a.world.at ≡ Resting → NothingStored a a
went_still a rests = record { waits = waits_still a rests; stored = refl; place = refl; cleared = λ h. h; frozen = λ i node F. F }

pub went_then : (a b c : Flushing) → NothingStored a b → NothingStored b c → NothingStored a c
went_then a b c first then = record {
  waits = waits_then a b c first.waits then.waits;
  stored = then.stored ∙ first.stored;
  place = then.place ∙ first.place;
  cleared = λ h. then.cleared (first.cleared h);
  frozen = λ i node F. then.frozen i node (first.frozen i node F);
}

-- a fault after what went on
pub tried_then : {A : Type 0} (B : Type 0) (q : Result A FlushFault) (fault : FlushFault) → q ≡ Err fault → (a b c : Flushing) → NothingStored a b → Tried {A = B} (Err fault) b c → Tried q a c
tried_then {A} B q fault is a b c first then = subst (λ (x : Result A FlushFault). Tried x a c) (sym is) (by fault then)
  where
    by : (fault : FlushFault) → Tried {A = B} (Err fault) b c → Tried {A = A} (Err fault) a c
    by DeviceFailed then = (failed_then a b c first.waits then.0, then.1 ∙ first.stored)
    by StoreBroken then = absurd then
    by Memory then = absurd then
    by AreaFull then = absurd then

-- a turn whose backlog was stored and whose mark was raised, and that then ended with a fault
pub behind_ended : {A : Type 0} (q : Result A FlushFault) (fault : FlushFault) → q ≡ Err fault → (a b c : Flushing) → WaitsBehind a b → Checkpointed (Err fault) b c → Ended q a c
behind_ended {A} q fault is a b c first then = subst (λ (x : Result A FlushFault). Ended x a c) (sym is) (by fault then)
  where
    by : (fault : FlushFault) → Checkpointed (Err fault) b c → Ended {A = A} (Err fault) a c
    by DeviceFailed then = inr (record {
      raised = record {
        mark = omega (arith, first.raised.mark, then.0.mark);
        reaches = omega (arith, first.raised.reaches, then.0.mark, then.1);
        generation = then.0.generation ∙ first.raised.generation;
      };
      began = first.rested.began;
      broken = then.0.broken;
      failures = then.0.failures ∙ ap (λ n. n + 1) first.rested.failures;
    })
    by StoreBroken then = absurd then
    by Memory then = inr (record {
      raised = record {
        mark = omega (arith, first.raised.mark, then.waits.mark);
        reaches = omega (arith, first.raised.reaches, then.waits.mark, then.stored);
        generation = then.waits.generation ∙ first.raised.generation;
      };
      rested = record { began = first.rested.began; rests = then.waits.rested.rests; failures = then.waits.rested.failures ∙ first.rested.failures };
    })
    by AreaFull then = absurd then

-- no call failed so far, and the mark was raised
pub raised_behind : (a b c : Flushing) → Waits a b → OnlyLooked b c → b.world.mark ≤ c.world.mark → b.world.stored ≤ c.world.mark → WaitsBehind a c
raised_behind a b c first L up reaches = record {
  raised = record { mark = omega (arith, first.mark, up); reaches = omega (arith, reaches, L.stored); generation = ap (λ (p : Place). p.generation) L.place ∙ first.generation };
  rested = record { began = first.rested.began; rests = L.at ∙ first.rested.rests; failures = L.failures ∙ first.rested.failures };
}

pub rested_then : (a b c : Flushing) → Rested a b → Rested b c → Rested a c
rested_then a b c first then = record { began = first.began; rests = then.rests; failures = then.failures ∙ first.failures }

-- ## The end of a checkpoint

-- whether the store switched, after what went on
pub went_on : (switched : Bool) (a b c : Flushing) → NothingStored a b → WentOn switched b c → WentOn switched a c
went_on true a b c first then = record {
  rested = rested_then a b c first.waits.rested then.rested;
  mark = then.mark ∙ first.waits.mark;
  stored = omega (arith, then.stored, first.stored);
  generation = then.generation ∙ ap (λ n. n + 1) first.waits.generation;
}
went_on false a b c first then = went_then a b c first then

pub checkpointed_on : (q : Result Bool FlushFault) (a b c : Flushing) → NothingStored a b → Checkpointed q b c → Checkpointed q a c
checkpointed_on (Ok switched) a b c first then = went_on switched a b c first then
checkpointed_on (Err DeviceFailed) a b c first then = (failed_then a b c first.waits then.0, then.1 ∙ first.stored)
checkpointed_on (Err StoreBroken) a b c first then = then
checkpointed_on (Err Memory) a b c first then = went_then a b c first then
checkpointed_on (Err AreaFull) a b c first then = then

-- a fault before the switch
pub checkpointed_before : (B : Type 0) (q : Result Bool FlushFault) (fault : FlushFault) → q ≡ Err fault → (a b c : Flushing) → NothingStored a b → Tried {A = B} (Err fault) b c → Checkpointed q a c
checkpointed_before B q fault is a b c first then = subst (λ (x : Result Bool FlushFault). Checkpointed x a c) (sym is) (by fault then)
  where
    by : (fault : FlushFault) → Tried {A = B} (Err fault) b c → Checkpointed (Err fault) a c
    by DeviceFailed then = (failed_then a b c first.waits then.0, then.1 ∙ first.stored)
    by StoreBroken then = absurd then
    by Memory then = absurd then
    by AreaFull then = absurd then

-- a fault after what went on
pub checkpointed_behind : (q : Result Bool FlushFault) (fault : FlushFault) → q ≡ Err fault → (a b c : Flushing) → NothingStored a b → Checkpointed (Err fault) b c → Checkpointed q a c
checkpointed_behind q fault is a b c first then = subst (λ (x : Result Bool FlushFault). Checkpointed x a c) (sym is) (checkpointed_on (Err fault) a b c first then)

-- what a switch, or none, leaves
pub went_on_rested : (switched : Bool) (a b : Flushing) → WentOn switched a b → Rested a b
went_on_rested true a b on = on.rested
went_on_rested false a b on = on.waits.rested

pub went_on_mark : (switched : Bool) (a b : Flushing) → WentOn switched a b → b.world.mark ≡ a.world.mark
went_on_mark true a b on = on.mark
went_on_mark false a b on = on.waits.mark

-- a turn that was done, and after whose checkpoint the mark was raised again
pub done_rested : (switched : Bool) (a b c d : Flushing) → WaitsBehind a b → WentOn switched b c → OnlyLooked c d → Rested a d
done_rested switched a b c d first on L =
    let R = went_on_rested switched b c on in
    record { began = first.rested.began; rests = L.at ∙ R.rests; failures = L.failures ∙ R.failures ∙ first.rested.failures }

pub done_generation : (switched : Bool) (a b c d : Flushing) → WaitsBehind a b → WentOn switched b c → OnlyLooked c d → generation_after switched a d
done_generation true a b c d first on L = omega (arith, ap (λ (p : Place). p.generation) L.place, on.generation, first.raised.generation)
done_generation false a b c d first on L = omega (arith, ap (λ (p : Place). p.generation) L.place, on.waits.generation, first.raised.generation)

pub went_looked : (a b : Flushing) → a.world.at ≡ Resting → OnlyLooked a b → b.world.mark ≡ a.world.mark → ((i : ℕ) (node : NodeState) → IsFrozenAs a.world.net i node → IsFrozenAs b.world.net i node) → NothingStored a b
went_looked a b rests L mark frozen = record {
  waits = looked_waits a b rests L mark;
  stored = L.stored;
  place = L.place;
  cleared = λ h. ap (λ (p : Progress). p.cleared) L.progress ∙ h;
  frozen = frozen;
}
