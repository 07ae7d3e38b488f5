-- How many calls of the device have failed.
use Rattle.std.specs.Prelude.{if◌then◌else◌, IfErr, MatchResult}
use Rattle.std.proofs.Common.{◌≡◌, ℕ, ◌+◌, inl, inr, Bool, true, false, Result, Ok, Err, IsOk, OnOk, refl, sym, ap, subst, ◌∙◌, arith}
use Rattle.tp_run.proofs.Lower.{NodeState, Position, Broken, Resting, Unopened}
use Rattle.tp_recover.specs.declared.unopened.Unopened.TheVariants as why
use Rattle.tp_run.proofs.Lower.{has_read, FlushFault, AreaFull, DeviceFailed, Ended, Rested, Flushing, position}
use Rattle.tp_flush.specs.declared.fault.FlushFault.TheVariants.{Memory, StoreBroken}
use Rattle.tp_run.specs.declared.fault.RunFault.{RunFault}
use Rattle.tp_run.specs.Failures.{CountsFailures, IsFlushFault, failed_to_open, failures_after, flush_fault_of}

-- ## The flusher's turns

apart : (at : Position NodeState) → at ≡ Broken → at ≡ Resting → ⊥
apart at broken rests = cc

pub none_failed : (v : Flushing) → CountsFailures v v
none_failed v = record { rests = λ rests. (rests, refl); broken = λ is. inl (is, refl) }

rested : (old new : Flushing) → Rested old new → CountsFailures old new
rested old new R = record { rests = λ rests. (R.began, R.failures); broken = λ broken. absurd (apart new.world.at broken R.rests) }

one_failed : (old new : Flushing) → old.world.at ≡ Resting → new.world.at ≡ Broken → new.failures ≡ old.failures + 1 → CountsFailures old new
one_failed old new began broken more = record { rests = λ rests. absurd (apart new.world.at broken rests); broken = λ is. inr (began, more) }

pub turn_failures : {A : Type 0} (r : Result A FlushFault) (old new : Flushing) → Ended r old new → CountsFailures old new
turn_failures (Ok x) old new E = rested old new E
turn_failures (Err DeviceFailed) old new (inl F) = one_failed old new F.began F.broken F.failures
turn_failures (Err DeviceFailed) old new (inr F) = one_failed old new F.began F.broken F.failures
turn_failures (Err StoreBroken) old new E = subst (λ v. CountsFailures old v) (sym E.1) (none_failed old)
turn_failures (Err Memory) old new (inl W) = rested old new W.0.rested
turn_failures (Err Memory) old new (inr W) = rested old new W.rested
turn_failures (Err AreaFull) old new E = rested old new E.rested

abbrev pub refused_as : (A : Type 0) → FlushFault → Result A FlushFault
refused_as A fault = Err fault

-- what a run answers then
refused_by : (A : Type 0) (given : RunFault) (fault : FlushFault) (old new : Flushing) → Ended (refused_as A fault) old new → IsFlushFault given new.world.at (flush_fault_of given fault)
refused_by A given DeviceFailed old new (inl F) = inl (refl, F.broken)
refused_by A given DeviceFailed old new (inr F) = inl (refl, F.broken)
refused_by A given StoreBroken old new E = inl (refl, ap (λ (v : Flushing). v.world.at) E.1 ∙ E.0)
refused_by A given Memory old new (inl W) = inr (inl refl, W.0.rested.rests)
refused_by A given Memory old new (inr W) = inr (inl refl, W.rested.rests)
refused_by A given AreaFull old new E = inr (inr refl, E.rested.rests)

abbrev pub IsOutcome : {A : Type 0} → RunFault → Result A FlushFault → Result Unit RunFault → Type 0
IsOutcome given turned answer = MatchResult turned (λ flushed. IsOk answer) (λ refused. answer ≡ Err (flush_fault_of given refused))

pub outcome_rests : {A : Type 0} (turned : Result A FlushFault) (answer : Result Unit RunFault) (given : RunFault) (old new : Flushing) → IsOutcome given turned answer → Ended turned old new
    → OnOk answer (new.world.at ≡ Resting)
outcome_rests (Ok x) (Ok done) given old new is E = E.rests
outcome_rests (Ok x) (Err fault) given old new is E = tt
outcome_rests (Err refused) (Ok done) given old new is E = cc
outcome_rests (Err refused) (Err fault) given old new is E = tt

pub outcome_refused : {A : Type 0} (turned : Result A FlushFault) (answer : Result Unit RunFault) (given : RunFault) (old new : Flushing) → IsOutcome given turned answer → Ended turned old new
    → IfErr answer (IsFlushFault given new.world.at)
outcome_refused (Ok x) (Ok done) given old new is E = tt
outcome_refused (Ok x) (Err fault) given old new is E = cc
outcome_refused (Err refused) (Ok done) given old new is E = tt
outcome_refused {A} (Err refused) (Err fault) given old new is E =
    let same : flush_fault_of given refused ≡ fault = cc in subst (IsFlushFault given new.world.at) same (refused_by A given refused old new E)

-- one after the other
pub failures_then : (a b c : Flushing) → CountsFailures a b → CountsFailures b c → CountsFailures a c
failures_then a b c F G = record {
  rests = λ rests. let there = G.rests rests in let here = F.rests there.0 in (here.0, there.1 ∙ here.1);
  broken = λ broken. elim (G.broken broken) [
    | inl was ↦ elim (F.broken was.0) [
      | inl before ↦ inl (before.0, was.1 ∙ before.1)
      | inr once ↦ inr (once.0, was.1 ∙ once.1)
    ]
    | inr once ↦ let here = F.rests once.0 in inr (here.0, once.1 ∙ ap (λ n. n + 1) here.1)
  ];
}

-- as many as are told, from where the flusher rests on
pub counted : (old new : Flushing) (failed : Bool) → old.world.at ≡ Resting → CountsFailures old new → new.world.at ≡ position failed → new.failures ≡ failures_after failed old.failures
counted old new false began C at = let same = (C.rests at).1 in omega (arith, same)
counted old new true began C at = elim (C.broken at) [
  | inl was ↦ absurd (apart old.world.at was.0 began)
  | inr once ↦ let more = once.1 in omega (arith, more)
]

-- if nothing failed
pub uncounted : (now before : ℕ) (failed : Bool) → failed ≡ false → now ≡ before → now ≡ failures_after failed before
uncounted now before failed none same = subst (λ f. now ≡ failures_after f before) (sym none) (omega (arith, same))

-- ## The opening

abbrev pub unopened_as : (A : Type 0) → Unopened → Result A Unopened
unopened_as A refused = Err refused

pub opening_counted : (A : Type 0) (refused : Unopened) (before now : ℕ) → now ≡ (if has_read (unopened_as A refused) then before else before + 1) → now ≡ failures_after (failed_to_open refused) before
opening_counted A (why.Fault fault) before now same = omega (arith, same)
opening_counted A why.ReadFailed before now same = omega (arith, same)
opening_counted A why.Memory before now same = omega (arith, same)
