-- Which calls of the device have failed, and what is answered.
use Rattle.std.proofs.Common.{◌≡◌, ◌⊎◌, ℕ, ◌+◌, inl, inr, Bool, true, false, List, Result, Ok, Err, refl, sym, ap, subst, ◌∙◌, arith}
use Rattle.std.specs.Prelude.{IfErr, if◌then◌else◌}
use Rattle.tp_stream.proofs.Lower.{NodeState, Opened, Topology, Position, Broken, Resting, OpenFault, has_read, Unopened}
use Rattle.tp_recover.specs.declared.unopened.Unopened.TheVariants as opening
use Rattle.tp_stream.proofs.Lower.{Rested, Flushing, FlushFault}
use Rattle.tp_flush.specs.Ends.{Ended}
use Rattle.tp_flush.specs.declared.fault.FlushFault.TheVariants as flush
use Rattle.tp_stream.proofs.Lower.{GivenInput, Given, OutputValue}
use Rattle.tp_stream.specs.declared.fault.StreamFault.{StreamFault}
use Rattle.tp_stream.specs.declared.fault.StreamFault.TheVariants.{Opening, Spare, Port as Absent, Unnamed, Short, Long, Gone, NotShown, ShortInput, InputFailed, OutputFailed, FlushFailed, NotStored, JournalFull, Memory}
use Rattle.tp_stream.specs.declared.standing.Standing.{Standing}
use Rattle.tp_stream.specs.declared.task.Task.{Task}
use Rattle.tp_stream.specs.Failures.{FailedWhere, HasOpened, StreamAnswer, answer_failed, calls_failed, fault_failed, flushing_fault, opening_failed}
use Rattle.tp_stream.specs.Fitting.{Unfit}
use Rattle.tp_stream.specs.Standing.{IsFirstRefused, IsFirstShort, IsNotBegun, Refuses, RefusesInput}
use Rattle.tp_stream.specs.Streamed.{CameBegun, CameBetween, CameOfFlush}

-- ## The flusher's turns

apart : (at : Position NodeState) → at ≡ Broken → at ≡ Resting → ⊥
apart at broken rests = cc

none_more : (old new : Flushing) → Rested old new → FailedWhere false old new
none_more old new R = let same = R.failures in record { at = R.rests; calls = omega (arith, same) }

one_more : (old new : Flushing) → new.world.at ≡ Broken → new.failures ≡ old.failures + 1 → FailedWhere true old new
one_more old new broken more = record { at = broken; calls = omega (arith, more) }

abbrev refused_as : (A : Type 0) → FlushFault → Result A FlushFault
refused_as A fault = Err fault

ended_failed : (A : Type 0) (fault : FlushFault) (old new : Flushing) → Ended (refused_as A fault) old new → old.world.at ≡ Resting → FailedWhere (fault_failed (flushing_fault fault)) old new
ended_failed A flush.DeviceFailed old new (inl F) rests = one_more old new F.broken F.failures
ended_failed A flush.DeviceFailed old new (inr F) rests = one_more old new F.broken F.failures
ended_failed A flush.StoreBroken old new E rests = absurd (apart old.world.at E.0 rests)
ended_failed A flush.Memory old new (inl W) rests = none_more old new W.0.rested
ended_failed A flush.Memory old new (inr W) rests = none_more old new W.rested
ended_failed A flush.AreaFull old new E rests = none_more old new E.rested

-- a turn that was done
pub turn_done : {A : Type 0} (r : Result A FlushFault) (x : A) (old new : Flushing) → r ≡ Ok x → Ended r old new → FailedWhere false old new
turn_done (Ok y) x old new is E = none_more old new E
turn_done (Err fault) x old new is E = absurd (cc)

-- a turn that was refused
pub turn_refused : {A : Type 0} (r : Result A FlushFault) (fault : FlushFault) (old new : Flushing) → r ≡ Err fault → Ended r old new → old.world.at ≡ Resting
    → FailedWhere (fault_failed (flushing_fault fault)) old new
turn_refused (Ok x) fault old new is E rests = absurd (cc)
turn_refused {A} (Err other) fault old new is E rests =
    let same : other ≡ fault = cc in subst (λ f. FailedWhere (fault_failed (flushing_fault f)) old new) same (ended_failed A other old new E rests)

-- if the flusher rests, no call has failed since
pub none_failed : (v : Flushing) → v.world.at ≡ Resting → FailedWhere false v v
none_failed v rests = record { at = rests; calls = omega arith }

-- nothing is done after it, and the answer doesn't say that a call failed
pub failed_still : (failed : Bool) (old mid new : Flushing) → new ≡ mid → failed ≡ false → FailedWhere false old mid → FailedWhere failed old new
failed_still failed old mid new same none F = subst (λ f. FailedWhere f old new) (sym none) (subst (λ v. FailedWhere false old v) (sym same) F)

-- one after the other
pub failed_then : (failed : Bool) (old mid new : Flushing) → FailedWhere false old mid → FailedWhere failed mid new → FailedWhere failed old new
failed_then failed old mid new F G =
    let first = F.calls in
    let none : mid.failures ≡ old.failures = omega (arith, first) in
    record { at = G.at; calls = G.calls ∙ ap (λ n. calls_failed failed n) none }

-- ## Faults

-- an answer with this fault is a fault of which `P` is true
pub if_err : {A : Type 0} (r : Result A StreamFault) (fault : StreamFault) (P : StreamFault → Type 0) → r ≡ Err fault → P fault → IfErr r P
if_err (Ok x) fault P is holds = tt
if_err (Err other) fault P is holds = let same : fault ≡ other = cc in subst P same holds

pub flush_begun : (fault : StreamFault) → CameOfFlush fault → CameBegun fault
flush_begun (Opening unopened) came = absurd came
flush_begun Spare came = absurd came
flush_begun (Absent port) came = absurd came
flush_begun (Unnamed port) came = absurd came
flush_begun (Short port has from) came = absurd came
flush_begun (Long port has upto) came = absurd came
flush_begun (Gone port have confirmed) came = absurd came
flush_begun (NotShown port have shown) came = absurd came
flush_begun (ShortInput port has accepted) came = absurd came
flush_begun (InputFailed port) came = absurd came
flush_begun (OutputFailed port) came = absurd came
flush_begun FlushFailed came = tt
flush_begun NotStored came = tt
flush_begun JournalFull came = absurd came
flush_begun Memory came = tt

between_fault : (fault : StreamFault) → CameBetween fault → fault_failed fault ≡ false
between_fault (Opening unopened) came = absurd came
between_fault Spare came = absurd came
between_fault (Absent port) came = absurd came
between_fault (Unnamed port) came = absurd came
between_fault (Short port has from) came = absurd came
between_fault (Long port has upto) came = absurd came
between_fault (Gone port have confirmed) came = absurd came
between_fault (NotShown port have shown) came = absurd came
between_fault (ShortInput port has accepted) came = absurd came
between_fault (InputFailed port) came = refl
between_fault (OutputFailed port) came = refl
between_fault FlushFailed came = absurd came
between_fault NotStored came = refl
between_fault JournalFull came = refl
between_fault Memory came = refl

pub between_unfailed : {A : Type 0} (r : Result A StreamFault) → IfErr r CameBetween → answer_failed r ≡ false
between_unfailed (Ok x) came = refl
between_unfailed (Err fault) came = between_fault fault came

fault_begun : (fault : StreamFault) → CameBetween fault → CameBegun fault
fault_begun (Opening unopened) came = absurd came
fault_begun Spare came = absurd came
fault_begun (Absent port) came = absurd came
fault_begun (Unnamed port) came = absurd came
fault_begun (Short port has from) came = absurd came
fault_begun (Long port has upto) came = absurd came
fault_begun (Gone port have confirmed) came = absurd came
fault_begun (NotShown port have shown) came = absurd came
fault_begun (ShortInput port has accepted) came = absurd came
fault_begun (InputFailed port) came = tt
fault_begun (OutputFailed port) came = tt
fault_begun FlushFailed came = absurd came
fault_begun NotStored came = tt
fault_begun JournalFull came = tt
fault_begun Memory came = tt

pub between_begun : {A : Type 0} (r : Result A StreamFault) → IfErr r CameBetween → IfErr r CameBegun
between_begun (Ok x) came = tt
between_begun (Err fault) came = fault_begun fault came

-- ## The opening

abbrev unopened_as : (A : Type 0) → Unopened → Result A Unopened
unopened_as A refused = Err refused

pub opening_counted : (A : Type 0) (refused : Unopened) (before now : ℕ) → now ≡ (if has_read (unopened_as A refused) then before else before + 1) → now ≡ calls_failed (opening_failed refused) before
opening_counted A (opening.Fault fault) before now same = omega (arith, same)
opening_counted A opening.ReadFailed before now same = omega (arith, same)
opening_counted A opening.Memory before now same = omega (arith, same)

-- if nothing failed
pub uncounted : (now before : ℕ) (failed : Bool) → failed ≡ false → now ≡ before → now ≡ calls_failed failed before
uncounted now before failed none same = subst (λ f. now ≡ calls_failed f before) (sym none) (omega (arith, same))

abbrev pub answered_as : (A : Type 0) → StreamFault → Result A StreamFault
answered_as A fault = Err fault

-- ## Faults before a stream is begun

-- a fault of a device that opened, of no call of it, and of no end
abbrev pub SaysNeither : StreamFault → Type 0
SaysNeither (Opening unopened) = ⊥
SaysNeither (InputFailed port) = ⊥
SaysNeither (OutputFailed port) = ⊥
SaysNeither FlushFailed = ⊥
SaysNeither _ = Unit {0}

pub neither_failed : (fault : StreamFault) → SaysNeither fault → fault_failed fault ≡ false
neither_failed (Opening unopened) neither = absurd neither
neither_failed Spare neither = refl
neither_failed (Absent port) neither = refl
neither_failed (Unnamed port) neither = refl
neither_failed (Short port has from) neither = refl
neither_failed (Long port has upto) neither = refl
neither_failed (Gone port have confirmed) neither = refl
neither_failed (NotShown port have shown) neither = refl
neither_failed (ShortInput port has accepted) neither = refl
neither_failed (InputFailed port) neither = refl
neither_failed (OutputFailed port) neither = refl
neither_failed FlushFailed neither = absurd neither
neither_failed NotStored neither = refl
neither_failed JournalFull neither = refl
neither_failed Memory neither = refl

pub neither_answers : (A : Type 0) (given : Result Opened OpenFault) (fault : StreamFault) → HasOpened given → SaysNeither fault → StreamAnswer given (answered_as A fault)
neither_answers A given (Opening unopened) opened neither = absurd neither
neither_answers A given Spare opened neither = opened
neither_answers A given (Absent port) opened neither = opened
neither_answers A given (Unnamed port) opened neither = opened
neither_answers A given (Short port has from) opened neither = opened
neither_answers A given (Long port has upto) opened neither = opened
neither_answers A given (Gone port have confirmed) opened neither = opened
neither_answers A given (NotShown port have shown) opened neither = opened
neither_answers A given (ShortInput port has accepted) opened neither = opened
neither_answers A given (InputFailed port) opened neither = opened
neither_answers A given (OutputFailed port) opened neither = opened
neither_answers A given FlushFailed opened neither = opened
neither_answers A given NotStored opened neither = opened
neither_answers A given JournalFull opened neither = opened
neither_answers A given Memory opened neither = opened

-- a stream that was begun
pub begun_answers : {A : Type 0} (given : Result Opened OpenFault) (r : Result A StreamFault) → HasOpened given → IfErr r CameBegun → StreamAnswer given r
begun_answers given (Ok x) opened begun = opened
begun_answers given (Err (Opening unopened)) opened begun = absurd begun
begun_answers given (Err Spare) opened begun = opened
begun_answers given (Err (Absent port)) opened begun = opened
begun_answers given (Err (Unnamed port)) opened begun = opened
begun_answers given (Err (Short port has from)) opened begun = opened
begun_answers given (Err (Long port has upto)) opened begun = opened
begun_answers given (Err (Gone port have confirmed)) opened begun = opened
begun_answers given (Err (NotShown port have shown)) opened begun = opened
begun_answers given (Err (ShortInput port has accepted)) opened begun = opened
begun_answers given (Err (InputFailed port)) opened begun = opened
begun_answers given (Err (OutputFailed port)) opened begun = opened
begun_answers given (Err FlushFailed) opened begun = opened
begun_answers given (Err NotStored) opened begun = opened
begun_answers given (Err JournalFull) opened begun = opened
begun_answers given (Err Memory) opened begun = opened

pub unfit_neither : (task : Task) (t : Topology) (outputs : List OutputValue) (inputs : List ℕ) (fault : StreamFault) → Unfit task t outputs inputs fault → SaysNeither fault
unfit_neither task t outputs inputs (Opening unopened) unfit = unfit
unfit_neither task t outputs inputs Spare unfit = tt
unfit_neither task t outputs inputs (Absent port) unfit = tt
unfit_neither task t outputs inputs (Unnamed port) unfit = tt
unfit_neither task t outputs inputs (Short port has from) unfit = tt
unfit_neither task t outputs inputs (Long port has upto) unfit = tt
unfit_neither task t outputs inputs (Gone port have confirmed) unfit = tt
unfit_neither task t outputs inputs (NotShown port have shown) unfit = tt
unfit_neither task t outputs inputs (ShortInput port has accepted) unfit = tt
unfit_neither task t outputs inputs (InputFailed port) unfit = unfit
unfit_neither task t outputs inputs (OutputFailed port) unfit = unfit
unfit_neither task t outputs inputs FlushFailed unfit = unfit
unfit_neither task t outputs inputs NotStored unfit = tt
unfit_neither task t outputs inputs JournalFull unfit = tt
unfit_neither task t outputs inputs Memory unfit = tt

output_neither : (s : Standing) (g : Given) (fault : StreamFault) → Refuses s g fault → SaysNeither fault
output_neither s g (Opening unopened) why = why
output_neither s g Spare why = tt
output_neither s g (Absent port) why = tt
output_neither s g (Unnamed port) why = tt
output_neither s g (Short port has from) why = tt
output_neither s g (Long port has upto) why = tt
output_neither s g (Gone port have confirmed) why = tt
output_neither s g (NotShown port have shown) why = tt
output_neither s g (ShortInput port has accepted) why = tt
output_neither s g (InputFailed port) why = why
output_neither s g (OutputFailed port) why = why
output_neither s g FlushFailed why = why
output_neither s g NotStored why = tt
output_neither s g JournalFull why = tt
output_neither s g Memory why = tt

input_neither : (n : ℕ) (g : GivenInput) (fault : StreamFault) → RefusesInput n g fault → SaysNeither fault
input_neither n g (Opening unopened) why = why
input_neither n g Spare why = tt
input_neither n g (Absent port) why = tt
input_neither n g (Unnamed port) why = tt
input_neither n g (Short port has from) why = tt
input_neither n g (Long port has upto) why = tt
input_neither n g (Gone port have confirmed) why = tt
input_neither n g (NotShown port have shown) why = tt
input_neither n g (ShortInput port has accepted) why = tt
input_neither n g (InputFailed port) why = why
input_neither n g (OutputFailed port) why = why
input_neither n g FlushFailed why = why
input_neither n g NotStored why = tt
input_neither n g JournalFull why = tt
input_neither n g Memory why = tt

first_refused : (ports : ℕ) (stands : ℕ → Standing) (gs : List Given) (fault : StreamFault) → IsFirstRefused ports stands gs fault → SaysNeither fault
first_refused ports stands gs fault first =
    elim first.why [
      | inl why ↦ output_neither (stands first.given.port) first.given fault why
      | inr absent ↦ subst SaysNeither (sym absent.0) tt
    ]

first_short : (ports : ℕ) (accepted_at : ℕ → ℕ) (gs : List GivenInput) (fault : StreamFault) → IsFirstShort ports accepted_at gs fault → SaysNeither fault
first_short ports accepted_at gs fault first =
    elim first.why [
      | inl why ↦ input_neither (accepted_at first.given.port) first.given fault why
      | inr absent ↦ subst SaysNeither (sym absent.0) tt
    ]

pub not_begun_neither : (ports : ℕ) (stands : ℕ → Standing) (accepted_at : ℕ → ℕ) (gs : List Given) (inputs : List GivenInput) (fault : StreamFault)
    → (fault ≡ Memory) ⊎ IsNotBegun ports stands accepted_at gs inputs fault → SaysNeither fault
not_begun_neither ports stands accepted_at gs inputs fault either =
    elim either [
      | inl memory ↦ subst SaysNeither (sym memory) tt
      | inr (inl first) ↦ first_refused ports stands gs fault first
      | inr (inr input) ↦ first_short ports accepted_at inputs fault input.1
    ]
