-- Which output or input a fault names.
use Rattle.std.specs.Prelude.{IfErr, ◌==◌}
use Rattle.std.proofs.Common.{Result, subst, take, ◌++◌, ◌≡◌, ℕ, ◌<◌, zero, suc, Bool, true, List, [], ◌∷◌, length, set, sym, ap, ◌∙◌, arith, ◌||◌, map}
use Rattle.tp_stream.proofs.Lower.{take-append_seam, list_any, or-true, eq-eqb, OutputValue}
use Rattle.tp_stream.specs.declared.fault.StreamFault.{StreamFault}
use Rattle.tp_stream.specs.declared.fault.StreamFault.TheVariants.{Opening, Spare, Port as Absent, Unnamed, Short, Long, Gone, NotShown, ShortInput, InputFailed, OutputFailed, FlushFailed, NotStored, JournalFull, Memory}
use Rattle.tp_stream.specs.FailedEnds.{NamesEnd, NamesInput, NamesNoEnd, NamesOutput}
use Rattle.tp_stream.specs.Streamed.{CameBetween, CameOfFlush, CameOfTurns}
use Rattle.tp_stream.proofs.Failures.{SaysNeither}

-- if an item that passes a test is put into a list, some item of it passes
any_set : {A : Type 0} (test : A → Bool) (xs : List A) (i : ℕ) (x : A) → i < length xs → test x ≡ true → list_any test (set xs i x) ≡ true
any_set test [] i x within passes = absurd (omega (arith, within))
any_set test (y ∷ ys) zero x within passes = ap (λ b. b || list_any test ys) passes
any_set test (y ∷ ys) (suc i) x within passes = ap (λ b. test y || b) (any_set test ys i x (omega (arith, within)) passes) ∙ or-true (test y)

any_set_map : {A B : Type 0} (f : A → B) (test : B → Bool) (xs : List A) (i : ℕ) (x : A) → i < length xs → test (f x) ≡ true → list_any test (map f (set xs i x)) ≡ true
any_set_map f test [] i x within passes = absurd (omega (arith, within))
any_set_map f test (y ∷ ys) zero x within passes = ap (λ b. b || list_any test (map f ys)) passes
any_set_map f test (y ∷ ys) (suc i) x within passes = ap (λ b. test (f y) || b) (any_set_map f test ys i x (omega (arith, within)) passes) ∙ or-true (test (f y))

is_itself : (n m : ℕ) → n ≡ m → (m == n) ≡ true
is_itself n m same = eq-eqb m n (sym same)

-- a fault of one output among some
pub names_output : (outputs : List OutputValue) (i : ℕ) (o : OutputValue) (inputs : List ℕ) (fault : StreamFault) → i < length outputs → NamesOutput o.port fault → NamesEnd (set outputs i o) inputs fault
names_output outputs i o inputs (Opening unopened) within names = tt
names_output outputs i o inputs Spare within names = tt
names_output outputs i o inputs (Absent port) within names = tt
names_output outputs i o inputs (Unnamed port) within names = tt
names_output outputs i o inputs (Short port has from) within names = tt
names_output outputs i o inputs (Long port has upto) within names = tt
names_output outputs i o inputs (Gone port have confirmed) within names = tt
names_output outputs i o inputs (NotShown port have shown) within names = tt
names_output outputs i o inputs (ShortInput port has accepted) within names = tt
names_output outputs i o inputs (InputFailed port) within names = absurd names
names_output outputs i o inputs (OutputFailed port) within names = any_set (λ (o : OutputValue). o.port == port) outputs i o within (is_itself port o.port names)
names_output outputs i o inputs FlushFailed within names = tt
names_output outputs i o inputs NotStored within names = tt
names_output outputs i o inputs JournalFull within names = tt
names_output outputs i o inputs Memory within names = tt

-- a fault of one input among some
pub names_input : {A : Type 0} (port_of : A → ℕ) (xs : List A) (i : ℕ) (x : A) (outputs : List OutputValue) (fault : StreamFault) → i < length xs → NamesInput (port_of x) fault → NamesEnd outputs (map port_of (set xs i x)) fault
names_input port_of xs i x outputs (Opening unopened) within names = tt
names_input port_of xs i x outputs Spare within names = tt
names_input port_of xs i x outputs (Absent port) within names = tt
names_input port_of xs i x outputs (Unnamed port) within names = tt
names_input port_of xs i x outputs (Short port has from) within names = tt
names_input port_of xs i x outputs (Long port has upto) within names = tt
names_input port_of xs i x outputs (Gone port have confirmed) within names = tt
names_input port_of xs i x outputs (NotShown port have shown) within names = tt
names_input port_of xs i x outputs (ShortInput port has accepted) within names = tt
names_input port_of xs i x outputs (InputFailed port) within names = any_set_map port_of (λ p. p == port) xs i x within (is_itself port (port_of x) names)
names_input port_of xs i x outputs (OutputFailed port) within names = absurd names
names_input port_of xs i x outputs FlushFailed within names = tt
names_input port_of xs i x outputs NotStored within names = tt
names_input port_of xs i x outputs JournalFull within names = tt
names_input port_of xs i x outputs Memory within names = tt

-- what was put back in place of a whole list
put_back : {A : Type 0} (n : ℕ) (xs ys : List A) → length xs ≡ n → xs ≡ take n (xs ++ ys)
put_back n xs ys is = sym (subst (λ k. take k (xs ++ ys) ≡ xs) is (take-append_seam xs ys))

pub with_outputs : {A : Type 0} (r : Result A StreamFault) (n : ℕ) (outputs rest : List OutputValue) (inputs : List ℕ) → length outputs ≡ n → IfErr r (NamesEnd outputs inputs)
    → IfErr r (NamesEnd (take n (outputs ++ rest)) inputs)
with_outputs r n outputs rest inputs is names = subst (λ os. IfErr r (NamesEnd os inputs)) (put_back n outputs rest is) names

pub with_inputs : {A I : Type 0} (port_of : I → ℕ) (r : Result A StreamFault) (n : ℕ) (outputs : List OutputValue) (inputs rest : List I) → length inputs ≡ n
    → IfErr r (NamesEnd outputs (map port_of inputs)) → IfErr r (NamesEnd outputs (map port_of (take n (inputs ++ rest))))
with_inputs port_of r n outputs inputs rest is names = subst (λ xs. IfErr r (NamesEnd outputs (map port_of xs))) (put_back n inputs rest is) names

-- a fault that names no end that failed may come whatever the ends are
pub names_none : (outputs : List OutputValue) (inputs : List ℕ) (fault : StreamFault) → NamesNoEnd fault → NamesEnd outputs inputs fault
names_none outputs inputs (InputFailed port) names = absurd names
names_none outputs inputs (OutputFailed port) names = absurd names
names_none outputs inputs _ names = tt

-- faults of turns, of flushes and of what begins name none
pub turns_name_none : (fault : StreamFault) → CameOfTurns fault → NamesNoEnd fault
turns_name_none (InputFailed port) came = absurd came
turns_name_none (OutputFailed port) came = absurd came
turns_name_none _ came = tt

pub flush_names_none : (fault : StreamFault) → CameOfFlush fault → NamesNoEnd fault
flush_names_none (InputFailed port) came = absurd came
flush_names_none (OutputFailed port) came = absurd came
flush_names_none _ came = tt

pub neither_names_none : (fault : StreamFault) → SaysNeither fault → NamesNoEnd fault
neither_names_none (InputFailed port) neither = absurd neither
neither_names_none (OutputFailed port) neither = absurd neither
neither_names_none _ neither = tt

-- a fault of turns is one of what comes between two flushes
pub turns_between : (fault : StreamFault) → CameOfTurns fault → CameBetween fault
turns_between (Opening unopened) came = absurd came
turns_between Spare came = absurd came
turns_between (Absent port) came = absurd came
turns_between (Unnamed port) came = absurd came
turns_between (Short port has from) came = absurd came
turns_between (Long port has upto) came = absurd came
turns_between (Gone port have confirmed) came = absurd came
turns_between (NotShown port have shown) came = absurd came
turns_between (ShortInput port has accepted) came = absurd came
turns_between (InputFailed port) came = tt
turns_between (OutputFailed port) came = tt
turns_between FlushFailed came = absurd came
turns_between NotStored came = tt
turns_between JournalFull came = tt
turns_between Memory came = tt
