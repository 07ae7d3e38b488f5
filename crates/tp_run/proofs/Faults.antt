-- Faults of a run, and when they come.
use Rattle.std.proofs.Common.{◌≡◌, ◌≤◌, Result, Ok, Err, ℕ, inl, inr, true, false, refl, sym, ap, subst, ◌∙◌}
use Rattle.std.specs.Prelude.{IfErr}
use Rattle.tp_run.proofs.Lower.{NodeState, Position, position}
use Rattle.tp_run.specs.declared.fault.RunFault.{RunFault}
use Rattle.tp_run.specs.declared.fault.RunFault.TheVariants.{Opening, Spare, Port, OfferRefused, FlushFailed, OutputFailed, ConfirmRefused, LastFlushFailed, Unaccounted, Memory}
use Rattle.tp_run.specs.Failures.{IsFlushFault, has_failed, is_failure}
use Rattle.tp_run.specs.Faults.{ComesBegun, ComesBehind, IsLate, IsOfferFault, IsSilent, IsUnbegun}
use Rattle.tp_run.specs.Prints.{ComesSilent, FaultPrints}

-- a run whose device opened, with nothing wrong in the job, has no answer that says otherwise
pub begun_written : (r : Result ℕ RunFault) → IfErr r ComesBegun → IsUnbegun r → ⊥
begun_written (Ok next) begun unbegun = unbegun
begun_written (Err (Opening unopened)) begun unbegun = begun
begun_written (Err Spare) begun unbegun = begun
begun_written (Err Port) begun unbegun = begun
begun_written (Err OfferRefused) begun unbegun = unbegun
begun_written (Err FlushFailed) begun unbegun = unbegun
begun_written (Err OutputFailed) begun unbegun = unbegun
begun_written (Err ConfirmRefused) begun unbegun = unbegun
begun_written (Err LastFlushFailed) begun unbegun = unbegun
begun_written (Err Unaccounted) begun unbegun = unbegun
begun_written (Err Memory) begun unbegun = unbegun

-- a fault of printing isn't one that says that nothing was printed
pub late_said : (r : Result ℕ RunFault) → IfErr r IsLate → IsSilent r → ⊥
late_said (Ok next) late silent = silent
late_said (Err (Opening unopened)) late silent = late
late_said (Err Spare) late silent = late
late_said (Err Port) late silent = late
late_said (Err OfferRefused) late silent = late
late_said (Err FlushFailed) late silent = late
late_said (Err OutputFailed) late silent = silent
late_said (Err ConfirmRefused) late silent = silent
late_said (Err LastFlushFailed) late silent = silent
late_said (Err Unaccounted) late silent = silent
late_said (Err Memory) late silent = silent

-- ## From one table to another

pub late_behind : (fault : RunFault) → IsLate fault → ComesBehind fault
late_behind (Opening unopened) late = absurd late
late_behind Spare late = absurd late
late_behind Port late = absurd late
late_behind OfferRefused late = absurd late
late_behind FlushFailed late = absurd late
late_behind OutputFailed late = tt
late_behind ConfirmRefused late = tt
late_behind LastFlushFailed late = absurd late
late_behind Unaccounted late = tt
late_behind Memory late = tt

pub behind_begun : (fault : RunFault) → ComesBehind fault → ComesBegun fault
behind_begun (Opening unopened) behind = absurd behind
behind_begun Spare behind = absurd behind
behind_begun Port behind = absurd behind
behind_begun OfferRefused behind = absurd behind
behind_begun FlushFailed behind = tt
behind_begun OutputFailed behind = tt
behind_begun ConfirmRefused behind = tt
behind_begun LastFlushFailed behind = tt
behind_begun Unaccounted behind = tt
behind_begun Memory behind = tt

pub offer_begun : (fault : RunFault) → IsOfferFault fault → ComesBegun fault
offer_begun (Opening unopened) offer = absurd offer
offer_begun Spare offer = absurd offer
offer_begun Port offer = absurd offer
offer_begun OfferRefused offer = tt
offer_begun FlushFailed offer = absurd offer
offer_begun OutputFailed offer = absurd offer
offer_begun ConfirmRefused offer = absurd offer
offer_begun LastFlushFailed offer = absurd offer
offer_begun Unaccounted offer = tt
offer_begun Memory offer = tt

pub offer_silent : (fault : RunFault) → IsOfferFault fault → ComesSilent fault
offer_silent (Opening unopened) offer = absurd offer
offer_silent Spare offer = absurd offer
offer_silent Port offer = absurd offer
offer_silent OfferRefused offer = tt
offer_silent FlushFailed offer = absurd offer
offer_silent OutputFailed offer = absurd offer
offer_silent ConfirmRefused offer = absurd offer
offer_silent LastFlushFailed offer = absurd offer
offer_silent Unaccounted offer = tt
offer_silent Memory offer = tt

pub late_unfailed : (fault : RunFault) → IsLate fault → is_failure fault ≡ false
late_unfailed (Opening unopened) late = absurd late
late_unfailed Spare late = absurd late
late_unfailed Port late = absurd late
late_unfailed OfferRefused late = absurd late
late_unfailed FlushFailed late = absurd late
late_unfailed OutputFailed late = refl
late_unfailed ConfirmRefused late = refl
late_unfailed LastFlushFailed late = absurd late
late_unfailed Unaccounted late = refl
late_unfailed Memory late = refl

pub offer_unfailed : (fault : RunFault) → IsOfferFault fault → is_failure fault ≡ false
offer_unfailed (Opening unopened) offer = absurd offer
offer_unfailed Spare offer = absurd offer
offer_unfailed Port offer = absurd offer
offer_unfailed OfferRefused offer = refl
offer_unfailed FlushFailed offer = absurd offer
offer_unfailed OutputFailed offer = absurd offer
offer_unfailed ConfirmRefused offer = absurd offer
offer_unfailed LastFlushFailed offer = absurd offer
offer_unfailed Unaccounted offer = refl
offer_unfailed Memory offer = refl

-- once the input was handed in, the fault isn't `OfferRefused`
pub behind_unrefused : (fault : RunFault) (Needs : Type 0) → ComesBehind fault → fault ≡ OfferRefused → Needs
behind_unrefused fault Needs behind is = absurd (subst ComesBehind is behind)

-- ## Of an answer

pub late_behind_of : (r : Result ℕ RunFault) → IfErr r IsLate → IfErr r ComesBehind
late_behind_of (Ok next) late = tt
late_behind_of (Err fault) late = late_behind fault late

pub behind_begun_of : (r : Result ℕ RunFault) → IfErr r ComesBehind → IfErr r ComesBegun
behind_begun_of (Ok next) behind = tt
behind_begun_of (Err fault) behind = behind_begun fault behind

pub behind_unrefused_of : (r : Result ℕ RunFault) (Needs : Type 0) → IfErr r ComesBehind → IfErr r (λ fault. fault ≡ OfferRefused → Needs)
behind_unrefused_of (Ok next) Needs behind = tt
behind_unrefused_of (Err fault) Needs behind = behind_unrefused fault Needs behind

pub late_unfailed_of : (r : Result ℕ RunFault) → IfErr r IsLate → has_failed r ≡ false
late_unfailed_of (Ok next) late = refl
late_unfailed_of (Err fault) late = late_unfailed fault late

-- ## Of a flush

pub flush_behind : (given fault : RunFault) (at : Position NodeState) → ComesBehind given → IsFlushFault given at fault → ComesBehind fault
flush_behind given fault at behind (inl failed) = subst ComesBehind (sym failed.0) behind
flush_behind given fault at behind (inr (inl memory, rests)) = subst ComesBehind (sym memory) tt
flush_behind given fault at behind (inr (inr unaccounted, rests)) = subst ComesBehind (sym unaccounted) tt

pub flush_ends : (given fault : RunFault) (at : Position NodeState) → is_failure given ≡ true → IsFlushFault given at fault → at ≡ position (is_failure fault)
flush_ends given fault at fails (inl failed) = failed.1 ∙ ap position (sym (ap is_failure failed.0 ∙ fails))
flush_ends given fault at fails (inr (inl memory, rests)) = rests ∙ ap (λ f. position (is_failure f)) (sym memory)
flush_ends given fault at fails (inr (inr unaccounted, rests)) = rests ∙ ap (λ f. position (is_failure f)) (sym unaccounted)

-- nothing is printed before the first one is done
pub flush_silent : (fault : RunFault) (at : Position NodeState) → IsFlushFault FlushFailed at fault → ComesSilent fault
flush_silent fault at (inl failed) = subst ComesSilent (sym failed.0) tt
flush_silent fault at (inr (inl memory, rests)) = subst ComesSilent (sym memory) tt
flush_silent fault at (inr (inr unaccounted, rests)) = subst ComesSilent (sym unaccounted) tt

-- all is printed before the last one
pub flush_prints : (fault : RunFault) (at : Position NodeState) → IsFlushFault LastFlushFailed at fault → (count all : ℕ) → all ≤ count → FaultPrints fault count all
flush_prints fault at (inl failed) count all few = subst (λ f. FaultPrints f count all) (sym failed.0) few
flush_prints fault at (inr (inl memory, rests)) count all few = subst (λ f. FaultPrints f count all) (sym memory) few
flush_prints fault at (inr (inr unaccounted, rests)) count all few = subst (λ f. FaultPrints f count all) (sym unaccounted) few

-- the answer of a run that ends so
abbrev pub late : RunFault → Result ℕ RunFault
late fault = Err fault

pub last_said : (fault : RunFault) (at : Position NodeState) → IsFlushFault LastFlushFailed at fault → IsSilent (late fault) → ⊥
last_said fault at (inl failed) silent = subst (λ f. IsSilent (late f)) failed.0 silent
last_said fault at (inr (inl memory, rests)) silent = subst (λ f. IsSilent (late f)) memory silent
last_said fault at (inr (inr unaccounted, rests)) silent = subst (λ f. IsSilent (late f)) unaccounted silent
