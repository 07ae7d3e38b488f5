-- The statuses of runs.
use Rattle.std.proofs.Common.{◌≡◌, ◌≤◌, ℕ, refl, arith, Result, Ok, Err}
use Rattle.tp_program.proofs.Lower.{Unopened, IsSilent, IsUnbegun, RunFault, Spare, Port, OfferRefused, FlushFailed, OutputFailed, ConfirmRefused, LastFlushFailed, Unaccounted, Memory}
use Rattle.tp_run.specs.declared.fault.RunFault.TheVariants.{Opening}
use Rattle.tp_program.specs.Running.{status_of}

-- a status is at most 2
pub status_few : (done : Result ℕ RunFault) → status_of done ≤ 2
status_few (Ok next) = omega arith
status_few (Err (Opening unopened)) = omega arith
status_few (Err Spare) = omega arith
status_few (Err Port) = omega arith
status_few (Err OfferRefused) = omega arith
status_few (Err FlushFailed) = omega arith
status_few (Err OutputFailed) = omega arith
status_few (Err ConfirmRefused) = omega arith
status_few (Err LastFlushFailed) = omega arith
status_few (Err Unaccounted) = omega arith
status_few (Err Memory) = omega arith

-- at 2 the device was not written, and nothing was printed
pub status_words : (done : Result ℕ RunFault) → status_of done ≡ 2 → IsUnbegun done × IsSilent done
status_words (Ok next) two = absurd (omega (arith, two))
status_words (Err (Opening unopened)) two = absurd (omega (arith, two))
status_words (Err Spare) two = (tt, tt)
status_words (Err Port) two = (tt, tt)
status_words (Err OfferRefused) two = absurd (omega (arith, two))
status_words (Err FlushFailed) two = absurd (omega (arith, two))
status_words (Err OutputFailed) two = absurd (omega (arith, two))
status_words (Err ConfirmRefused) two = absurd (omega (arith, two))
status_words (Err LastFlushFailed) two = absurd (omega (arith, two))
status_words (Err Unaccounted) two = absurd (omega (arith, two))
status_words (Err Memory) two = absurd (omega (arith, two))

-- at 1 the same, if the device wasn't opened
pub status_unopened : (done : Result ℕ RunFault) → (unopened : Unopened) × (done ≡ Err (Opening unopened)) → (status_of done ≡ 1) × IsUnbegun done × IsSilent done
status_unopened done (unopened, same) = rw same (refl, tt, tt)
