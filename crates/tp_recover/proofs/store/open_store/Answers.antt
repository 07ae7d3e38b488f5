use Rattle.std.proofs.Common.{◌≡◌, ℕ, rules, false, Err}
use Rattle.std.specs.Prelude.{Result}
use Rattle.tp_recover.proofs.Lower.{Counts, Opened}
use Rattle.tp_recover.specs.declared.unopened.Unopened.{Unopened}
use Rattle.tp_recover.specs.declared.unopened.Unopened.TheVariants.{Fault, ReadFailed, Memory}
use Rattle.tp_recover.specs.Reading.{has_read}
use Rattle.tp_recover.proofs.store.open_store.Goals as goal

-- if a call failed, it is counted
failed_counts : {A : Type 0} (error : Unopened) (answer : Result A Unopened) (old_size new_size old_failures new_failures : ℕ)
    → answer ≡ Err error → answer ≡ Err ReadFailed → (let given : Result Opened Unopened = Err error in Counts (has_read given) old_size new_size old_failures new_failures)
    → Counts false old_size new_size old_failures new_failures
failed_counts (Fault fault) answer old_size new_size old_failures new_failures told is counts = cc
failed_counts Memory answer old_size new_size old_failures new_failures told is counts = cc
failed_counts ReadFailed answer old_size new_size old_failures new_failures told is counts = counts

pub returns-in_err-opened-clause-failed : goal.returns-in_err-opened-clause-failed
returns-in_err-opened-clause-failed g c is =
    let told : c.from_residual.result ≡ Err c.in_err-opened.field-0.0 = search rules in
    (c.open.new.disk, failed_counts c.in_err-opened.field-0.0 c.from_residual.result _ _ _ _ told is c.in_err-opened.ensures.counts)
