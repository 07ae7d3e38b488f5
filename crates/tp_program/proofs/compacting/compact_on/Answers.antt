use Rattle.std.proofs.Common.{◌≡◌, refl, Err, Result}
use Rattle.std.specs.Prelude.{IsErr}
use Rattle.tp_program.proofs.Lower.{Unopened, Compaction, CompactFault, StaysUnopened}
use Rattle.tp_run.specs.declared.compacting.CompactFault.TheVariants.{Opening}
use Rattle.tp_program.proofs.compacting.compact_on.Goals as goal

pub returns-clause-done : goal.returns-clause-done
returns-clause-done g c = record {
  done = c.compact-disk.result.1;
  kept = c.compact-disk.ensures.kept;
  grown = c.compact-disk.ensures.grown;
  unwritten = c.compact-disk.ensures.unwritten;
  printed = c.report.ensures.printed;
  silent = λ failed. (c.report.ensures.refused failed).1;
  answer = c.compact-disk.ensures.answer;
}

unopened_done : (done : Result Compaction CompactFault) → (unopened : Unopened) × (done ≡ Err (Opening unopened)) → IsErr done × StaysUnopened done
unopened_done done (unopened, same) = rw same (refl, tt)

pub returns-clause-unopened : goal.returns-clause-unopened
returns-clause-unopened g c premise refused =
    let ends = unopened_done c.compact-disk.result.1 (c.compact-disk.ensures.unopened premise refused) in
    let said = c.report.ensures.refused ends.0 in
    (said.0, c.compact-disk.ensures.unwritten ends.1, said.1)
