use Rattle.std.proofs.Common.{◌≡◌, refl, sym, ap, subst, ◌∙◌}
use Rattle.tp_model.specs.Journal.{is_full_for_snapshot}
use Rattle.tp_run.specs.Compacted.{SaysLast, is_failure_in}
use Rattle.tp_run.specs.Failures.{failures_after}
use Rattle.tp_run.specs.declared.compacting.Compaction.{Compaction}
use Rattle.tp_run.proofs.Compacts.{begin_last, begin_unfailed, fault_as, flush_ended, flush_last}
use Rattle.tp_run.proofs.Failures.{counted, turn_failures, uncounted}
use Rattle.tp_run.proofs.compacting.switch_all.Goals as goal

-- ## A snapshot that doesn't begin

pub returns-in-Some-clause-failures : goal.returns-in-Some-clause-failures
returns-in-Some-clause-failures g c = uncounted _ _ (is_failure_in c.in-Some.fault) (begin_unfailed c.in-Some.fault c.in-Some.ensures) refl

pub returns-in-Some-clause-last : goal.returns-in-Some-clause-last
returns-in-Some-clause-last g c =
    begin_last Compaction c.in-Some.fault (is_full_for_snapshot c.args.flusher.now.place.generation) c.in-Some.ensures
    (sym (ap is_full_for_snapshot c.generation.ensures) ∙ sym c.is_last.ensures ∙ c.if-is_last.false)

-- ## A turn that is refused

pub returns-in-Err-clause-failures : goal.returns-in-Err-clause-failures
returns-in-Err-clause-failures g c =
    let old = c.args.flusher.now in
    let new = c.turn.new.self in
    subst (λ f. new.failures ≡ failures_after (is_failure_in f) old.failures) (sym c.fault_in.ensures)
    (counted old new _ c.requires.rests (turn_failures c.turn.result old new c.turn.ensures.ended) (flush_ended c.turn.result c.in-Err.fault old new c.in-Err.is c.turn.ensures.ended))

pub returns-in-Err-clause-last : goal.returns-in-Err-clause-last
returns-in-Err-clause-last g c =
    let last = is_full_for_snapshot c.args.flusher.now.place.generation in
    subst (λ f. SaysLast (fault_as Compaction f) last) (sym c.fault_in.ensures)
    (flush_last Compaction c.in-Err.fault last (sym (ap is_full_for_snapshot c.generation.ensures) ∙ sym c.is_last.ensures ∙ c.if-is_last.false))
