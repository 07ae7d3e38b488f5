use Rattle.std.proofs.Common.{◌∙◌, sym, subst, ◌≤◌}
use Rattle.tp_program.proofs.Lower.{verdict, AnswerFor, RanInto, Job}
use Rattle.tp_program.proofs.Statuses.{status_few, status_words, status_unopened}
use Rattle.tp_program.proofs.running.run_on.Goals as goal

pub returns-clause-status : goal.returns-clause-status
returns-clause-status g c = subst (λ status. status ≤ 2) (sym c.report.ensures) (status_few c.run-disk.result.1)

pub returns-clause-ran : goal.returns-clause-ran
returns-clause-ran g c = record {
  done = c.run-disk.result.1;
  is = c.report.ensures;
  ran =
      λ premise began. subst
      (λ (j : Job). RanInto g.history.formatted j c.args.input.now (g.O.Outlet.value c.args.out.now) (g.O.Outlet.value c.run-disk.new.out) c.run-disk.result.1 (g.D.Disk.state c.args.disk) (g.D.Disk.state c.run-disk.result.0))
      c.job_of-job.ensures.value (c.run-disk.ensures.called premise began);
  unwritten = c.run-disk.ensures.unwritten;
  silent = c.run-disk.ensures.silent;
  answer =
      λ premise. subst (λ (j : Job). AnswerFor (verdict (g.D.Disk.state c.args.disk).now.bytes) j c.args.input.now c.run-disk.result.1) c.job_of-job.ensures.value
      (c.run-disk.ensures.answer premise);
}

pub returns-clause-words : goal.returns-clause-words
returns-clause-words g c two =
    let ends = status_words c.run-disk.result.1 (sym c.report.ensures ∙ two) in (
      c.run-disk.ensures.unwritten ends.0,
      c.run-disk.ensures.silent ends.1,
    )

pub returns-clause-unopened : goal.returns-clause-unopened
returns-clause-unopened g c premise refused =
    let ends = status_unopened c.run-disk.result.1 (c.run-disk.ensures.unopened premise refused) in (
      c.report.ensures ∙ ends.0,
      c.run-disk.ensures.unwritten ends.1,
      c.run-disk.ensures.silent ends.2,
    )
