use Rattle.std.proofs.Common.{Bool, rules, ◌≡◌, ◌+◌, length, take, sym, subst, ap, ◌∙◌, arith, get_or}
use Rattle.tp_flush.proofs.Lower.{Topology, content_beside}
use Rattle.tp_flush.proofs.Goings.{goes_then, tried_then, went_then}
use Rattle.tp_flush.specs.declared.progress.Progress.{Progress}
use Rattle.tp_flush.specs.Copying.{IsPartOut}
use Rattle.tp_flush.specs.Progress.{is_out}
use Rattle.tp_flush.proofs.flusher.Flusher.copy_image.Goals as goal

pub loop-done-init : goal.loop-done-init
loop-done-init g c = record {
  within = search rules;
  went = c.in_ok-copy_head.ensures.tried;
  goes = c.copy_head.ensures.goes;
  same = c.copy_head.ensures.same;
  stands = λ k. c.in_ok-copy_head.ensures.stands k c.if-not-branch.false;
  recorded = c.in_ok-copy_head.ensures.recorded c.if-not-branch.false;
}

pub loop-done-preserved : goal.loop-done-preserved
loop-done-preserved g c =
    let I = c.loop-done.invariant in
    let v = c.copy_pages.new.self in
    let long : length (take c.min-next.result c.loop-done.pages) ≡ c.min-next.result = search rules in
    record {
      within = omega arith;
      went = went_then c.args.self.now c.loop-done.self c.copy_pages.new.self I.went c.in_ok-copy_pages.ensures.tried;
      goes = goes_then g.J.Naming.formatted g.J.Naming.before c.args.self.now c.loop-done.self c.copy_pages.new.self I.goes c.copy_pages.ensures.goes;
      same = c.copy_pages.ensures.same ∙ I.same;
      stands = λ k. subst (λ n. IsPartOut v.topology v.world.net (content_beside v.place v.state) c.args.node (c.loop-done.done + n)) long (c.in_ok-copy_pages.ensures.stands k c.if-not-branch-2.false);
      recorded = (I.recorded.0, c.in_ok-copy_pages.ensures.tried.frozen c.args.node I.recorded.0 I.recorded.1);
    }

pub copy_pages-requires-clause-rests : goal.copy_pages-requires-clause-rests
copy_pages-requires-clause-rests g c = c.loop-done.invariant.went.waits.rested.rests

pub copy_pages-requires-clause-cleared : goal.copy_pages-requires-clause-cleared
copy_pages-requires-clause-cleared g c = c.loop-done.invariant.went.cleared c.requires.cleared

pub returns-in_err-copy_pages-clause-tried : goal.returns-in_err-copy_pages-clause-tried
returns-in_err-copy_pages-clause-tried g c =
    tried_then Bool c.from_residual-in_err-copy_pages.result c.in_err-copy_pages.field-0.0 (search rules) c.args.self.now c.loop-done.self c.copy_pages.new.self c.loop-done.invariant.went c.in_err-copy_pages.ensures.tried

pub returns-in_err-copy_pages-clause-goes : goal.returns-in_err-copy_pages-clause-goes
returns-in_err-copy_pages-clause-goes g c =
    goes_then g.J.Naming.formatted g.J.Naming.before c.args.self.now c.loop-done.self c.copy_pages.new.self c.loop-done.invariant.goes c.copy_pages.ensures.goes

pub returns-clause-tried : goal.returns-clause-tried
returns-clause-tried g c = c.loop-done.invariant.went

pub returns-clause-goes : goal.returns-clause-goes
returns-clause-goes g c = c.loop-done.invariant.goes

pub returns-then-not-branch-2-clause-goes : goal.returns-then-not-branch-2-clause-goes
returns-then-not-branch-2-clause-goes g c =
    goes_then g.J.Naming.formatted g.J.Naming.before c.args.self.now c.loop-done.self c.copy_pages.new.self c.loop-done.invariant.goes c.copy_pages.ensures.goes

pub copy_pages-requires-clause-free : goal.copy_pages-requires-clause-free
copy_pages-requires-clause-free g c = ap (λ (p : Progress). is_out p c.args.node) c.loop-done.invariant.same ∙ c.requires.free

pub copy_pages-requires-clause-stands : goal.copy_pages-requires-clause-stands
copy_pages-requires-clause-stands g c = c.loop-done.invariant.stands

pub returns-clause-stands : goal.returns-clause-stands
returns-clause-stands g c k = λ found.
    let I = c.loop-done.invariant in
    let v = c.loop-done.self in
    let P = c.copy_head.ensures.goes.process in
    let all : c.loop-done.done ≡ get_or v.topology.pages c.args.node 0 = omega (arith, c.pages_of-count.ensures.is, ap (λ (t : Topology). get_or t.pages c.args.node 0) (I.goes.process.topology ∙ sym P.topology)) in
    subst (IsPartOut v.topology v.world.net (content_beside v.place v.state) c.args.node) all (I.stands k)

pub returns-clause-same : goal.returns-clause-same
returns-clause-same g c = c.loop-done.invariant.same

pub returns-in_err-copy_pages-clause-same : goal.returns-in_err-copy_pages-clause-same
returns-in_err-copy_pages-clause-same g c = c.copy_pages.ensures.same ∙ c.loop-done.invariant.same

pub returns-then-not-branch-2-clause-same : goal.returns-then-not-branch-2-clause-same
returns-then-not-branch-2-clause-same g c = c.copy_pages.ensures.same ∙ c.loop-done.invariant.same

pub returns-clause-recorded : goal.returns-clause-recorded
returns-clause-recorded g c = λ found. c.loop-done.invariant.recorded
