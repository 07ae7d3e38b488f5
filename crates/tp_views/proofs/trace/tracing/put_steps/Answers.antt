use Rattle.std.proofs.Common.{◌+◌, subst}
use Rattle.tp_trace.specs.Others.{attended}
use Rattle.tp_views.specs.Front.{AppendsFront}
use Rattle.tp_views.specs.Maps.{rows_seen}
use Rattle.tp_views.specs.Traced.{Passes, moment, traced}
use Rattle.tp_views.proofs.Traces.{begun, goes_further, goes_stopped, goes_front, goes_ended, goes_ended_front, on_ok}
use Rattle.tp_views.proofs.trace.tracing.put_steps.Goals as goal

pub loop-index-init : goal.loop-index-init
loop-index-init g c = record {
  goes = begun (rows_seen c.args.rows.now) c.args.stops (g.O.Write.contents c.args.out.now) c.args.steps (attended c.args.linked.now);
  linked = c.requires;
}

-- a moment more
pub loop-index-preserved : goal.loop-index-preserved
loop-index-preserved g c =
    let rows = rows_seen c.args.rows.now in
    let was = g.O.Write.contents c.loop-index.out in
    let now = g.O.Write.contents c.put_moment.new.out in
    let a = attended c.loop-index.linked in
    let next = attended c.put_moment.new.linked in
    let numbered = subst (λ n. Passes (moment rows c.args.stops (n + 1) a) c.in_ok-put_moment.field-0 next was now) c.from.ensures c.in_ok-put_moment.ensures.passes in
    let made = subst (λ goes. Passes (moment rows c.args.stops (c.loop-index.index + 1) a) goes next was now) c.if-not-branch.false numbered in
    record {
      goes = goes_further rows c.args.stops (g.O.Write.contents c.args.out.now) was now (traced rows c.args.stops c.args.steps 1 (attended c.args.linked.now)) c.args.steps c.loop-index.index a next
          c.loop-index.invariant.goes c.loop-index-test.true made;
      linked = c.in_ok-put_moment.ensures.linked;
    }

-- the trace ends there
pub returns-then-not-branch-clause-printed : goal.returns-then-not-branch-clause-printed
returns-then-not-branch-clause-printed g c =
    let rows = rows_seen c.args.rows.now in
    let was = g.O.Write.contents c.loop-index.out in
    let now = g.O.Write.contents c.put_moment.new.out in
    let a = attended c.loop-index.linked in
    let next = attended c.put_moment.new.linked in
    let numbered = subst (λ n. Passes (moment rows c.args.stops (n + 1) a) c.in_ok-put_moment.field-0 next was now) c.from.ensures c.in_ok-put_moment.ensures.passes in
    let made = subst (λ goes. Passes (moment rows c.args.stops (c.loop-index.index + 1) a) goes next was now) c.if-not-branch.true numbered in
    goes_stopped rows c.args.stops (g.O.Write.contents c.args.out.now) was now (traced rows c.args.stops c.args.steps 1 (attended c.args.linked.now)) c.args.steps c.loop-index.index a next
    c.loop-index.invariant.goes c.loop-index-test.true made

pub returns-then-not-branch-clause-front : goal.returns-then-not-branch-clause-front
returns-then-not-branch-clause-front g c =
    let rows = rows_seen c.args.rows.now in
    let was = g.O.Write.contents c.loop-index.out in
    let now = g.O.Write.contents c.put_moment.new.out in
    let a = attended c.loop-index.linked in
    let front = subst (λ n. AppendsFront was now (moment rows c.args.stops (n + 1) a).text) c.from.ensures c.in_ok-put_moment.ensures.front in
    goes_front rows c.args.stops (g.O.Write.contents c.args.out.now) was now (traced rows c.args.stops c.args.steps 1 (attended c.args.linked.now)) c.args.steps c.loop-index.index a
    c.loop-index.invariant.goes c.loop-index-test.true front

-- its text was not printed
pub returns-in_err-put_moment-clause-front : goal.returns-in_err-put_moment-clause-front
returns-in_err-put_moment-clause-front g c =
    let rows = rows_seen c.args.rows.now in
    let was = g.O.Write.contents c.loop-index.out in
    let now = g.O.Write.contents c.put_moment.new.out in
    let a = attended c.loop-index.linked in
    let front = subst (λ n. AppendsFront was now (moment rows c.args.stops (n + 1) a).text) c.from.ensures c.in_err-put_moment.ensures.front in
    goes_front rows c.args.stops (g.O.Write.contents c.args.out.now) was now (traced rows c.args.stops c.args.steps 1 (attended c.args.linked.now)) c.args.steps c.loop-index.index a
    c.loop-index.invariant.goes c.loop-index-test.true front

-- behind the last line that was asked for
pub returns-clause-printed : goal.returns-clause-printed
returns-clause-printed g c =
    let rows = rows_seen c.args.rows.now in
    on_ok _ _ c.put_last.result
    (goes_ended rows c.args.stops (g.O.Write.contents c.args.out.now) (g.O.Write.contents c.loop-index.out) (g.O.Write.contents c.put_last.new.out)
    (traced rows c.args.stops c.args.steps 1 (attended c.args.linked.now)) c.args.steps c.loop-index.index (attended c.loop-index.linked) c.loop-index.invariant.goes c.loop-index-test.false)
    c.put_last.ensures.printed

pub returns-clause-front : goal.returns-clause-front
returns-clause-front g c =
    let rows = rows_seen c.args.rows.now in
    goes_ended_front rows c.args.stops (g.O.Write.contents c.args.out.now) (g.O.Write.contents c.loop-index.out) (g.O.Write.contents c.put_last.new.out)
    (traced rows c.args.stops c.args.steps 1 (attended c.args.linked.now)) c.args.steps c.loop-index.index (attended c.loop-index.linked) c.loop-index.invariant.goes c.loop-index-test.false c.put_last.ensures.front
