-- the text of the moments so far was appended
use Rattle.tp_trace.specs.Others.{IsLinked, attended}
use Rattle.tp_views.specs.Maps.{rows_seen}
use Rattle.tp_views.specs.Traced.{traced}
use Rattle.tp_views.proofs.Traces.{Goes}
use Rattle.tp_views.proofs.trace.tracing.put_steps.Given as goal

abbrev pub invariant-loop-index : goal.invariant-loop-index
invariant-loop-index g l = record {
  goes : Goes (rows_seen l.fn.rows) l.fn.stops (g.O.Write.contents l.fn.out) (g.O.Write.contents l.out) (traced (rows_seen l.fn.rows) l.fn.stops l.fn.steps 1 (attended l.fn.linked)) l.fn.steps l.index (attended l.linked);
  linked : IsLinked l.linked;
}
