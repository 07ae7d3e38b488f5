use Rattle.std.proofs.Common.{◌≡◌, take, map, slice_get}
use Rattle.tp_views.proofs.waits.scene.fronts_of.Given as goal

abbrev pub invariant-loop-line : goal.invariant-loop-line
invariant-loop-line l = l.fronts.items ≡ map (λ line. slice_get line 0) (take l.line l.fn.lines)
