use Rattle.std.proofs.Common.{◌≡◌, List, sym, subst}
use Rattle.tp_stream_files.specs.Told.{EndTold}
use Rattle.tp_stream_files.specs.Trace.{GrewAlike}
use Rattle.tp_stream_files.proofs.Traces.{grew_none, grew_more}
use Rattle.tp_stream_files.proofs.pipes.Pipe.would_wait_at.Goals as goal

pub loop-init : goal.loop-init
loop-init g c = grew_none _ _

-- asking whether it would wait takes nothing
asked : (one one' one'' other other' : List EndTold) → GrewAlike one one' other other' → one'' ≡ one' → GrewAlike one one'' other other'
asked one one' one'' other other' grew same = subst (λ told. GrewAlike one told other other') (sym same) grew

pub loop-preserved : goal.loop-preserved
loop-preserved g c = grew_more _ _ _ _ _ _ (asked _ _ _ _ _ c.loop.invariant c.would_wait.ensures) c.advance.ensures

pub returns-then-would_wait : goal.returns-then-would_wait
returns-then-would_wait g c = asked _ _ _ _ _ c.loop.invariant c.would_wait.ensures
