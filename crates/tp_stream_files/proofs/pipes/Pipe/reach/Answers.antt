use Rattle.tp_stream_files.proofs.Traces.{grew_none, grew_more}
use Rattle.tp_stream_files.proofs.pipes.Pipe.reach.Goals as goal

pub loop-init : goal.loop-init
loop-init g c = grew_none _ _

pub loop-preserved : goal.loop-preserved
loop-preserved g c = grew_more _ _ _ _ _ _ c.loop.invariant c.advance.ensures
