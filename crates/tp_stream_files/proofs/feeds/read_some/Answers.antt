use Rattle.tp_stream_files.proofs.Known.{keeps_refl, keeps_more, keeps_consumes}
use Rattle.std.proofs.Common.{Ok}
use Rattle.std.specs.declared.io.Error.{Error}
use Rattle.tp_stream_files.proofs.feeds.read_some.Goals as goal

pub loop-init : goal.loop-init
loop-init g c = keeps_refl _

pub loop-preserved : goal.loop-preserved
loop-preserved g c = keeps_more _ _ _ c.loop.invariant c.in-Err.ensures.bytes

pub returns-in-Ok-clause-bytes : goal.returns-in-Ok-clause-bytes
returns-in-Ok-clause-bytes g c = keeps_consumes {E = Error} (Ok c.in-Ok.count) _ (g.I.Read.remaining c.loop.reader) _ _ c.loop.invariant c.in-Ok.ensures.bytes

pub returns-in-Err-2-clause-bytes : goal.returns-in-Err-2-clause-bytes
returns-in-Err-2-clause-bytes g c = keeps_more _ (g.I.Read.remaining c.loop.reader) _ c.loop.invariant c.in-Err-2.ensures.bytes

pub returns-clause-bytes : goal.returns-clause-bytes
returns-clause-bytes g c = c.loop.invariant
