use Rattle.tp_stream_files.proofs.Keeping.{keeps_then}
use Rattle.tp_stream_files.proofs.opening.open_beside.Goals as goal

pub returns-in_err-outputs-clause-kept : goal.returns-in_err-outputs-clause-kept
returns-in_err-outputs-clause-kept g c = keeps_then _ _ _ c.inputs_of.ensures.kept c.in_err-outputs.ensures.kept

pub returns-clause-kept : goal.returns-clause-kept
returns-clause-kept g c = keeps_then _ _ _ c.inputs_of.ensures.kept c.outputs_of.ensures.kept
