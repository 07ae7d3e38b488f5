use Rattle.tp_stream_files.proofs.Keeping.{keeps_then, keeps_written}
use Rattle.tp_stream_files.proofs.opening.file_sink.Goals as goal

pub returns-in_err-file-clause-kept : goal.returns-in_err-file-clause-kept
returns-in_err-file-clause-kept g c = keeps_written _ _ _ _ c.open_to_write.ensures.noted

pub returns-in_err-take_sink-clause-kept : goal.returns-in_err-take_sink-clause-kept
returns-in_err-take_sink-clause-kept g c = keeps_written _ _ _ _ c.open_to_write.ensures.noted

pub returns-then-is_none-clause-kept : goal.returns-then-is_none-clause-kept
returns-then-is_none-clause-kept g c = keeps_written _ _ _ _ c.open_to_write.ensures.noted

pub returns-clause-kept : goal.returns-clause-kept
returns-clause-kept g c = keeps_then _ _ _ (keeps_written _ _ _ _ c.open_to_write.ensures.noted) c.sink_over.ensures.kept
