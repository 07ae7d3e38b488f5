use Rattle.tp_stream_files.proofs.Keeping.{keeps_then, keeps_written}
use Rattle.tp_stream_files.proofs.sinks.FileSink.open_in.Goals as goal

pub returns-in_err-file-clause-kept : goal.returns-in_err-file-clause-kept
returns-in_err-file-clause-kept g c = keeps_written _ _ _ _ c.file_at.ensures.noted

pub returns-clause-kept : goal.returns-clause-kept
returns-clause-kept g c = keeps_then _ _ _ (keeps_written _ _ _ _ c.file_at.ensures.noted) c.over.ensures.kept
