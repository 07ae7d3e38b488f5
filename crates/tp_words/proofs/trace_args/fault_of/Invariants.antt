-- nothing is wrong with the files so far
use Rattle.std.proofs.Common.{All, take}
use Rattle.tp_stream_files.specs.declared.ends.PortFile.{PortFile}
use Rattle.tp_words.specs.TraceArgs.{IsOfLink}
use Rattle.tp_words.proofs.trace_args.fault_of.Given as goal

abbrev pub invariant-loop-file : goal.invariant-loop-file
invariant-loop-file l = All (λ (file : PortFile). IsOfLink l.files file.port) (take l.file-index l.files)
