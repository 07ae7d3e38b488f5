use Rattle.std.proofs.Common.{◌≡◌, drop}
use Rattle.tp_stream_files.specs.Named.{standard_port}
use Rattle.tp_stream_files.proofs.ends.standard_of.Given as goal

-- none so far is
abbrev pub invariant-loop-file : goal.invariant-loop-file
invariant-loop-file l = standard_port (drop l.file-index l.files) ≡ standard_port l.files
