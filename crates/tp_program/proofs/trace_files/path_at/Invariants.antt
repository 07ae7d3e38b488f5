-- none of the files so far is for the link
use Rattle.std.proofs.Common.{◌≡◌, drop}
use Rattle.tp_program.specs.Uses.{path_at}
use Rattle.tp_program.proofs.trace_files.path_at.Given as goal

abbrev pub invariant-loop-file : goal.invariant-loop-file
invariant-loop-file l = path_at (drop l.file-index l.files) l.link ≡ path_at l.files l.link
