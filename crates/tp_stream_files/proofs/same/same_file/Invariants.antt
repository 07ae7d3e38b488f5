use Rattle.std.proofs.Common.{take}
use Rattle.tp_stream_files.specs.Named.{HaveOwnPaths}
use Rattle.tp_stream_files.proofs.same.same_file.Given as goal

-- Each output so far has a path of its own.
abbrev pub invariant-loop-number : goal.invariant-loop-number
invariant-loop-number g l = HaveOwnPaths l.device (take l.number l.ends.outs.items) l.ends.ins.items
