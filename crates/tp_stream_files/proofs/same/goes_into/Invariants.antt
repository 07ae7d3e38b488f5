use Rattle.std.proofs.Common.{take}
use Rattle.std.specs.Prelude.{All}
use Rattle.tp_stream_files.specs.Named.{HaveOnePath}
use Rattle.tp_stream_files.specs.declared.ends.PortFile.{PortFile}
use Rattle.tp_stream_files.proofs.same.goes_into.Given as goal

-- None of the ends so far has the output's path.
abbrev pub invariant-loop-other : goal.invariant-loop-other
invariant-loop-other g l = All (λ (other : PortFile). HaveOnePath l.end other → ⊥) (take l.other-index l.others)
