use Rattle.std.proofs.Common.{◌≡◌, ◌++◌, map, take}
use Rattle.tp_stream_files.specs.Named.{output_away}
use Rattle.tp_stream_files.proofs.opening.add_discards.Given as goal

abbrev pub invariant-loop-port : goal.invariant-loop-port
invariant-loop-port g l = l.outputs.items ≡ l.initial.outputs.items ++ map output_away (take l.port-index l.ends.discards.items)
