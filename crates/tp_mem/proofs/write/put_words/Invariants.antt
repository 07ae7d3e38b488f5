use Rattle.std.proofs.Common.{◌≡◌, drop}
use Rattle.tp_model.specs.Memory.{stored}
use Rattle.tp_mem.proofs.write.put_words.Given as goal

-- what is left to write, from here, gives what all gives from the start
abbrev pub invariant-loop-write : goal.invariant-loop-write
invariant-loop-write l = stored l.live (drop l.write-index l.writes) ≡ stored l.fn.live l.writes
