use Rattle.std.proofs.Common.{◌≡◌, drop}
use Rattle.tp_model.specs.Coding.{decoded}
use Rattle.tp_cpu.specs.Decoding.{reads_on}
use Rattle.tp_cpu.proofs.decoding.decode.Given as goal

abbrev pub invariant-loop-byte : goal.invariant-loop-byte
invariant-loop-byte l = reads_on l.decoder (drop l.byte-index l.bytes) ≡ decoded l.bytes
