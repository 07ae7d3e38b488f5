use Rattle.std.proofs.Common.{◌≡◌, drop, ◌-◌}
use Rattle.tp_cpu.proofs.Lower.{offset, decoded}
use Rattle.tp_cpu.specs.Decoding.{reads_on}
use Rattle.tp_cpu.proofs.fetch.fetch.Given as goal

abbrev pub invariant-loop-byte : goal.invariant-loop-byte
invariant-loop-byte g l =
    reads_on l.decoder (drop (offset l.at) (g.M.Mem.bytes l.mem)) ≡ decoded (drop (offset l.initial.iptr) (g.M.Mem.bytes l.mem))

abbrev pub decreases-loop-byte : goal.decreases-loop-byte
decreases-loop-byte g l = 17 - l.decoder.count
