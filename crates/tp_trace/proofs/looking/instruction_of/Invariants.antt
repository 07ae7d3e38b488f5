-- what is read so far is read on in the bytes that are left
use Rattle.std.proofs.Common.{◌≡◌, drop, ◌-◌}
use Rattle.tp_trace.proofs.Lower.{reads_on, decoded, offset}
use Rattle.tp_trace.proofs.looking.instruction_of.Given as goal

abbrev pub invariant-loop-byte : goal.invariant-loop-byte
invariant-loop-byte l =
    reads_on l.decoder (drop (offset l.at) l.node.live.memory) ≡ decoded (drop (offset l.initial.address) l.node.live.memory)

abbrev pub decreases-loop-byte : goal.decreases-loop-byte
decreases-loop-byte l = 17 - l.decoder.count
