use Rattle.std.proofs.Common.{true, ◌++◌}
use Rattle.tp_disk.specs.Memory.{memory_reads}
use Rattle.tp_disk.specs.Reads.{answered}
use Rattle.tp_disk.proofs.memory.RawMemory.answered.Given as goal

abbrev pub ghost-of : goal.ghost-of
ghost-of a =
    let memory = a._value.now.0.now in
    record memory.history.told { reads = memory_reads memory ++ answered true a._value.now.1 a._value.now.2.now memory.bytes.items }
