use Rattle.tp_model.specs.Disk.{Write}
use Rattle.tp_disk.specs.Memory.{memory_state}
use Rattle.tp_disk.proofs.Torn.{failed_as_planned}
use Rattle.tp_disk.proofs.memory.RawMemoryRawDisk.write_at.Goals as goal

pub returns-clause-failed : goal.returns-clause-failed
returns-clause-failed c = failed_as_planned c.write_planned.result _ (Write c.args.at c.args.bytes.now) (memory_state c.args.self.now)
    (memory_state c.write_planned.new.self) c.requires c.write_planned.ensures.came
