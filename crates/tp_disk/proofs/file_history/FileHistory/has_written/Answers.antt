use Rattle.std.proofs.Common.{refl, ap, ◌∙◌}
use Rattle.tp_disk.specs.History.{Writes, with_call}
use Rattle.tp_disk.proofs.FileState.{passed_more, write_after, write_failed, write_whole, reads_same}
use Rattle.tp_disk.proofs.file_history.FileHistory.has_written.Goals as goal

pub invariant_of-self : goal.invariant_of-self
invariant_of-self c = record {
  whole = write_whole c.args.self.now.size c.args.self.now.history.told c.has_written-self.result.told c.args.at c.args.bytes.now c.is_ok.result c.has_written-self.ensures c.requires c.args.self.now.whole;
}

pub returns-clause-unread : goal.returns-clause-unread
returns-clause-unread c = reads_same c.args.self.now.size c.args.self.now.history.told c.has_written-self.result.told (Writes c.args.at c.args.bytes.now c.is_ok.result) refl c.has_written-self.ensures

pub returns-clause-goes : goal.returns-clause-goes
returns-clause-goes c = passed_more c.args.self.now.size c.args.self.now.history.told c.has_written-self.result.told (Writes c.args.at c.args.bytes.now c.is_ok.result) c.has_written-self.ensures

pub returns-clause-after : goal.returns-clause-after
returns-clause-after c = write_after c.args.self.now.size c.args.self.now.history.told c.has_written-self.result.told c.args.ended c.args.at c.args.bytes.now
    (c.has_written-self.ensures ∙ ap (λ ok. with_call c.args.self.now.history.told (Writes c.args.at c.args.bytes.now ok)) c.is_ok.ensures.value)

pub returns-clause-failed : goal.returns-clause-failed
returns-clause-failed c = write_failed c.args.self.now.size c.args.self.now.history.told c.has_written-self.result.told c.args.ended c.args.at c.args.bytes.now c.args.self.now.whole c.requires
    (c.has_written-self.ensures ∙ ap (λ ok. with_call c.args.self.now.history.told (Writes c.args.at c.args.bytes.now ok)) c.is_ok.ensures.value)
