use Rattle.std.proofs.Common.{refl, ap, ◌∙◌}
use Rattle.tp_disk.specs.History.{SyncsData, with_call}
use Rattle.tp_disk.proofs.FileState.{passed_more, sync_after, sync_failed, sync_whole, reads_same}
use Rattle.tp_disk.proofs.file_history.FileHistory.has_synced.Goals as goal

pub invariant_of-self : goal.invariant_of-self
invariant_of-self c = record {
  whole = sync_whole c.args.self.now.size c.args.self.now.history.told c.has_synced_data-self.result.told c.is_ok.result c.has_synced_data-self.ensures c.args.self.now.whole;
}

pub returns-clause-unread : goal.returns-clause-unread
returns-clause-unread c = reads_same c.args.self.now.size c.args.self.now.history.told c.has_synced_data-self.result.told (SyncsData c.is_ok.result) refl c.has_synced_data-self.ensures

pub returns-clause-goes : goal.returns-clause-goes
returns-clause-goes c = passed_more c.args.self.now.size c.args.self.now.history.told c.has_synced_data-self.result.told (SyncsData c.is_ok.result) c.has_synced_data-self.ensures

pub returns-clause-after : goal.returns-clause-after
returns-clause-after c = sync_after c.args.self.now.size c.args.self.now.history.told c.has_synced_data-self.result.told c.args.ended
    (c.has_synced_data-self.ensures ∙ ap (λ ok. with_call c.args.self.now.history.told (SyncsData ok)) c.is_ok.ensures.value)

pub returns-clause-failed : goal.returns-clause-failed
returns-clause-failed c = sync_failed c.args.self.now.size c.args.self.now.history.told c.has_synced_data-self.result.told c.args.ended
    (c.has_synced_data-self.ensures ∙ ap (λ ok. with_call c.args.self.now.history.told (SyncsData ok)) c.is_ok.ensures.value)
