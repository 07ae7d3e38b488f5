use Rattle.std.proofs.Common.{ap, ◌∙◌}
use Rattle.tp_disk.specs.History.{Reads, with_call}
use Rattle.tp_disk.proofs.FileState.{passed_more, read_after, read_failed, read_whole, reads_more}
use Rattle.tp_disk.proofs.file_history.FileHistory.has_read.Goals as goal

pub invariant_of-self : goal.invariant_of-self
invariant_of-self c = record {
  whole = read_whole c.args.self.now.size c.args.self.now.history.told c.has_read-self.result.told c.args.at c.args.out.now c.is_ok.result c.has_read-self.ensures c.args.self.now.whole;
}

pub returns-clause-noted : goal.returns-clause-noted
returns-clause-noted c = reads_more c.args.self.now.size c.args.self.now.history.told c.has_read-self.result.told (Reads c.args.at c.args.out.now _)
    (c.has_read-self.ensures ∙ ap (λ ok. with_call c.args.self.now.history.told (Reads c.args.at c.args.out.now ok)) c.is_ok.ensures.value)

pub returns-clause-goes : goal.returns-clause-goes
returns-clause-goes c = passed_more c.args.self.now.size c.args.self.now.history.told c.has_read-self.result.told (Reads c.args.at c.args.out.now c.is_ok.result) c.has_read-self.ensures

pub returns-clause-after : goal.returns-clause-after
returns-clause-after c = read_after c.args.self.now.size c.args.self.now.history.told c.has_read-self.result.told c.args.ended c.args.at c.args.out.now
    (c.has_read-self.ensures ∙ ap (λ ok. with_call c.args.self.now.history.told (Reads c.args.at c.args.out.now ok)) c.is_ok.ensures.value)

pub returns-clause-failed : goal.returns-clause-failed
returns-clause-failed c = read_failed c.args.self.now.size c.args.self.now.history.told c.has_read-self.result.told c.args.ended c.args.at c.args.out.now
    (c.has_read-self.ensures ∙ ap (λ ok. with_call c.args.self.now.history.told (Reads c.args.at c.args.out.now ok)) c.is_ok.ensures.value)
