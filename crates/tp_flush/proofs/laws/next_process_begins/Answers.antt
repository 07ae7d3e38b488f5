use Rattle.tp_flush.proofs.laws.next_process_begins.Goals as goal

pub returns : goal.returns
returns c = λ start w left reached may. record { reached = reached; may = may }
