-- The premise on the reads of a flusher that stayed as it was.
use Rattle.std.proofs.Common.{◌≡◌, subst}
use Rattle.tp_run.proofs.Lower.{AreTrue, WereTrue, Flushing}

pub same_premise : {old new : Flushing} → new ≡ old → WereTrue old.reads new.reads
same_premise same are = subst (λ (f : Flushing). AreTrue f.reads) same are
