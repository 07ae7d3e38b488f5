use Rattle.std.proofs.Common.{length}
use Rattle.tp_words.proofs.rules.+any_typed.Given as goal

abbrev pub decreases-any_typed : goal.decreases-any_typed
decreases-any_typed l = length l.ids.now
