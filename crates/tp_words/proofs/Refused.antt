-- Why words name no ends.
use Rattle.std.proofs.Common.{ℕ, List, Any, sym, subst, inl, inr}
use Rattle.tp_words.proofs.Lower.{Global, String}
use Rattle.tp_words.specs.Ends.{IsTextFault, IsRefused}
use Rattle.tp_words.specs.declared.stream_ends.EndsFault.{EndsFault}

-- what is told of an option is told of the words
pub told : (words : List (String Global)) (IsNone : List ℕ → Type 0) (own : EndsFault) (typed : List (List ℕ)) (fault : EndsFault)
    → IsTextFault IsNone own typed fault → (Any IsNone typed → IsRefused words own) → IsRefused words fault
told words IsNone own typed fault (inl memory) unfit = subst (λ (f : EndsFault). IsRefused words f) (sym memory) tt
told words IsNone own typed fault (inr is) unfit = subst (λ (f : EndsFault). IsRefused words f) (sym is.0) (unfit is.1)
