-- What the flusher knows of the book's store.
use Rattle.std.proofs.Common.{◌≡◌, Bool, false, List, sym, subst, ◌∙◌}
use Rattle.tp_flush.proofs.Lower.{true≢false, NodeState, World, Position, Resting, BookValue, IsFirst, ToldSince, Told}
use Rattle.tp_flush.specs.Flushing.{position}
use Rattle.tp_flush.specs.WasTold.{ToldWhere}
use Rattle.tp_flush.proofs.Appends.{rests_unbroken}

-- it was told of the book as it is
pub where_since : (broken : Bool) (old now : Told) (seen : List BookValue) → ToldSince old now → ToldWhere broken old seen → ToldWhere broken now seen
where_since broken old now seen since W = record { shows = since.broken ∙ W.shows; was = W.was }

-- no call has failed
pub where_whole : (broken : Bool) (now : Told) (seen : List BookValue) → now.broken ≡ false → broken ≡ false → ToldWhere broken now seen
where_whole broken now seen whole not = record { shows = whole ∙ sym not; was = λ failed. absurd (true≢false (sym failed ∙ not)) }

-- it rests, so no call failed
pub whole_where : (broken : Bool) (told : Told) (seen : List BookValue) (at : Position NodeState) → ToldWhere broken told seen → at ≡ position broken → at ≡ Resting → told.broken ≡ false
whole_where broken told seen at W is rests = W.shows ∙ rests_unbroken broken (sym is ∙ rests)

-- whether the store is broken isn't part of the world
pub first_where : (told now : Told) (failed : Bool) (w : World NodeState) → now ≡ record told { broken = failed } → IsFirst told w → IsFirst now w
first_where told now failed w is F = subst (λ (t : Told). IsFirst t w) (sym is) (record { net = F.net; base = F.base; journal = F.journal })
