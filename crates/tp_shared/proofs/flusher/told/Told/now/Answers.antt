-- What is lent lives as long as the naming.
use Rattle.std.proofs.Common.{[]}
use contract.BorrowLft.{◌⊑◌, ⊑_meet, ⊑_static}
use Rattle.tp_shared.proofs.flusher.told.Told.now.Goals as goal

pub of-requires : goal.of-requires
of-requires g c κs within =
    let κ = κs.1.0 in
    let none : κ ⊑ [] = ⊑_static κ in
    let one = ⊑_meet κ _ _ within none in
    let marked = ⊑_meet κ _ _ (⊑_meet κ _ _ one none) none in
    ⊑_meet κ _ _ one (⊑_meet κ _ _ (⊑_meet κ _ _ one marked) marked)
