-- What is lent lives as long as both that it names.
use Rattle.std.proofs.Common.{[]}
use contract.BorrowLft.{◌⊑◌, ⊑_meet, ⊑_static}
use Rattle.tp_shared.proofs.flusher.told.Told.trimmed.Goals as goal

pub of-requires : goal.of-requires
of-requires g c κs within =
    let κ = κs.1.0 in
    let none : κ ⊑ [] = ⊑_static κ in
    let named = within.1.0 in
    let one = ⊑_meet κ _ _ named none in
    let marked = ⊑_meet κ _ _ (⊑_meet κ _ _ one none) none in
    let locked = ⊑_meet κ _ _ within.0.0 (⊑_meet κ _ _ one (⊑_meet κ _ _ (⊑_meet κ _ _ one marked) marked)) in
    let key = ⊑_meet κ _ _ (⊑_meet κ _ _ within.0.1.0 none) none in
    let both = ⊑_meet κ _ _ locked key in
    ⊑_meet κ _ _ both both
