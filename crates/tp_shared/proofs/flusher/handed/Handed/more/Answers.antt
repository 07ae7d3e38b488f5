-- What is lent lives as long as all that it names.
use Rattle.std.proofs.Common.{[]}
use contract.BorrowLft.{◌⊑◌, ⊑_meet, ⊑_static}
use Rattle.tp_shared.proofs.flusher.handed.Handed.more.Goals as goal

pub of-requires : goal.of-requires
of-requires c κs within =
    let κ = κs.1.0 in
    let none : κ ⊑ [] = ⊑_static κ in
    let key = ⊑_meet κ _ _ within.0 none in
    let book = ⊑_meet κ _ _ within.1.0 none in
    let other = ⊑_meet κ _ _ book none in
    let second = ⊑_meet κ _ _ (⊑_meet κ _ _ other other) none in
    let all = ⊑_meet κ _ _ key second in
    ⊑_meet κ _ _ all all
