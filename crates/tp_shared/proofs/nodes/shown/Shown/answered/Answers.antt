-- What is lent lives as long as all that it names.
use Rattle.std.proofs.Common.{[]}
use contract.BorrowLft.{◌⊑◌, ⊑_meet, ⊑_static}
use Rattle.tp_shared.proofs.nodes.shown.Shown.answered.Goals as goal

pub of-requires : goal.of-requires
of-requires c κs within =
    let κ = κs.1.0 in
    let none : κ ⊑ [] = ⊑_static κ in
    let book = ⊑_meet κ _ _ within.0 none in
    let node = ⊑_meet κ _ _ (⊑_meet κ _ _ within.1.0 none) none in
    let answer = ⊑_meet κ _ _ (⊑_meet κ _ _ within.1.1.0 none) none in
    let one = ⊑_meet κ _ _ book node in
    let first = ⊑_meet κ _ _ one one in
    let other = ⊑_meet κ _ _ none answer in
    let second = ⊑_meet κ _ _ (⊑_meet κ _ _ other other) none in
    let all = ⊑_meet κ _ _ first second in
    ⊑_meet κ _ _ all all
