-- What is lent lives as long as all that are named by it.
use Rattle.std.proofs.Common.{[]}
use contract.BorrowLft.{◌⊑◌, ⊑_meet, ⊑_static}
use Rattle.tp_program.proofs.device_calls.DeviceCalls.read.Goals as goal

pub of-requires : goal.of-requires
of-requires c κs within =
    let κ = κs.1.0 in
    let none : κ ⊑ [] = ⊑_static κ in
    let calls = ⊑_meet κ _ _ within.0 none in
    let first = ⊑_meet κ _ _ within.1.0 none in
    let second = ⊑_meet κ _ _ (⊑_meet κ _ _ within.1.1.0 none) none in
    let all = ⊑_meet κ _ _ calls (⊑_meet κ _ _ first second) in
    ⊑_meet κ _ _ all all
