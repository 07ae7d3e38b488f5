use contract.BorrowLft.{◌⊑◌, ⊑_meet, ⊑_static}
use Rattle.std.proofs.Common.{[]}
use Rattle.tp_stream_files.proofs.trace.Trace.opened.Goals as goal

-- the value that is looked at lives as long as each of its parts
pub of-requires : goal.of-requires
of-requires c k within =
    let κ = k.1.0 in
    let none : κ ⊑ [] = ⊑_static κ in
    let self = ⊑_meet κ _ _ within.0 none in
    let how = ⊑_meet κ _ _ within.1.0 none in
    let path = ⊑_meet κ _ _ within.1.1.0 none in
    let all = ⊑_meet κ _ _ self (⊑_meet κ _ _ how (⊑_meet κ _ _ path none)) in
    ⊑_meet κ _ _ all all
