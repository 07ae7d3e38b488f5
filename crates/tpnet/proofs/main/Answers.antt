use Rattle.std.proofs.Common.{ℕ, List, [], ◌++◌, rules}
use contract.BorrowLft.{◌⊑◌, ⊑_meet, ⊑_refl, ⊑_static}
use contract.Lifetimes.{Lfts}
use denote.Param.{param}
use denote.Param.Send.{IsSend, sendable}
use Rattle.tpnet.proofs.main.Given.{Over}
use Rattle.tpnet.proofs.main.Lts.{arg-24-3}
use Rattle.tpnet.proofs.main.Goals as goal

itself : (κ : List ℕ) → κ ⊑ (κ ++ []) ++ []
itself κ = ⊑_meet κ _ _ (⊑_meet κ _ _ (⊑_refl κ) (⊑_static κ)) (⊑_static κ)

-- apart, since among all that is known in `main` the search doesn't end
device_sends : (g : Over) (κs : Lfts 22) → IsSend (param 3 (arg-24-3 g.bound-1-dict g.bound-2-dict κs))
device_sends g κs = search (rules, sendable)

-- what is lent outlives the call: the system, the locks, and what both are lent for
pub answer_over-status-requires : goal.answer_over-status-requires
answer_over-status-requires g c κs within =
    let κ = κs.1.1.1.1.1.1.1.1.1.1.0 in
    let none : κ ⊑ [] = ⊑_static κ in
    let files = ⊑_meet κ _ _ (⊑_meet κ _ _ within.1.0 none) none in
    let locks = ⊑_meet κ _ _ (⊑_meet κ _ _ (⊑_meet κ _ _ within.1.1.0 none) none) none in
    let given = ⊑_meet κ _ _ files locks in
    let devices = ⊑_meet κ _ _ given (⊑_meet κ _ _ (⊑_meet κ _ _ within.0 files) locks) in
    (itself κs.1.1.1.1.1.1.1.1.0, (⊑_static κs.1.1.1.1.1.1.1.1.1.0, (devices, (⊑_static κs.1.1.1.1.1.1.1.1.1.1.1.0, (⊑_static κs.1.1.1.1.1.1.1.1.1.1.1.1.0, (itself κs.1.1.1.1.1.1.1.1.1.1.1.1.1.0, (⊑_static κs.1.1.1.1.1.1.1.1.1.1.1.1.1.1.0, (itself κs.1.1.1.1.1.1.1.1.1.1.1.1.1.1.1.0, (⊑_static κs.1.1.1.1.1.1.1.1.1.1.1.1.1.1.1.1.0, (itself κs.1.1.1.1.1.1.1.1.1.1.1.1.1.1.1.1.1.0, (⊑_static κs.1.1.1.1.1.1.1.1.1.1.1.1.1.1.1.1.1.1.0, (search (rules, sendable), (device_sends g κs, search (rules, sendable))))))))))))))
