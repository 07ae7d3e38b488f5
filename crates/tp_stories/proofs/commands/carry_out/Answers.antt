use Rattle.std.proofs.Common.{ℕ, List, [], ◌++◌, rules}
use contract.BorrowLft.{◌⊑◌, ⊑_meet, ⊑_refl, ⊑_static}
use denote.Param.Send.{sendable}
use Rattle.tp_stories.proofs.commands.carry_out.Goals as goal

-- what two fields of a type hold, each twice
twice : (κ ε : List ℕ) → κ ⊑ ε → κ ⊑ (ε ++ ε) ++ []
twice κ ε is = ⊑_meet κ _ _ (⊑_meet κ _ _ is is) (⊑_static κ)

alone : (κ ε : List ℕ) → κ ⊑ ε → κ ⊑ ε ++ []
alone κ ε is = ⊑_meet κ _ _ is (⊑_static κ)

-- the devices outlive the call: the files, the rival, and what both are lent for
pub answer_over-status-requires : goal.answer_over-status-requires
answer_over-status-requires g c κs within =
    let κ = κs.1.1.1.1.1.1.1.1.1.1.0 in
    let file = within.0.1.0 in
    let rt = within.1.1.1.0 in
    let files = within.1.1.1.1.0 in
    let kept = alone κ _ file in
    let other = alone κ _ (⊑_meet κ _ _ (alone κ _ rt) (⊑_meet κ _ _ (⊑_meet κ _ _ file rt) (⊑_meet κ _ _ kept (alone κ _ kept)))) in
    let devices = ⊑_meet κ _ _ (⊑_meet κ _ _ files other) (⊑_meet κ _ _ (⊑_meet κ _ _ within.0.0 files) other) in
    let α = κs.1.1.1.1.1.1.1.1.1.1.1.0 in
    let device = twice α _ (twice α _ (alone α _ within.1.1.1.1.1.0)) in
    let β = κs.1.1.1.1.1.1.1.1.1.1.1.1.0 in
    let new = twice β _ (twice β _ (alone β _ within.1.1.1.1.1.1.0)) in
    let γ = κs.1.1.1.1.1.1.1.1.1.1.1.1.1.0 in
    let watch = ⊑_meet γ _ _ (alone γ _ within.1.1.1.1.1.1.1.0) (⊑_meet γ _ _ (⊑_meet γ _ _ (⊑_refl γ) within.1.1.1.1.1.1.1.0) (alone γ _ (alone γ _ (⊑_refl γ)))) in
    let δ = κs.1.1.1.1.1.1.1.1.1.1.1.1.1.1.0 in
    let feed = twice δ _ (alone δ _ (alone δ _ (⊑_refl δ))) in
    let ζ = κs.1.1.1.1.1.1.1.1.1.1.1.1.1.1.1.0 in
    let made = alone ζ _ (alone ζ _ (⊑_refl ζ)) in
    let out = ⊑_meet ζ _ _ (alone ζ _ within.1.1.1.1.1.1.1.1.0) (⊑_meet ζ _ _ (⊑_meet ζ _ _ (⊑_refl ζ) within.1.1.1.1.1.1.1.1.0) (alone ζ _ (⊑_meet ζ _ _ made (alone ζ _ made)))) in
    (within.1.0, (within.1.1.0, (devices, (⊑_meet α _ _ device device, (⊑_meet β _ _ new new, (watch, (⊑_meet δ _ _ feed feed, (out, (⊑_static κs.1.1.1.1.1.1.1.1.1.1.1.1.1.1.1.1.0, (⊑_static κs.1.1.1.1.1.1.1.1.1.1.1.1.1.1.1.1.1.0, (within.1.1.1.1.1.1.1.1.1.0, (search (rules, sendable), (search (rules, sendable), search (rules, sendable))))))))))))))

-- and so does the rival, who is lent what they are
pub new-devices-requires : goal.new-devices-requires
new-devices-requires g c κs within =
    let κ = κs.1.1.0 in
    let own = ⊑_refl κ in
    let kept = alone κ _ own in
    let other = ⊑_meet κ _ _ (alone κ _ within.1) (⊑_meet κ _ _ (⊑_meet κ _ _ own within.1) (⊑_meet κ _ _ kept (alone κ _ kept))) in
    (within.0, (other, ⊑_static κs.1.1.1.0))
