use Rattle.std.proofs.Common.{◌≡◌, ℕ, suc, [], Some, refl, ◌∙◌}
use Rattle.tp_law_machine.proofs.Lower.{step_of, node_step, t414, steps}
use Rattle.tp_law_machine.specs.Transfers.{has_sent, has_jumped, jumps}
use Rattle.tp_law_machine.proofs.Steps.{steps-behind}
use Rattle.tp_law_machine.proofs.examples.links.a_slice_ends.Goals as goal

-- a dispatch and 1,020 jumps
jumped : steps t414 1021 has_sent ≡ Some (jumps 1020, [])
unfolding step_of node_step steps
jumped = refl

-- the last jumps of a slice
ends : steps t414 4 (jumps 1020) ≡ Some (has_jumped, [])
unfolding step_of node_step steps
ends = refl

-- the dispatch begins a slice, whatever the last one was
again : (count : ℕ) → steps t414 (suc count) has_jumped ≡ steps t414 (suc count) has_sent
unfolding step_of node_step steps
again count = refl

slice : steps t414 1025 has_sent ≡ Some (has_jumped, [])
slice = steps-behind t414 1021 4 has_sent (jumps 1020) jumped ∙ ends

another : steps t414 1025 has_jumped ≡ Some (has_jumped, [])
another = again 1024 ∙ slice

pub returns-clause-whole : goal.returns-clause-whole
returns-clause-whole c = slice

pub returns-clause-more : goal.returns-clause-more
returns-clause-more c =
    steps-behind t414 1025 3071 has_sent has_jumped slice ∙ steps-behind t414 1025 2046 has_jumped has_jumped another ∙ steps-behind t414 1025 1021 has_jumped has_jumped another ∙ again 1020 ∙ jumped
