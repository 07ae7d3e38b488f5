-- What a call that makes a step of a node answers and leaves.
use Rattle.std.specs.Prelude.{◌≡◌, ℕ, List, Option, Some, None, option_to_list}
use Rattle.tp_node.specs.Lower.{NodeState, Kept, kept_behind, Token}
use Rattle.tp_node.specs.declared.step.StepOutcome.{StepOutcome}
use Rattle.tp_node.specs.declared.step.StepOutcome.TheVariants.{Step, Idle, NoFrame}

-- The node is the one after the step, and the answer is what leaves, with its link. If there is no step, or memory has no frame, nothing
-- has changed; the latter has a cause.
abbrev pub Makes : Option (NodeState × List (ℕ × Token)) → Type 0 → NodeState → StepOutcome → NodeState → Type 0
Makes (Some after) cause before (Step token) now = (now ≡ after.0) × (option_to_list token ≡ after.1)
Makes (Some after) cause before NoFrame now = cause × (now ≡ before)
Makes (Some after) cause before Idle now = ⊥
Makes None cause before Idle now = now ≡ before
Makes None cause before (Step token) now = ⊥
Makes None cause before NoFrame now = ⊥

-- what such a call leaves beside the live bytes
abbrev pub kept_made : StepOutcome → Kept → List (ℕ × ℕ) → Kept
kept_made (Step token) kept ranges = kept_behind kept ranges
kept_made Idle kept ranges = kept
kept_made NoFrame kept ranges = kept
