-- How a run of a node ends.
use Rattle.std.specs.Prelude.{◌≡◌, ◌<◌, ℕ, None, IsSome}
use Rattle.tp_node.specs.Lower.{NodeState, node_step}
use Rattle.tp_node.specs.declared.run.Why.{Why}
use Rattle.tp_node.specs.declared.run.Why.TheVariants.{Full, Idle, NoFrame, Halted}

-- how many steps were allowed and how many were made; and why no more
pub record RunEnd : Type 0 where
  pub max : ℕ
  pub count : ℕ
  pub why : Why

-- All steps were made; or there is no step; or memory has no frame for the next one, which has a cause; or the node has halted.
abbrev pub IsWhy : Why → ℕ → ℕ → Type 0 → NodeState → Type 0
IsWhy Full max count cause now = count ≡ max
IsWhy Idle max count cause now = (count < max) × (node_step now ≡ None) × (now.cpu.halt ≡ None)
IsWhy NoFrame max count cause now = (count < max) × IsSome (node_step now) × cause
IsWhy Halted max count cause now = (count < max) × IsSome now.cpu.halt
