-- What a trial answers.
use Rattle.std.specs.Prelude.{◌≡◌, ℕ, List, Option, Some, None, Result, Ok, Err, Vec}
use Rattle.tp_turn.specs.Lower.{Global, Entry, NodeState, t414, Network, after, Standing}
use Rattle.tp_turn.specs.Lone.{IsOutputOf, StandsAs}
use Rattle.tp_turn.specs.Tried.{lone_network}
use Rattle.tp_turn.specs.TrialTurns.{AreTurns}
use Rattle.tp_turn.specs.declared.image.TryFault.{TryFault}
use Rattle.tp_turn.specs.declared.image.TryFault.TheVariants.{BadImage, Memory}
use Rattle.tp_turn.specs.declared.trial.Trial.{Trial}

-- The output is what the port holds after some entries, which are those of `turns` turns of the network.
pub record IsOutput (node : NodeState) (turns quantum : ℕ) (output : List ℕ) : Type 0 where
  pub entries : List Entry
  pub end : Network NodeState
  pub leads : after t414 (lone_network node) entries ≡ Some end
  pub turned : AreTurns quantum turns (lone_network node) entries end
  pub held : IsOutputOf end output

-- The output, and the state between turns of the node to which they lead.
pub record IsTrial (node : NodeState) (turns quantum : ℕ) (output : List ℕ) (standing : Standing) : Type 0 where
  pub output_is : IsOutput node turns quantum output
  pub stands : StandsAs output_is.end standing

-- The answer is `BadImage` exactly if the image is none of a node with idle links, and `Memory` is only answered if it is one.
abbrev pub OutputAs : Option NodeState → ℕ → ℕ → Result (Vec ℕ Global) TryFault → Type 0
OutputAs (Some node) turns quantum (Ok output) = IsOutput node turns quantum output.items
OutputAs (Some node) turns quantum (Err Memory) = Unit {0}
OutputAs (Some node) turns quantum (Err BadImage) = ⊥
OutputAs None turns quantum (Err BadImage) = Unit {0}
OutputAs None turns quantum (Err Memory) = ⊥
OutputAs None turns quantum (Ok output) = ⊥

abbrev pub TrialAs : Option NodeState → ℕ → ℕ → Result Trial TryFault → Type 0
TrialAs (Some node) turns quantum (Ok trial) = IsTrial node turns quantum trial.output.items trial.standing
TrialAs (Some node) turns quantum (Err Memory) = Unit {0}
TrialAs (Some node) turns quantum (Err BadImage) = ⊥
TrialAs None turns quantum (Err BadImage) = Unit {0}
TrialAs None turns quantum (Err Memory) = ⊥
TrialAs None turns quantum (Ok trial) = ⊥
