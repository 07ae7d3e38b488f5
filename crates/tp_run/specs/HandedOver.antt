-- What a run hands in, and what the journal has of it.
use Rattle.std.specs.Prelude.{◌≡◌, ◌⊎◌, ℕ, List, [], ◌++◌, drop, Option}
use Rattle.tp_run.specs.Lower.{Appends, Entry, NodeState, Network, handed, HasFront}
use Rattle.tp_run.specs.declared.outset.Outset.{Outset}
use Rattle.tp_run.specs.Input.{input_entries}
use Rattle.tp_run.specs.Output.{confirms}
use Rattle.tp_run.specs.Shown.{LeadsToOutputs}

-- After what was handed in before, one entry confirms outputs of a port, and the outlet took exactly these. They are all outputs of the port that
-- weren't confirmed, in the network to which the first `number` entries of a journal lead. If there is no output, there is no entry.
pub record ConfirmsTaken (start : Network NodeState) (journal : List Entry) (port confirmed : ℕ) (was now : Option (List ℕ)) (old new : List Entry) : Type 0 where
  pub printed : List ℕ
  pub taken : Appends was now printed
  pub number : ℕ
  pub shows : LeadsToOutputs start journal number port confirmed printed
  pub handed : new ≡ old ++ confirms port confirmed printed

-- What a run has handed in: nothing; or its input; or its input and then, once the outlet had taken all outputs, that the host has them.
abbrev pub HandsIn : Network NodeState → List Entry → Outset → List ℕ → Option (List ℕ) → Option (List ℕ) → List Entry → Type 0
HandsIn start journal outset input was now entries =
    (entries ≡ []) ⊎ ((entries ≡ input_entries outset input)
    ⊎ ConfirmsTaken start journal outset.port outset.confirmed was now (input_entries outset input) entries)

-- A run has handed in some entries. Those that the journal has of them since the device opened are the first ones. The host handed in nothing else.
pub record HandedOver (start : Network NodeState) (journal : List Entry) (outset : Outset) (input : List ℕ) (was now : Option (List ℕ)) : Type 0 where
  pub entries : List Entry
  pub hands : HandsIn start journal outset input was now entries
  pub front : HasFront entries (handed (drop outset.next journal))
