-- Calls of the store as events of a run: its device calls with the positions of the flusher that they lead to.
use Rattle.std.specs.Prelude.{◌≡◌, ℕ, ◌+◌, List, [], ◌∷◌, map, Option, Some, None}
use Rattle.tp_law_network.specs.Lower.{Entry, Call, Write, Sync, Read, done, Areas, Held, gate_open, gate_closed, Position, Resting, Body, Ready, Gate, Cleared, Opening, Opened, Allows, reached, left, World, Event, Does}

-- the world after a device call that was done
abbrev pub moved_on : {Node : Type 0} → World Node → Call → Position Node → World Node
moved_on w call to = record w { disk = done call w.disk; at = to; stored = reached w.at w.stored; backlog = left w.at w.backlog }

-- each call is allowed in its turn
abbrev pub ArePlanned : {Node : Type 0} → Areas Node → World Node → List (Call × Position Node) → Type 0
ArePlanned A w [] = Unit {0}
ArePlanned A w (step ∷ plan) = Allows A w.disk w.backlog w.at step.0 step.1 × ArePlanned A (moved_on w step.0 step.1) plan

-- before the last call nothing more counts as stored, and nothing of the backlog is in a group
abbrev pub AreQuiet : {Node : Type 0} → World Node → List (Call × Position Node) → Type 0
AreQuiet w [] = Unit {0}
AreQuiet w (step ∷ []) = Unit {0}
AreQuiet w (step ∷ next ∷ plan) =
    (reached w.at w.stored ≡ w.stored) × (left w.at w.backlog ≡ w.backlog) × AreQuiet (moved_on w step.0 step.1) (next ∷ plan)

-- the device calls of a plan, the worlds before each of them, the world after all of them, and its events
abbrev pub calls_of : {Node : Type 0} → List (Call × Position Node) → List Call
calls_of plan = map (λ step. step.0) plan

abbrev pub worlds_of : {Node : Type 0} → World Node → List (Call × Position Node) → List (World Node)
worlds_of w [] = []
worlds_of w (step ∷ plan) = w ∷ worlds_of (moved_on w step.0 step.1) plan

abbrev pub all_moved : {Node : Type 0} → World Node → List (Call × Position Node) → World Node
all_moved w [] = w
all_moved w (step ∷ plan) = all_moved (moved_on w step.0 step.1) plan

abbrev pub all_does : {Node : Type 0} → List (Call × Position Node) → List (Event Node)
all_does plan = map (λ step. Does step.0 step.1) plan

-- ## The plans of the store's calls

-- a group is appended
abbrev pub group_plan : {Node : Type 0} → ℕ → List ℕ → List Entry → List (Call × Position Node)
group_plan gate body es = (Write (gate + 1) body, Body gate es) ∷ (Sync, Ready gate es) ∷ (Write gate gate_open, Gate gate es) ∷ (Sync, Resting) ∷ []

-- the other area's gate is read, and closed if it is open
abbrev pub clear_plan : {Node : Type 0} → Option ℕ → List (Call × Position Node)
clear_plan None = (Read, Resting) ∷ []
clear_plan (Some gate) = (Read, Resting) ∷ (Write gate gate_closed, Cleared) ∷ (Sync, Resting) ∷ []

-- bytes are written at places, while the flusher stays where it is, and then the rest of a plan
abbrev pub put_then : {Node : Type 0} → Position Node → List (ℕ × List ℕ) → List (Call × Position Node) → List (Call × Position Node)
put_then at [] last = last
put_then at (piece ∷ pieces) last = (Write piece.0 piece.1, at) ∷ put_then at pieces last

-- the areas are switched
abbrev pub switch_plan : {Node : Type 0} → ℕ → Held Node → ℕ → List (Call × Position Node)
switch_plan gate copy upto = (Write gate gate_open, Opening copy upto) ∷ (Sync, Opened copy upto) ∷ []
