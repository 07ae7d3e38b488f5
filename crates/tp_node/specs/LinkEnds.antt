-- What a call that does what an instruction asks of an end of a link answers and leaves.
use Rattle.std.specs.Prelude.{◌≡◌, ℕ, List, Option, Result, Ok, Err}
use Rattle.tp_node.specs.Lower.{Kept, LacksFrames, kept_behind, LinkOutcome, Did, Fails, Cpu, Token, Undone, Faulty, NoFrame, Asks, Wants}

-- it can be done
abbrev pub IsDone : {End : Type 0} → LinkOutcome End → Type 0
IsDone (Did cpu memory end token) = Unit {0}
IsDone (Fails fault) = ⊥

-- why nothing was done; `cause` has to be true if memory has no frame
abbrev pub IsLinkUndone : {End : Type 0} → LinkOutcome End → Type 0 → Undone → Type 0
IsLinkUndone outcome cause (Faulty fault) = outcome ≡ Fails fault
IsLinkUndone outcome cause NoFrame = IsDone outcome × cause
IsLinkUndone outcome cause (Asks request) = ⊥
IsLinkUndone outcome cause (Wants request) = ⊥

-- The processor, the memory and the end are what the outcome says, and the answer is the token that leaves; else nothing has changed, and
-- the answer says why. If a frame is missing, there are too few for the ranges.
abbrev pub LinkEnds : {End : Type 0} → LinkOutcome End → List (ℕ × ℕ) → Kept → Cpu → List ℕ → End → Result (Option Token) Undone → Cpu → List ℕ → End → Type 0
LinkEnds outcome ranges kept before was end (Ok token) after now new = outcome ≡ Did after now new token
LinkEnds outcome ranges kept before was end (Err undone) after now new = IsLinkUndone outcome (LacksFrames kept ranges) undone × (after ≡ before) × (now ≡ was) × (new ≡ end)

-- what a call leaves beside the live bytes, by its answer: if nothing was done, all is as it was
abbrev pub kept_done : {A E : Type 0} → Result A E → Kept → List (ℕ × ℕ) → Kept
kept_done (Ok x) kept ranges = kept_behind kept ranges
kept_done (Err e) kept ranges = kept
