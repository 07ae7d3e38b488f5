-- When a stream is over, by its turns and by what the steps of its outputs and inputs came to after them.
use Rattle.std.specs.Prelude.{◌≡◌, ◌⊎◌, ◌<◌, ◌≤◌, ℕ, Bool, ◌&&◌, ◌||◌, true, false, nat_le, nat_lt, if◌then◌else◌, Option, None, Some, is_none, not}
use Rattle.tp_stream.specs.Lower.{Ending, Quiet, BoundReached, Gone, Halted, Stopped}
use Rattle.tp_stream.specs.declared.task.Task.{Task}
use Rattle.tp_stream.specs.declared.turns.Turns.{Turns}
use Rattle.tp_stream.specs.declared.pumping.Pumped.{Pumped}
use Rattle.tp_stream.specs.declared.pumping.Pumped.TheVariants.{Nothing, Moved, Gone as TakerGone}

-- Nothing is left to do. More turns in a row than there are nodes had nothing to do, no output or input has moved, and no input is left that its port
-- may take.
pub record IsNothingLeft (turns : Turns) (nodes : ℕ) (pumped : Pumped) (over : Bool) : Type 0 where
  pub turns_are : nodes < turns.idle
  pub pumped_is : pumped ≡ Nothing
  pub over_is : over ≡ true

-- The task has a bound on turns, and it was reached.
abbrev pub IsBoundReached : Task → Turns → Type 0
IsBoundReached task turns = (most : ℕ) × (task.turns ≡ Some most) × (most ≤ turns.made)

-- The stream may end for this reason, given whether it was `asked` to stop.
abbrev pub IsEnding : Task → Turns → ℕ → Bool → Pumped → Bool → Ending → Type 0
IsEnding task turns nodes asked pumped over Quiet = (task.until_quiet ≡ true) × IsNothingLeft turns nodes pumped over
IsEnding task turns nodes asked pumped over BoundReached = IsBoundReached task turns
IsEnding task turns nodes asked pumped over Gone = (pumped ≡ TakerGone) ⊎ ((task.turns ≡ None) × (task.until_quiet ≡ false) × IsNothingLeft turns nodes pumped over)
IsEnding task turns nodes asked pumped over Halted = (task.stop_on_halt ≡ true) × (turns.has_halted ≡ true)
IsEnding task turns nodes asked pumped over Stopped = asked ≡ true

-- ## Which reason comes first

-- whether as many turns were made as the bound allows; `false` without a bound
abbrev pub reaches_bound : Option ℕ → ℕ → Bool
reaches_bound None made = false
reaches_bound (Some most) made = nat_le most made

abbrev pub is_bound_reached : Task → Turns → Bool
is_bound_reached task turns = reaches_bound task.turns turns.made

-- whether no turn may be made, or no turn has anything left to do
abbrev pub is_done : Task → Turns → ℕ → Bool
is_done task turns nodes = is_bound_reached task turns || (task.stop_on_halt && turns.has_halted) || nat_lt nodes turns.idle

-- whether no output or input has moved
abbrev pub is_nothing : Pumped → Bool
is_nothing Nothing = true
is_nothing Moved = false
is_nothing TakerGone = false

-- whether someone who takes an output has gone
abbrev pub is_taker_gone : Pumped → Bool
is_taker_gone Nothing = false
is_taker_gone Moved = false
is_taker_gone TakerGone = true

-- whether nothing is left to do in turns, no output or input has moved, and no input is left that its port may take
abbrev pub is_nothing_left : Turns → ℕ → Pumped → Bool → Bool
is_nothing_left turns nodes pumped over = nat_lt nodes turns.idle && is_nothing pumped && over

-- Why the stream is over: the first of these reasons; `None` if it goes on.
abbrev pub ending_of : Task → Turns → ℕ → Bool → Pumped → Bool → Option Ending
ending_of task turns nodes asked pumped over =
    if asked then Some Stopped
    else if task.stop_on_halt && turns.has_halted then Some Halted
    else if is_taker_gone pumped then Some Gone
    else if is_nothing_left turns nodes pumped over && task.until_quiet then Some Quiet
    else if is_nothing_left turns nodes pumped over && is_none task.turns then Some Gone
    else if is_bound_reached task turns then Some BoundReached
    else None

-- whether nothing is left to do but to wait for input, after steps that came to this; `over` says whether no input is left
abbrev pub lacks_input : Turns → ℕ → Pumped → Bool → Bool
lacks_input turns nodes Nothing over = nat_lt nodes turns.idle && not over
lacks_input turns nodes Moved over = false
lacks_input turns nodes TakerGone over = false
