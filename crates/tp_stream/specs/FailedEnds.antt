-- Which output or input a fault names.
use Rattle.std.specs.Prelude.{◌≡◌, ℕ, ◌==◌, Bool, true, List}
use Rattle.tp_stream.specs.Lower.{list_any, OutputValue}
use Rattle.tp_stream.specs.declared.fault.StreamFault.{StreamFault}
use Rattle.tp_stream.specs.declared.fault.StreamFault.TheVariants.{InputFailed, OutputFailed}
use Rattle.tp_stream.specs.declared.output.StepFault.{StepFault}
use Rattle.tp_stream.specs.declared.output.StepFault.TheVariants.{Gone as TakerGone, Fault}
use Rattle.tp_stream.specs.Fitting.{has_sink}

-- whether some source is for this port, if `ports` are those of all sources
abbrev pub has_source : ℕ → List ℕ → Bool
has_source port inputs = list_any (λ p. p == port) inputs

-- If the fault says that an input can't be read, there is a source for its port. If it says that an output can't be put, there is a sink.
abbrev pub NamesEnd : List OutputValue → List ℕ → StreamFault → Type 0
NamesEnd outputs inputs (InputFailed port) = has_source port inputs ≡ true
NamesEnd outputs inputs (OutputFailed port) = has_sink port outputs ≡ true
NamesEnd outputs inputs _ = Unit {0}

-- A fault names neither an input nor an output that failed.
abbrev pub NamesNoEnd : StreamFault → Type 0
NamesNoEnd (InputFailed port) = ⊥
NamesNoEnd (OutputFailed port) = ⊥
NamesNoEnd _ = Unit {0}

-- A fault of a step of this port's output names no other port, and no input.
abbrev pub NamesOutput : ℕ → StreamFault → Type 0
NamesOutput port (InputFailed named) = ⊥
NamesOutput port (OutputFailed named) = named ≡ port
NamesOutput port _ = Unit {0}

-- A fault of a step of this port's input names no other port, and no output.
abbrev pub NamesInput : ℕ → StreamFault → Type 0
NamesInput port (InputFailed named) = named ≡ port
NamesInput port (OutputFailed named) = ⊥
NamesInput port _ = Unit {0}

-- Why a step of this port's output isn't done: whoever takes the output has gone, or it is a fault that names no other port, and no input.
abbrev pub StepNames : ℕ → StepFault → Type 0
StepNames port TakerGone = Unit {0}
StepNames port (Fault fault) = NamesOutput port fault
