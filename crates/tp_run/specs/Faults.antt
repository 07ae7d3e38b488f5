-- When each fault comes.
use Rattle.std.specs.Prelude.{Result, Err}
use Rattle.tp_run.specs.declared.fault.RunFault.{RunFault}
use Rattle.tp_run.specs.declared.fault.RunFault.TheVariants.{Opening, Spare, Port, OfferRefused, FlushFailed, OutputFailed, ConfirmRefused, Unaccounted, Memory}

-- whether an answer says that the device wasn't written
abbrev pub IsUnbegun : {A : Type 0} → Result A RunFault → Type 0
IsUnbegun (Err (Opening unopened)) = Unit {0}
IsUnbegun (Err Spare) = Unit {0}
IsUnbegun (Err Port) = Unit {0}
IsUnbegun _ = ⊥

-- whether an answer says that nothing was printed
abbrev pub IsSilent : {A : Type 0} → Result A RunFault → Type 0
IsSilent (Err (Opening unopened)) = Unit {0}
IsSilent (Err Spare) = Unit {0}
IsSilent (Err Port) = Unit {0}
IsSilent (Err OfferRefused) = Unit {0}
IsSilent (Err FlushFailed) = Unit {0}
IsSilent _ = ⊥

-- a fault that handing in the input may give
abbrev pub IsOfferFault : RunFault → Type 0
IsOfferFault OfferRefused = Unit {0}
IsOfferFault Unaccounted = Unit {0}
IsOfferFault Memory = Unit {0}
IsOfferFault _ = ⊥

-- a fault that printing, or what comes after it, may give without a failed call of the device
abbrev pub IsLate : RunFault → Type 0
IsLate OutputFailed = Unit {0}
IsLate ConfirmRefused = Unit {0}
IsLate Unaccounted = Unit {0}
IsLate Memory = Unit {0}
IsLate _ = ⊥

-- a fault that may come after the input was handed in
abbrev pub ComesBehind : RunFault → Type 0
ComesBehind (Opening unopened) = ⊥
ComesBehind Spare = ⊥
ComesBehind Port = ⊥
ComesBehind OfferRefused = ⊥
ComesBehind _ = Unit {0}

-- a fault that may come after the device opened and nothing was found wrong with the job
abbrev pub ComesBegun : RunFault → Type 0
ComesBegun (Opening unopened) = ⊥
ComesBegun Spare = ⊥
ComesBegun Port = ⊥
ComesBegun _ = Unit {0}
