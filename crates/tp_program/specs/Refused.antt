-- Which refusals a part of a command may answer. Each other one would be untrue of it.
use Rattle.tp_program.specs.Lower.{Refusal, Memory, ReadFailed, NoTopology}

-- why a file isn't read: the system says so, or memory ran out
abbrev pub IsReadFault : Refusal → Type 0
IsReadFault ReadFailed = Unit {0}
IsReadFault Memory = Unit {0}
IsReadFault other = ⊥

-- why a topology and its images aren't read: so it is, or the text says no topology
abbrev pub IsNetworkFault : Refusal → Type 0
IsNetworkFault (NoTopology fault) = Unit {0}
IsNetworkFault refusal = IsReadFault refusal
