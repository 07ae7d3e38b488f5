-- What is said of words that ask for nothing. `None` stands for a text that isn't told here.
use Rattle.std.specs.Prelude.{ℕ, List, [], ◌∷◌, ◌++◌, codes, decimal, Option, Some, None}
use Rattle.tp_words.specs.declared.arg_fault.ArgFault.{ArgFault}
use Rattle.tp_words.specs.declared.arg_fault.ArgFault.TheVariants as arg
use Rattle.tp_words.specs.declared.stream_ends.EndsFault.{EndsFault}
use Rattle.tp_words.specs.declared.stream_ends.EndsFault.TheVariants as ends

-- a line of standard error
abbrev pub line : List ℕ → List ℕ
line text = codes "tpnet: " ++ (text ++ 10 ∷ [])

abbrev pub arg_text : ArgFault → Option (List ℕ)
arg_text arg.Number = Some (line (codes "a number of a node or a port is a decimal below 2^64, without a sign or leading zeros"))
arg_text arg.Order = Some (line (codes "--to is below --from: there is no entry between them"))
arg_text arg.Links = Some (line (codes "--in takes L=FILE, L a link from 0 to 3; as --in 0=bytes"))
arg_text arg.BothExplain = Some (line (codes "--explain and --no-explain are both there: leave one of them"))
arg_text arg.Missing = Some (line (codes "a word is missing; see tpnet --help"))
arg_text arg.Memory = Some (line (codes "Memory"))
arg_text _ = None

abbrev pub ends_text : EndsFault → Option (List ℕ)
ends_text ends.Have = Some (line (codes "--have takes P=Z, P a port from 0 to 7 and Z a decimal; as --have 0=4096"))
ends_text ends.Discard = Some (line (codes "--discard takes a port from 0 to 7"))
ends_text ends.Memory = Some (line (codes "Memory"))
ends_text _ = None
