-- What `trace` of an image asks for, and `try` of steps.
use Rattle.std.specs.Prelude.{◌≡◌, ◌⊎◌, ◌≤◌, ◌<◌, ◌==◌, ◌^◌, ℕ, All, Any, List, codes, count_by, map, string_bytes, None}
use Rattle.tp_words.specs.Lower.{option_map, Global, String, PortFile}
use Rattle.tp_words.specs.Ends.{IsNoFile, file_text}
use Rattle.tp_words.specs.Given.{IsGivenOr, all_given, given}
use Rattle.tp_words.specs.declared.arg_fault.ArgFault.{ArgFault}
use Rattle.tp_words.specs.declared.arg_fault.ArgFault.TheVariants.{Links, TwoInputs, Memory}
use Rattle.tp_words.specs.declared.args.TheConstants.{STEPS}
use Rattle.tp_words.specs.declared.trace_args.ImageTrace.{ImageTrace}
use Rattle.tp_words.specs.declared.trace_args.TheConstants.{MAX_WATCHED, WATCHED}
use Rattle.tp_words.specs.declared.trace_args.TraceLines.{TraceLines}
use Rattle.tp_words.specs.declared.trace_args.TraceLines.TheVariants.{Every, Sending}
use Rattle.tp_words.specs.declared.words.Name.{Name}
use Rattle.tp_words.specs.declared.words.Name.TheVariants as of

-- It is one of the four links, and one of these files at most is for it.
abbrev pub IsOfLink : List PortFile → ℕ → Type 0
IsOfLink files link = (link < 4) × (count_by (λ file. file.port == link) files ≤ 1)

-- Each file is for a link, and no two are for one.
abbrev pub AreOfLinks : List PortFile → Type 0
AreOfLinks files = All (λ (file : PortFile). IsOfLink files file.port) files

-- the command that prints these lines
abbrev pub lines_command : TraceLines → Name
lines_command Every = of.Trace
lines_command Sending = of.Try

-- What is wrong with a file of a link, beside others: its link is none of a node, or has another file.
abbrev pub IsLinkFault : List PortFile → ℕ → ArgFault → Type 0
IsLinkFault files link Links = 4 ≤ link
IsLinkFault files link (TwoInputs other) = (other ≡ link) × (1 < count_by (λ file. file.port == link) files)
IsLinkFault files link _ = ⊥

-- something is wrong with one of the files
abbrev pub IsLinksFault : List PortFile → ArgFault → Type 0
IsLinksFault files fault = Any (λ (file : PortFile). IsLinkFault files file.port fault) files

-- why texts name no files of links: out of memory, one is no number, equals sign and path, or something is wrong with the files
abbrev pub IsInputFault : List (List ℕ) → ArgFault → Type 0
IsInputFault texts fault =
    (fault ≡ Memory) ⊎ ((fault ≡ Links) × Any IsNoFile texts) ⊎ ((files : List PortFile) × (map file_text files ≡ texts) × IsLinksFault files fault)

-- `try` makes steps if no turns were typed
abbrev pub HasNoTurns : List (String Global) → TraceLines → Type 0
HasNoTurns words Every = Unit {0}
HasNoTurns words Sending = given (codes "turns") words ≡ None

-- Each number is in its range, and each file is for a link.
pub record IsImageTrace (trace : ImageTrace) : Type 0 where
  pub steps : (0 < trace.steps) × (trace.steps < 2 ^ 32)
  pub bytes : (0 < trace.bytes) × (trace.bytes ≤ MAX_WATCHED)
  pub inputs : AreOfLinks trace.inputs.items

-- They are what was typed for them, and else what docs/PROGRAM.md says: each file for the link that stands in front of it, in order.
pub record IsTypedImage (words : List (String Global)) (trace : ImageTrace) : Type 0 where
  pub steps : IsGivenOr STEPS trace.steps (given (codes "steps") words)
  pub inputs : map file_text trace.inputs.items ≡ all_given (codes "in") words
  pub names : given (codes "map") words ≡ option_map string_bytes trace.map
  pub until : given (codes "until") words ≡ option_map string_bytes trace.until
  pub watch : given (codes "watch") words ≡ option_map string_bytes trace.watch
  pub bytes : IsGivenOr WATCHED trace.bytes (given (codes "bytes") words)
