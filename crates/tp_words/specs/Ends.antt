-- Ends of a stream's ports that were typed.
use Rattle.std.specs.Prelude.{◌≡◌, ◌≢◌, ◌⊎◌, ◌<◌, ◌≤◌, ◌^◌, ◌==◌, ◌+◌, ℕ, Bool, false, List, [], ◌∷◌, ◌++◌, Option, Some, None, All, Any, map, length, count_by, if◌then◌else◌, nat_lt, codes, string_bytes}
use Rattle.tp_words.specs.Lower.{decimal, option_or, Global, String, MAX_PORTS, is_standard, standard_port, Ends, PortFile, PortNumber}
use Rattle.tp_words.specs.Given.{all_given}
use Rattle.tp_words.specs.declared.stream_ends.EndsFault.{EndsFault}
use Rattle.tp_words.specs.declared.stream_ends.EndsFault.TheVariants.{File, Have, Discard, TwoOutputs, TwoInputs, TwoStandard, NoReader, Memory}
use Rattle.tp_words.specs.declared.stream_ends.FileOption.{FileOption}
use Rattle.tp_words.specs.declared.stream_ends.FileOption.TheVariants.{Out, In}

-- how an end is typed: the decimal of its port, an equals sign, and its path
abbrev pub file_text : PortFile → List ℕ
file_text file = decimal file.port ++ 61 ∷ string_bytes file.path

-- how it is typed what a reader has: the decimal of its port, an equals sign, and the decimal of the number
abbrev pub have_text : PortNumber → List ℕ
have_text have = decimal have.port ++ 61 ∷ decimal have.number

-- an end may be there: its port is one that a device may have, and its path isn't empty
abbrev pub IsFile : PortFile → Type 0
IsFile file = (file.port < MAX_PORTS) × (0 < length (string_bytes file.path))

abbrev pub IsHave : PortNumber → Type 0
IsHave have = have.port < MAX_PORTS

abbrev pub IsPort : ℕ → Type 0
IsPort port = port < MAX_PORTS

-- a text is how no end is typed, nothing that a reader has, and no port
abbrev pub IsNoFile : List ℕ → Type 0
IsNoFile text = (port : ℕ) (path : List ℕ) → port < MAX_PORTS → 0 < length path → text ≢ decimal port ++ 61 ∷ path

abbrev pub IsNoHave : List ℕ → Type 0
IsNoHave text = (port : ℕ) (number : ℕ) → port < MAX_PORTS → number < 2 ^ 64 → text ≢ decimal port ++ 61 ∷ decimal number

abbrev pub IsNoPort : List ℕ → Type 0
IsNoPort text = (port : ℕ) → port < MAX_PORTS → text ≢ decimal port

-- the name of an option that takes files
abbrev pub id_of : FileOption → List ℕ
id_of Out = codes "out"
id_of In = codes "in"

-- how many places the output of a port has
abbrev pub places : Ends → ℕ → ℕ
places ends port = count_by (λ file. file.port == port) ends.outs.items + count_by (λ other. other == port) ends.discards.items

-- how many inputs it has
abbrev pub input_count : Ends → ℕ → ℕ
input_count ends port = count_by (λ file. file.port == port) ends.ins.items

-- how many of the files are standard output, or standard input
abbrev pub standard_count : List PortFile → ℕ
standard_count files = count_by is_standard files

-- No port below a bound has two places for its output, or two inputs.
abbrev pub AreApart : ℕ → Ends → Type 0
AreApart bound ends = (port : ℕ) → port < bound → (places ends port ≤ 1) × (input_count ends port ≤ 1)

-- what is wrong with the ends of a port: first that its output goes to two places, and then that it has two inputs
abbrev pub fault_at : Ends → ℕ → Option EndsFault
fault_at ends port =
    if nat_lt 1 (places ends port) then Some (TwoOutputs port) else if nat_lt 1 (input_count ends port) then Some (TwoInputs port) else None

-- what is wrong with the first port at which something is
abbrev pub IsFirstFault : Ends → Option EndsFault → Type 0
IsFirstFault ends None = AreApart MAX_PORTS ends
IsFirstFault ends (Some fault) = (port : ℕ) × (port < MAX_PORTS) × AreApart port ends × (fault_at ends port ≡ Some fault)

-- this is the port
abbrev pub is_port : Option ℕ → ℕ → Bool
is_port None port = false
is_port (Some other) port = other == port

-- what is wrong with a second number of a reader
abbrev pub second_reader : List PortNumber → Option EndsFault
second_reader [] = None
second_reader (have ∷ haves) = Some (NoReader have.port)

-- what is wrong with what readers have, if standard output is that port's: the first number is for another port, or there are two
abbrev pub reader_fault : Option ℕ → List PortNumber → Option EndsFault
reader_fault out [] = None
reader_fault out (have ∷ haves) = if is_port out have.port then second_reader haves else Some (NoReader have.port)

-- what is wrong with ends whose ports are apart: first that standard output is there twice, then that standard input is, then what readers have
abbrev pub fault_behind : Ends → Option EndsFault
fault_behind ends =
    if nat_lt 1 (standard_count ends.outs.items) then Some (TwoStandard Out)
    else if nat_lt 1 (standard_count ends.ins.items) then Some (TwoStandard In)
    else reader_fault (standard_port ends.outs.items) ends.haves.items

-- what is wrong with ends, and what is told first
abbrev pub IsFaultOf : Ends → Option EndsFault → Type 0
IsFaultOf ends result = (first : Option EndsFault) × IsFirstFault ends first × (result ≡ option_or first (fault_behind ends))

-- One reader at most counts, and that is standard output's.
abbrev pub HasReader : Ends → Type 0
HasReader ends = (length ends.haves.items ≤ 1) × All (λ (have : PortNumber). standard_port ends.outs.items ≡ Some have.port) ends.haves.items

-- Nothing is wrong with them: no port has two places for its output, or two inputs; at most one is standard output, and at most one standard input;
-- at most one reader counts.
pub record AreSound (ends : Ends) : Type 0 where
  pub apart : AreApart MAX_PORTS ends
  pub one_out : standard_count ends.outs.items ≤ 1
  pub one_in : standard_count ends.ins.items ≤ 1
  pub reader : HasReader ends

-- Each port is one that a device may have, each path has a name, and nothing is wrong with them.
pub record AreEnds (ends : Ends) : Type 0 where
  pub outs : All IsFile ends.outs.items
  pub haves : All IsHave ends.haves.items
  pub discards : All IsPort ends.discards.items
  pub ins : All IsFile ends.ins.items
  pub sound : AreSound ends

-- They are those that were typed: each for the port that is before it, in order.
pub record WereTyped (words : List (String Global)) (ends : Ends) : Type 0 where
  pub outs : map file_text ends.outs.items ≡ all_given (codes "out") words
  pub haves : map have_text ends.haves.items ≡ all_given (codes "have") words
  pub discards : map decimal ends.discards.items ≡ all_given (codes "discard") words
  pub ins : map file_text ends.ins.items ≡ all_given (codes "in") words

-- the texts are typed ends, numbers that readers have, ports
abbrev pub AreFiles : List (List ℕ) → Type 0
AreFiles texts = (files : List PortFile) × All IsFile files × (map file_text files ≡ texts)

abbrev pub AreHaves : List (List ℕ) → Type 0
AreHaves texts = (haves : List PortNumber) × All IsHave haves × (map have_text haves ≡ texts)

abbrev pub ArePorts : List (List ℕ) → Type 0
ArePorts texts = (ports : List ℕ) × All IsPort ports × (map decimal ports ≡ texts)

-- Why what was typed for an option isn't taken: out of memory, or the option doesn't take one of the texts.
abbrev pub IsTextFault : (List ℕ → Type 0) → EndsFault → List (List ℕ) → EndsFault → Type 0
IsTextFault IsNone own typed fault = (fault ≡ Memory) ⊎ ((fault ≡ own) × Any IsNone typed)

-- Why words name no ends. What was typed for the options is checked in the order `--out`, `--have`, `--discard`, `--in`: the first fault is told. If
-- all are right, it is told what is wrong with the ends.
abbrev pub IsRefused : List (String Global) → EndsFault → Type 0
IsRefused words Memory = Unit {0}
IsRefused words (File Out) = Any IsNoFile (all_given (codes "out") words)
IsRefused words Have = AreFiles (all_given (codes "out") words) × Any IsNoHave (all_given (codes "have") words)
IsRefused words Discard = AreFiles (all_given (codes "out") words) × AreHaves (all_given (codes "have") words)
    × Any IsNoPort (all_given (codes "discard") words)
IsRefused words (File In) = AreFiles (all_given (codes "out") words) × AreHaves (all_given (codes "have") words)
    × ArePorts (all_given (codes "discard") words) × Any IsNoFile (all_given (codes "in") words)
IsRefused words (TwoOutputs port) = (ends : Ends) × WereTyped words ends × IsFaultOf ends (Some (TwoOutputs port))
IsRefused words (TwoInputs port) = (ends : Ends) × WereTyped words ends × IsFaultOf ends (Some (TwoInputs port))
IsRefused words (TwoStandard option) = (ends : Ends) × WereTyped words ends × IsFaultOf ends (Some (TwoStandard option))
IsRefused words (NoReader port) = (ends : Ends) × WereTyped words ends × IsFaultOf ends (Some (NoReader port))
