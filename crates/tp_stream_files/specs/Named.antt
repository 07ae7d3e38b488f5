-- What is typed for a stream's ports, as outputs and inputs.
use Rattle.std.specs.Prelude.{◌≡◌, ℕ, Bool, false, Option, Some, None, List, [], ◌∷◌, ◌++◌, if◌then◌else◌, nat_eq, bytes_eq, map, string_bytes, All, AllPairs}
use Rattle.tp_stream_files.specs.Inputs.{NamedInput, named_input}
use Rattle.tp_stream_files.specs.Outputs.{OutputValue}
use Rattle.tp_stream_files.specs.declared.ends.Ends.{Ends}
use Rattle.tp_stream_files.specs.declared.ends.PortFile.{PortFile}
use Rattle.tp_stream_files.specs.declared.ends.PortNumber.{PortNumber}

-- whether it is standard input or output
abbrev pub is_standard : PortFile → Bool
is_standard file = bytes_eq (string_bytes file.path) (45 ∷ [])

-- Two ends are one file, by their paths.
abbrev pub HaveOnePath : PortFile → PortFile → Type 0
HaveOnePath one other = (is_standard one ≡ false) × (string_bytes one.path ≡ string_bytes other.path)

-- The file of each output has a path of its own: it isn't that of the device, of an input, or of another output.
pub record HaveOwnPaths (device : List ℕ) (outs ins : List PortFile) : Type 0 where
  pub beside : All (λ (end : PortFile). is_standard end ≡ false → string_bytes end.path ≡ device → ⊥) outs
  pub inputs : All (λ (end : PortFile). All (λ (input : PortFile). HaveOnePath end input → ⊥) ins) outs
  pub outputs : AllPairs (λ (before end : PortFile). HaveOnePath end before → ⊥) outs

-- the port of the first one that is standard input or output
abbrev pub standard_port : List PortFile → Option ℕ
standard_port [] = None
standard_port (file ∷ files) = if is_standard file then Some file.port else standard_port files

-- up to which position the reader of a port has its output: the first number that is typed for it
abbrev pub have_in : List PortNumber → ℕ → Option ℕ
have_in [] port = None
have_in (have ∷ haves) port = if nat_eq have.port port then Some have.number else have_in haves port

-- the path of its file, if it isn't standard input or output
abbrev pub path_named : PortFile → Option (List ℕ)
path_named end = if is_standard end then None else Some (string_bytes end.path)

-- the output of a port before anything is put, if its reader has it up to position `have`, and the file at `path` takes it
abbrev pub fresh_output : ℕ → Option ℕ → (path : Option (List ℕ)) → OutputValue
fresh_output port have path = record { port = port; have = have; path = path; confirmed = 0; next = 0; held = None }

-- the output of a port that goes to a file or to standard output
abbrev pub output_to : List PortNumber → PortFile → OutputValue
output_to haves end = fresh_output end.port (have_in haves end.port) (path_named end)

-- the output of a port whose bytes are discarded
abbrev pub output_away : ℕ → OutputValue
output_away port = fresh_output port None None

-- the input of a port that comes from a file or from standard input
abbrev pub input_from : PortFile → NamedInput
input_from end = named_input end.port (path_named end)

-- all inputs, in order, each from the file at its own path
abbrev pub inputs_named : Ends → List NamedInput
inputs_named ends = map input_from ends.ins.items

-- all outputs, each with what its own reader has, and into the file at its own path
abbrev pub outputs_named : Ends → List OutputValue
outputs_named ends = map (output_to ends.haves.items) ends.outs.items ++ map output_away ends.discards.items
