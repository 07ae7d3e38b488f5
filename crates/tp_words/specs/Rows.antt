-- What may be typed after each command: its places and its options.
use Rattle.std.specs.Prelude.{ℕ, Bool, true, false, List, [], ◌∷◌, codes, map}
use Rattle.tp_words.specs.declared.rows.Kind.{Kind}
use Rattle.tp_words.specs.declared.rows.Kind.TheVariants as kind
use Rattle.tp_words.specs.declared.words.Name.{Name}
use Rattle.tp_words.specs.declared.words.Name.TheVariants as of
use Rattle.tp_words.specs.declared.words.Word.{Word}
use Rattle.tp_words.specs.declared.words.Word.TheVariants.{Place, Instead, Flag, Mark, Unless, Value, Needed, Alone, Many}

-- A place or an option: how it is typed, its name, whether it has to be there, and the options that may not be beside it.
pub record Row : Type 0 where
  pub kind : Kind
  pub id : List ℕ
  pub is_needed : Bool
  pub apart : List (List ℕ)

abbrev pub place : List ℕ → Row
place id = record { kind = kind.Place; id = id; is_needed = true; apart = [] }

-- a last place that may be there
abbrev pub last_place : List ℕ → List (List ℕ) → Row
last_place id apart = record { kind = kind.Place; id = id; is_needed = false; apart = apart }

abbrev pub flag_apart : List ℕ → List (List ℕ) → Row
flag_apart id apart = record { kind = kind.Flag; id = id; is_needed = false; apart = apart }

abbrev pub flag : List ℕ → Row
flag id = flag_apart id []

abbrev pub needed_flag : List ℕ → Row
needed_flag id = record { kind = kind.Flag; id = id; is_needed = true; apart = [] }

abbrev pub value_apart : List ℕ → List (List ℕ) → Row
value_apart id apart = record { kind = kind.Value; id = id; is_needed = false; apart = apart }

abbrev pub value : List ℕ → Row
value id = value_apart id []

abbrev pub needed_value : List ℕ → Row
needed_value id = record { kind = kind.Value; id = id; is_needed = true; apart = [] }

-- an option that may be there several times
abbrev pub values : List ℕ → Row
values id = record { kind = kind.Values; id = id; is_needed = false; apart = [] }

-- what a word of the program's tables says, but for what help says of it
abbrev pub row_of : Word → Row
row_of (Place id help) = place id.now
row_of (Instead id others help) = last_place id.now (map (λ other. other.now) others.now)
row_of (Flag id help) = flag id.now
row_of (Mark id help) = needed_flag id.now
row_of (Unless id others help) = flag_apart id.now (map (λ other. other.now) others.now)
row_of (Value id value help) = value_apart id.now []
row_of (Needed id value help) = needed_value id.now
row_of (Alone id value others help) = value_apart id.now (map (λ other. other.now) others.now)
row_of (Many id value help) = values id.now

-- how a command is typed; `run` is a stream with `--stream`
abbrev pub command_text : Name → List ℕ
command_text of.Try = codes "try"
command_text of.Trace = codes "trace"
command_text of.Check = codes "check"
command_text of.Format = codes "format"
command_text of.Run = codes "run"
command_text of.Stop = codes "stop"
command_text of.Compact = codes "compact"
command_text of.Backup = codes "backup"
command_text of.Recover = codes "recover"
command_text of.Show = codes "show"
command_text of.Status = codes "status"
command_text of.Waits = codes "waits"
command_text of.Node = codes "node"
command_text of.Image = codes "image"
command_text of.Journal = codes "journal"
command_text of.Port = codes "port"
command_text of.Stream = codes "run"

-- the commands but a stream
abbrev pub commands : List Name
commands = of.Try ∷ of.Trace ∷ of.Check ∷ of.Format ∷ of.Run ∷ of.Stop ∷ of.Compact ∷ of.Backup ∷ of.Recover ∷ of.Show ∷ of.Status ∷ of.Waits ∷ of.Node
    ∷ of.Image ∷ of.Journal ∷ of.Port ∷ []

-- each command has the two options for explanations
abbrev pub explained : List Row → List Row
explained rows = flag (codes "explain") ∷ flag (codes "no-explain") ∷ rows

abbrev pub rows_of : Name → List Row
rows_of of.Try = explained (place (codes "IMAGE")
    ∷ value_apart (codes "turns") (codes "steps" ∷ codes "in" ∷ codes "map" ∷ codes "until" ∷ codes "watch" ∷ codes "bytes" ∷ [])
    ∷ value (codes "steps") ∷ values (codes "in") ∷ value (codes "map") ∷ value (codes "until") ∷ value (codes "watch") ∷ value (codes "bytes") ∷ [])
rows_of of.Trace = explained (value (codes "map") ∷ place (codes "FILE") ∷ last_place (codes "I") (codes "steps" ∷ []) ∷ value (codes "steps")
    ∷ values (codes "in") ∷ value (codes "until") ∷ value (codes "watch") ∷ value (codes "bytes") ∷ value (codes "from") ∷ value (codes "to") ∷ [])
rows_of of.Check = explained (flag (codes "json") ∷ place (codes "TOPOLOGY") ∷ place (codes "DIR") ∷ [])
rows_of of.Format = explained (flag (codes "new") ∷ value (codes "wait-lock") ∷ value (codes "area") ∷ place (codes "DEVICE") ∷ place (codes "TOPOLOGY")
    ∷ place (codes "DIR") ∷ last_place (codes "AREA") (codes "area" ∷ []) ∷ [])
rows_of of.Run = explained (place (codes "DEVICE") ∷ needed_value (codes "turns") ∷ value (codes "workers") ∷ value (codes "quantum") ∷ value (codes "spare")
    ∷ value (codes "every") ∷ value (codes "port") ∷ value (codes "in") ∷ value (codes "wait-lock") ∷ flag (codes "stream") ∷ [])
rows_of of.Stop = explained (place (codes "DEVICE") ∷ value (codes "wait") ∷ [])
rows_of of.Compact = explained (place (codes "DEVICE") ∷ value (codes "wait-lock") ∷ [])
rows_of of.Backup = explained (place (codes "DEVICE") ∷ place (codes "COPY") ∷ [])
rows_of of.Recover = explained (place (codes "DEVICE") ∷ value (codes "workers") ∷ [])
rows_of of.Show = explained (flag (codes "json") ∷ place (codes "DEVICE") ∷ [])
rows_of of.Status = explained (flag (codes "json") ∷ place (codes "DEVICE") ∷ value (codes "every") ∷ [])
rows_of of.Waits = explained (flag (codes "json") ∷ flag_apart (codes "dot") (codes "json" ∷ []) ∷ value (codes "map") ∷ place (codes "DEVICE") ∷ [])
rows_of of.Node = explained (flag (codes "json") ∷ value (codes "map") ∷ place (codes "DEVICE") ∷ place (codes "I") ∷ [])
rows_of of.Image = explained (place (codes "DEVICE") ∷ place (codes "I") ∷ [])
rows_of of.Journal = explained (flag (codes "json") ∷ place (codes "DEVICE") ∷ value (codes "from") ∷ value (codes "to") ∷ value (codes "node")
    ∷ value (codes "last") ∷ [])
rows_of of.Port = explained (flag (codes "json") ∷ place (codes "DEVICE") ∷ place (codes "P") ∷ flag (codes "pending")
    ∷ flag_apart (codes "outputs") (codes "pending" ∷ []) ∷ [])
rows_of of.Stream = explained (place (codes "DEVICE") ∷ needed_flag (codes "stream") ∷ value (codes "wait-lock") ∷ values (codes "out") ∷ values (codes "have")
    ∷ values (codes "discard") ∷ values (codes "in") ∷ value (codes "turns") ∷ flag (codes "until-quiet") ∷ flag (codes "stop-on-halt")
    ∷ value (codes "stop-file") ∷ flag (codes "progress") ∷ value (codes "progress-every") ∷ value (codes "workers") ∷ value (codes "quantum")
    ∷ value (codes "spare") ∷ value (codes "every") ∷ [])
