-- Which lines the commands take, and which ask for help.
use Rattle.std.specs.Prelude.{◌&&◌, ◌||◌, ℕ, Bool, true, false, not, List, [], ◌∷◌, ◌++◌, Option, Some, None, if◌then◌else◌, length, nat_le, nat_lt, codes, string_bytes, nat_eq, bytes_eq, is_some, drop, map, option_and_then, ◌+◌}
use Rattle.tp_words.specs.Lower.{starts_with, Global, String}
use Rattle.tp_words.specs.declared.args.TheConstants.{MAX_WORDS}
use Rattle.tp_words.specs.declared.line.Line.{Line}
use Rattle.tp_words.specs.declared.reading.Next.{Next}
use Rattle.tp_words.specs.declared.reading.Next.TheVariants as may
use Rattle.tp_words.specs.declared.rows.Kind.{Kind}
use Rattle.tp_words.specs.declared.rows.Kind.TheVariants as kind
use Rattle.tp_words.specs.declared.words.Name.{Name}
use Rattle.tp_words.specs.declared.words.Name.TheVariants as of
use Rattle.tp_words.specs.Given.{given, has_flag, value_in}
use Rattle.tp_words.specs.Rows.{Row, command_text, commands, rows_of}
use Rattle.tp_words.specs.Typed.{is_word}

-- the word is no place: it begins with a dash, and has more
abbrev pub is_dashed : String Global → Bool
is_dashed word = starts_with nat_eq (string_bytes word) (codes "-") && nat_lt 1 (length (string_bytes word))

-- what is after the two dashes of an option
abbrev pub option_in : String Global → Option (List ℕ)
option_in word = value_in (codes "--") (string_bytes word)

-- the rest begins with an equals sign
abbrev pub has_equals : Option (List ℕ) → Bool
has_equals None = false
has_equals (Some rest) = starts_with nat_eq rest (codes "=")

-- an option without a value is this text; one with a value has it after an equals sign
abbrev pub is_whole_as : Kind → List ℕ → List ℕ → Bool
is_whole_as kind.Place id text = false
is_whole_as kind.Flag id text = bytes_eq text id
is_whole_as kind.Value id text = has_equals (value_in id text)
is_whole_as kind.Values id text = has_equals (value_in id text)

-- an option with a value is this text, and the next word is its value
abbrev pub is_begun_as : Kind → List ℕ → List ℕ → Bool
is_begun_as kind.Place id text = false
is_begun_as kind.Flag id text = false
is_begun_as kind.Value id text = bytes_eq text id
is_begun_as kind.Values id text = bytes_eq text id

abbrev pub has_whole : List Row → List ℕ → Bool
has_whole [] text = false
has_whole (row ∷ rows) text = is_whole_as row.kind row.id text || has_whole rows text

abbrev pub has_begun : List Row → List ℕ → Bool
has_begun [] text = false
has_begun (row ∷ rows) text = is_begun_as row.kind row.id text || has_begun rows text

-- what may come after an option; `None`: the command hasn't this option
abbrev pub after_option : List Row → Option (List ℕ) → Option Next
after_option rows None = None
after_option rows (Some text) = if has_whole rows text then Some may.Any else (if has_begun rows text then Some may.Value else None)

-- what may come after a word; `None`: it may not be there
abbrev pub after_word : List Row → Next → String Global → Option Next
after_word rows may.Any word = if is_word (codes "--") word then Some may.Places else (if is_dashed word then after_option rows (option_in word) else Some may.Any)
after_word rows may.Value word = if is_dashed word then None else Some may.Any
after_word rows may.Places word = Some may.Places

-- a word is a place
abbrev pub is_place : Next → String Global → Bool
is_place may.Any word = not (is_dashed word)
is_place may.Value word = false
is_place may.Places word = true

-- a line may end here: no value is missing
abbrev pub may_end : Next → Bool
may_end may.Any = true
may_end may.Value = false
may_end may.Places = true

-- a text in front of others, if it is a place
abbrev pub put_place : Bool → List ℕ → Option (List (List ℕ)) → Option (List (List ℕ))
put_place is_place text None = None
put_place false text (Some texts) = Some texts
put_place true text (Some texts) = Some (text ∷ texts)

-- The places among the words after a command, if `next` may come first; `None`: one of the words may not be there, or a value is missing.
abbrev pub read_in : List Row → Next → List (String Global) → Option (List (List ℕ))
read_in rows next [] = if may_end next then Some [] else None
read_in rows next (word ∷ words) =
    put_place (is_place next word) (string_bytes word) (option_and_then (λ later. read_in rows later words) (after_word rows next word))

-- a word is the option of a name, with a value after an equals sign or without
abbrev pub is_use_of : List ℕ → Option (List ℕ) → Bool
is_use_of id None = false
is_use_of id (Some text) = bytes_eq text id || has_equals (value_in id text)

-- one of the words is that option, and no word `--` is before it
abbrev pub is_used : List ℕ → List (String Global) → Bool
is_used id [] = false
is_used id (word ∷ words) = not (is_word (codes "--") word) && (is_use_of id (option_in word) || is_used id words)

-- two of them are
abbrev pub is_repeated : List ℕ → List (String Global) → Bool
is_repeated id [] = false
is_repeated id (word ∷ words) = not (is_word (codes "--") word) && (if is_use_of id (option_in word) then is_used id words else is_repeated id words)

-- an option is repeated that may be there once
abbrev pub is_repeated_as : Kind → List ℕ → List (String Global) → Bool
is_repeated_as kind.Place id words = false
is_repeated_as kind.Flag id words = is_repeated id (drop 1 words)
is_repeated_as kind.Value id words = is_repeated id (drop 1 words)
is_repeated_as kind.Values id words = false

-- an option was typed
abbrev pub is_typed : List (String Global) → List ℕ → Bool
is_typed words id = has_flag (codes "--" ++ id) words || is_some (given id words)

abbrev pub any_typed : List (String Global) → List (List ℕ) → Bool
any_typed words [] = false
any_typed words (id ∷ ids) = is_typed words id || any_typed words ids

-- what a row is about was typed; `has_last`: there are more places than those that have to be there
abbrev pub is_there_as : Kind → List (String Global) → (has_last : Bool) → List ℕ → Bool → Bool
is_there_as kind.Place words has_last id is_needed = is_needed || has_last
is_there_as kind.Flag words has_last id is_needed = has_flag (codes "--" ++ id) words
is_there_as kind.Value words has_last id is_needed = is_some (given id words)
is_there_as kind.Values words has_last id is_needed = is_some (given id words)

-- what has to be there is there; what is there isn't repeated if it may be there once, and no option is beside it that may not be
abbrev pub is_met : List (String Global) → (has_last : Bool) → Row → Bool
is_met words has_last row =
    if is_there_as row.kind words has_last row.id row.is_needed then not (is_repeated_as row.kind row.id words) && not (any_typed words row.apart)
    else not row.is_needed

abbrev pub are_met : List (String Global) → (has_last : Bool) → List Row → Bool
are_met words has_last [] = true
are_met words has_last (row ∷ rows) = is_met words has_last row && are_met words has_last rows

-- how many places have to be there, and how many may
abbrev pub is_place_kind : Kind → Bool
is_place_kind kind.Place = true
is_place_kind kind.Flag = false
is_place_kind kind.Value = false
is_place_kind kind.Values = false

abbrev pub least_places : List Row → ℕ
least_places [] = 0
least_places (row ∷ rows) = least_places rows + (if is_place_kind row.kind && row.is_needed then 1 else 0)

abbrev pub most_places : List Row → ℕ
most_places [] = 0
most_places (row ∷ rows) = most_places rows + (if is_place_kind row.kind then 1 else 0)

-- `--bytes` is there without `--watch`
abbrev pub has_lone_bytes : List (String Global) → Bool
has_lone_bytes words = is_typed words (codes "bytes") && not (is_typed words (codes "watch"))

-- `trace` of an image takes no entries, and that of a device nothing that is about an image.
abbrev pub is_lawful : Name → (has_last : Bool) → List (String Global) → Bool
is_lawful of.Try has_last words = not (has_lone_bytes words)
is_lawful of.Trace true words = not (any_typed words (codes "in" ∷ codes "until" ∷ codes "watch" ∷ codes "bytes" ∷ []))
is_lawful of.Trace false words = not (has_lone_bytes words) && not (any_typed words (codes "from" ∷ codes "to" ∷ []))
is_lawful _ has_last words = true

-- a line with as many places keeps a command's rules
abbrev pub is_kept : Name → ℕ → List (String Global) → Bool
is_kept name count words =
    nat_le (least_places (rows_of name)) count && nat_le count (most_places (rows_of name))
    && are_met words (nat_lt (least_places (rows_of name)) count) (rows_of name) && is_lawful name (nat_lt (least_places (rows_of name)) count) words

-- What a line is taken as: the command, and the places after it.
pub record Taken : Type 0 where
  pub name : Name
  pub places : List (List ℕ)

-- what the program has of it
abbrev pub line_of : Line → Taken
line_of line = record { name = line.name; places = map (λ text. text.now) line.places.items }

abbrev pub taken_with : Name → List (String Global) → Option (List (List ℕ)) → Option Taken
taken_with name words None = None
taken_with name words (Some places) = if is_kept name (length places) words then Some (record { name = name; places = places }) else None

abbrev pub taken_as : Option Name → (words line : List (String Global)) → Option Taken
taken_as None words line = None
taken_as (Some name) words line = taken_with name words (read_in (rows_of name) may.Any line)

-- the first of some commands that is typed so
abbrev pub named : List Name → List ℕ → Option Name
named [] text = None
named (name ∷ names) text = if bytes_eq text (command_text name) then Some name else named names text

-- a line is about a stream: it is one of `run` with `--stream`
abbrev pub is_stream : List (String Global) → String Global → Bool
is_stream words word = is_word (codes "run") word && has_flag (codes "--stream") words

abbrev pub name_in : List (String Global) → String Global → Option Name
name_in words word = if is_stream words word then Some of.Stream else named commands (string_bytes word)

abbrev pub taken_in : (words rest : List (String Global)) → Option Taken
taken_in words [] = None
taken_in words (word ∷ line) = taken_as (name_in words word) words line

-- What a line is taken as; `None`: no command takes it. Its first word is the program's name.
abbrev pub taken : List (String Global) → Option Taken
taken words = if nat_lt MAX_WORDS (length words) then None else taken_in words (drop 1 words)

-- a word asks for help, or for the version; `-h` and `-V` may have more letters after them
abbrev pub is_asking : String Global → Bool
is_asking word = is_word (codes "--help") word || is_word (codes "--version") word || starts_with nat_eq (string_bytes word) (codes "-h")
    || starts_with nat_eq (string_bytes word) (codes "-V")

abbrev pub has_asking : List (String Global) → Bool
has_asking [] = false
has_asking (word ∷ words) = not (is_word (codes "--") word) && (is_asking word || has_asking words)

abbrev pub begins_help : List (String Global) → Bool
begins_help [] = false
begins_help (word ∷ words) = is_word (codes "help") word || has_asking (word ∷ words)

-- The line asks for help: its command is `help`, or a word that asks is there, and no word `--` is before that.
abbrev pub asks_help : List (String Global) → Bool
asks_help words = begins_help (drop 1 words)

-- the words after the program's name are those of `run`
abbrev pub begins_run : List (String Global) → Bool
begins_run [] = false
begins_run (word ∷ rest) = is_word (codes "run") word
