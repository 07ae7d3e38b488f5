-- What is written about how far a stream has come.
use Rattle.std.specs.Prelude.{◌≡◌, ℕ, Bool, not, ◌&&◌, ◌||◌, if◌then◌else◌, List, [], ◌∷◌, ◌++◌, take, Option, Some, None, is_none}
use Rattle.std.specs.Io.KnownBytes.{Appends}
use Rattle.tp_stream_files.specs.declared.listener.Progress.{Progress}
use Rattle.tp_stream_files.specs.Lines.{heard_then, line_text, line_then}
use Rattle.tp_stream_files.specs.declared.lines.Line.{Line}
use Rattle.tp_stream_files.specs.declared.lines.Meter.{Meter}

-- some of the first bytes were appended
abbrev pub AppendsFront : Option (List ℕ) → Option (List ℕ) → List ℕ → Type 0
AppendsFront was is bytes = (n : ℕ) × Appends was is (take n bytes)

-- Lines are written over each other on a terminal, unless a port puts its output on a terminal.
abbrev pub are_over : Bool → Bool → Option ℕ → Bool
are_over terminal output_terminal out = terminal && (is_none out || not output_terminal)

-- The bytes of a line. If it is written over the line before it, the rest of that row is cleared, and the line isn't ended. A line wider than the
-- terminal isn't wrapped into a second row, which no later line would overwrite: wrapping is turned off before the line, and on after it.
abbrev pub written : Bool → Line → List ℕ
written is_over line = if is_over then 13 ∷ 27 ∷ 91 ∷ 63 ∷ 55 ∷ 108 ∷ (line_text line ++ 27 ∷ 91 ∷ 75 ∷ 27 ∷ 91 ∷ 63 ∷ 55 ∷ 104 ∷ []) else line_text line ++ 10 ∷ []

-- A line was written, or the first part of it if writing failed. Nothing was written if no line is due.
abbrev pub Said : Bool → Option Line → Option (List ℕ) → Option (List ℕ) → Type 0
Said is_over None was is = is ≡ was
Said is_over (Some line) was is = AppendsFront was is (written is_over line)

-- How far a stream has come was heard once, at the time that the onlooker said. A line was written exactly if one was due at that time. Without a
-- time no line was written, and nothing counts as heard.
pub record WasHeard (progress : Progress) (is_over : Bool) (times later : List (Option ℕ)) (old new : Meter) (was is : Option (List ℕ)) : Type 0 where
  pub now : Option ℕ
  pub asked : later ≡ times ++ now ∷ []
  pub meter : new ≡ heard_then old now progress
  pub said : Said is_over (line_then old now progress) was is
