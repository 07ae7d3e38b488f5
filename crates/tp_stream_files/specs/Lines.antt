-- Lines about how far a stream has come: when one is due, and what it says.
use Rattle.std.specs.Prelude.{ℕ, ◌+◌, ◌-◌, ◌*◌, ◌/◌, ◌==◌, nat_lt, if◌then◌else◌, List, [], ◌∷◌, ◌++◌, codes, decimal, Option, Some, None, slice_get}
use Rattle.std.specs.Option.{option_map}
use Rattle.tp_stream_files.specs.declared.listener.Progress.{Progress}
use Rattle.tp_stream_files.specs.declared.lines.Heard.{Heard}
use Rattle.tp_stream_files.specs.declared.lines.Line.{Line}
use Rattle.tp_stream_files.specs.declared.lines.Meter.{Meter}
use Rattle.tp_stream_files.specs.declared.lines.Since.{Since}

-- The line that is due at a moment, if the last one was said at another. It is `None` if less than `every` milliseconds have passed between them.
-- Otherwise it has what was said then, what is so now, and the milliseconds between.
abbrev pub line_behind : ℕ → Heard → ℕ → Progress → Option Line
line_behind every last at progress =
    if nat_lt (at - last.at) every then None else Some (record { told = progress; before = last.progress; millis = at - last.at })

-- the line that is due; `None` if none was said before and nothing was heard yet
abbrev pub due_behind : ℕ → Option Heard → ℕ → Progress → Option Line
due_behind every None at progress = None
due_behind every (Some last) at progress = line_behind every last at progress

abbrev pub line_due : Meter → ℕ → Progress → Option Line
line_due meter at progress = due_behind meter.every meter.last at progress

-- The moment from which the next line counts. If a line is due, it is that line's. If nothing was heard before, it is this one. Otherwise it is as
-- before.
abbrev pub last_behind : ℕ → Option Heard → ℕ → Progress → Option Heard
last_behind every None at progress = Some (record { at = at; progress = progress })
last_behind every (Some last) at progress = if nat_lt (at - last.at) every then Some last else Some (record { at = at; progress = progress })

abbrev pub heard : Meter → ℕ → Progress → Meter
heard meter at progress = record { every = meter.every; last = last_behind meter.every meter.last at progress }

-- Without a time no line is due, and the next one counts from the moment as before.
abbrev pub line_then : Meter → Option ℕ → Progress → Option Line
line_then meter None progress = None
line_then meter (Some at) progress = line_due meter at progress

abbrev pub heard_then : Meter → Option ℕ → Progress → Meter
heard_then meter None progress = meter
heard_then meter (Some at) progress = heard meter at progress

-- by how much a number grew in a second, rounded down, if it was known before
abbrev pub growth_part : ℕ → Option Since → List ℕ
growth_part now None = []
growth_part now (Some since) =
    if since.millis == 0 then [] else codes " +" ++ (decimal ((now - since.count) * 1000 / since.millis) ++ codes "/s")

abbrev pub count_part : ℕ → Option Since → List ℕ
count_part now since = decimal now ++ growth_part now since

-- how many entries are durable, how full the journal is, and to which checkpoint it belongs
abbrev pub standing_part : Progress → List ℕ
standing_part told =
    codes " mark " ++ (decimal told.mark ++ (codes " area " ++ (decimal told.used ++ (codes "% generation " ++ decimal told.generation))))

-- how many entries were made, and how many of them are durable
abbrev pub front_part : Line → List ℕ
front_part line =
    (codes "next " ++ count_part line.told.next (Some (record { count = line.before.next; millis = line.millis }))) ++ standing_part line.told

-- how many turns were made
abbrev pub turns_part : Line → List ℕ
turns_part line = codes " turns " ++ count_part line.told.turns (Some (record { count = line.before.turns; millis = line.millis }))

-- up to which position the outputs of a port were put at the line before, if a sink was for it
abbrev pub put_found : Option (Option ℕ) → Option ℕ
put_found None = None
put_found (Some position) = position

abbrev pub put_before : List (Option ℕ) → ℕ → Option ℕ
put_before put port = put_found (slice_get put port)

abbrev pub since_put : ℕ → Option ℕ → Option Since
since_put millis before = option_map (λ count. record { count = count; millis = millis }) before

-- up to which position the outputs of a port were put, if a sink is for it
abbrev pub out_part : ℕ → Option ℕ → Option Since → List ℕ
out_part port None since = []
out_part port (Some position) since = codes " out " ++ (decimal port ++ (codes " " ++ count_part position since))

abbrev pub out_parts : ℕ → ℕ → List (Option ℕ) → List (Option ℕ) → List ℕ
out_parts port millis before [] = []
out_parts port millis before (now ∷ more) = out_part port now (since_put millis (put_before before port)) ++ out_parts (port + 1) millis before more

-- the line, without its end
abbrev pub line_text : Line → List ℕ
line_text line = front_part line ++ (turns_part line ++ out_parts 0 line.millis line.before.put line.told.put)
