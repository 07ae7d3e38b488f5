-- What a stream tells of how far it has come.
use Rattle.std.specs.Prelude.{◌≡◌, ◌<◌, ℕ, ◌-◌, ◌*◌, ◌/◌, max, Bool, true, false, if◌then◌else◌, nat_eq, List, [], ◌∷◌, All, get_or, Option, Some, None}
use Rattle.tp_stream.specs.Lower.{MAX_PORTS, BookValue, next_in_book, Flushing, capacity, JournalRoom, Progress, GivenInput, Notice, OutputBegins, InputBegins, HasCome, NodeStopped, Noticed, Given, OutputValue}
use Rattle.tp_stream.specs.declared.standing.Standing.{Standing}
use Rattle.tp_stream.specs.Standing.{from_of}

-- how much of a journal is filled by the entries that a book has made since its kept cut, in percent, rounded down
abbrev pub used_of : JournalRoom → BookValue → ℕ
used_of journal b = (next_in_book b - b.base) * 100 / max (capacity journal) 1

-- The numbers are those of a book in this journal, and of its flusher, after `made` turns.
pub record IsProgress (journal : JournalRoom) (b : BookValue) (f : Flushing) (made : ℕ) (progress : Progress) : Type 0 where
  pub next : progress.next ≡ next_in_book b
  pub mark : progress.mark ≡ f.world.mark
  pub used : progress.used ≡ used_of journal b
  pub generation : progress.generation ≡ f.place.generation
  pub turns : progress.turns ≡ made

-- up to which position a port's outputs were put; `None` if no sink is for it
abbrev pub put_in : List OutputValue → ℕ → Option ℕ
put_in [] port = None
put_in (o ∷ outputs) port = if nat_eq o.port port then Some o.next else put_in outputs port

-- that is said of each port
abbrev pub SaysPut : List OutputValue → List (Option ℕ) → Type 0
SaysPut outputs put = (port : ℕ) → port < MAX_PORTS → get_or put port None ≡ put_in outputs port

-- How far a stream has come was told once. The numbers are those of a book, of the flusher, and of the turns that were made. Up to which position
-- each port's outputs were put is as these outputs say.
pub record HasTold (journal : JournalRoom) (f : Flushing) (made : ℕ) (outputs : List OutputValue) (old new : Option (List Notice)) : Type 0 where
  pub book : BookValue
  pub progress : Progress
  pub is : IsProgress journal book f made progress
  pub put : SaysPut outputs progress.put
  pub told : Noticed (HasCome progress ∷ []) old new

-- how far a stream has come was told once, if it is to be told; else nothing was told
abbrev pub TellsProgress : Bool → JournalRoom → Flushing → ℕ → List OutputValue → Option (List Notice) → Option (List Notice) → Type 0
TellsProgress true journal f made outputs old new = HasTold journal f made outputs old new
TellsProgress false journal f made outputs old new = Noticed [] old new

-- ## What is told first, and what after it

-- the notice that tells at which position a port's output begins
abbrev pub output_begins : (ℕ → Standing) → Given → Notice
output_begins stands g = OutputBegins g.port (from_of (stands g.port) g)

abbrev pub input_begins : (ℕ → ℕ) → GivenInput → Notice
input_begins accepted_at g = InputBegins g.port (accepted_at g.port)

-- Notices that are told after the beginnings of outputs and inputs: how far the stream has come, or how one of `nodes` nodes has stopped.
abbrev pub IsLater : ℕ → Notice → Type 0
IsLater nodes (OutputBegins port position) = ⊥
IsLater nodes (InputBegins port accepted) = ⊥
IsLater nodes (HasCome progress) = Unit {0}
IsLater nodes (NodeStopped node how) = node < nodes

-- Only such notices were told.
pub record ToldLater (nodes : ℕ) (old new : Option (List Notice)) : Type 0 where
  pub notices : List Notice
  pub each : All (IsLater nodes) notices
  pub told : Noticed notices old new

-- `first` was told, and then only such notices.
pub record ToldFirst (first : List Notice) (nodes : ℕ) (old new : Option (List Notice)) : Type 0 where
  pub between : Option (List Notice)
  pub told : Noticed first old between
  pub later : ToldLater nodes between new
