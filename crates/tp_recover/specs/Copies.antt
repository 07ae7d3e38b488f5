-- The bytes of a copy.
use Rattle.std.specs.Prelude.{◌≡◌, ℕ, ◌+◌, ◌-◌, true, not, List, [], ◌∷◌, take, drop, Ok, Option, Some, None}
use Rattle.tp_recover.specs.Lower.{area_front, area_start, Moment, State, Sync, done, written, Opened, next_of, verdict, GATE_CLOSED, GATE_OPEN}
use Rattle.tp_recover.specs.declared.reading.asked.AreaAsked.{AreaAsked}
use Rattle.tp_recover.specs.declared.copy.copying.Copied.{Copied}
use Rattle.tp_recover.specs.declared.copy.kept.Kept.{Kept}

-- what of an opened device is copied
abbrev pub area_kept : Opened → Kept
area_kept o = record { areas = o.head.areas; second = o.second; generation = o.generation; form = o.form; end = o.end; next = next_of o }

-- bytes with a range of others over them, at the place that it has there
abbrev pub with_range : ℕ → ℕ → List ℕ → List ℕ → List ℕ
with_range at count source old = written old at (take count (drop at source))

-- bytes with a gate over them
abbrev pub with_gate : ℕ → ℕ → List ℕ → List ℕ
with_gate at gate old = written old at (gate ∷ [])

-- Where the area that is copied begins, and where the other one does.
abbrev pub kept_start : Kept → ℕ
kept_start kept = area_start kept.areas kept.second

abbrev pub other_kept_start : Kept → ℕ
other_kept_start kept = area_start kept.areas (not kept.second)

-- Bytes of a copy before its area's gate is opened, made over others. Both areas' gates are closed. The copy has the head, and of the open
-- area what is between its gate and the closed gate after its groups, and that gate.
abbrev pub closed_copy : Kept → List ℕ → List ℕ → List ℕ
closed_copy kept source old =
    with_range 0 kept.areas.first source
    (with_gate kept.end GATE_CLOSED
    (with_range (kept_start kept + 1) (kept.end - (kept_start kept + 1)) source
    (with_gate (other_kept_start kept) GATE_CLOSED
    (with_gate (kept_start kept) GATE_CLOSED old))))

-- the bytes of a copy
abbrev pub kept_copy : Kept → List ℕ → List ℕ → List ℕ
kept_copy kept source old = with_gate (kept_start kept) GATE_OPEN (closed_copy kept source old)

-- The bytes open to what is copied.
pub record OpensAsKept (bytes : List ℕ) (kept : Kept) : Type 0 where
  pub opened : Opened
  pub is : verdict bytes ≡ Ok opened
  pub same : kept ≡ area_kept opened

-- A moment's bytes open as `kept`, and after it all of them are synced.
pub record OpensAs (kept : Kept) (old new : Moment) : Type 0 where
  pub opens : OpensAsKept old.bytes kept
  pub synced : new ≡ done Sync old

-- The area's gate was opened, and what the copy then has opens as `kept`, and is synced.
pub record IsFinished (kept : Kept) (old new : Moment) : Type 0 where
  pub bytes : new.bytes ≡ with_gate (kept_start kept) GATE_OPEN old.bytes
  pub synced : new.unsynced ≡ []
  pub opens : OpensAsKept new.bytes kept

-- The area that is copied has its gate open and its generation.
abbrev pub HasStayed : Kept → List ℕ → Type 0
HasStayed kept source = area_front (kept_start kept) source ≡ record { is_open = true; generation = kept.generation }

-- A copy:
-- - the area that was copied stayed as it was opened;
-- - the copy has the device's bytes that count;
-- - it opens to what the device opened to;
-- - all of it is synced.
pub record IsCopy (kept : Kept) (source old : List ℕ) (new : Moment) (next : ℕ) : Type 0 where
  pub number : next ≡ kept.next
  pub stays : HasStayed kept source
  pub bytes : new.bytes ≡ kept_copy kept source old
  pub opens : OpensAsKept new.bytes kept
  pub synced : new.unsynced ≡ []

-- The answer: a copy, or that the area was written again. Then the gates of what was to be the copy are closed.
abbrev pub CopyAnswer : Kept → List ℕ → Moment → Moment → Option Copied → Type 0
CopyAnswer kept source old new (Some copied) = IsCopy kept source old.bytes new copied.next
CopyAnswer kept source old new None = (HasStayed kept source → ⊥) × (new.bytes ≡ closed_copy kept source old.bytes)

-- A device was asked for the gate and the generation of the area that is copied, and the gate was open, with its generation. Right after that
-- question the device was in the state `left`. If that is its state now, no call of it came later, since each call adds a past moment.
pub record AskedLast (kept : Kept) (left : State) (asked : AreaAsked) : Type 0 where
  pub start : asked.start ≡ kept_start kept
  pub front : asked.front ≡ record { is_open = true; generation = kept.generation }
  pub last : asked.noted.state ≡ left
