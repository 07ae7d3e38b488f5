-- What `recover` and `show` do.
use Rattle.std.specs.Prelude.{◌≡◌, ℕ, Bool, List, length, Option, Ok}
use Rattle.tp_views.specs.Lower.{Appends, Moment, Sync, done, Opened, verdict, next_of}
use Rattle.tp_views.specs.declared.text.shown.Front.{Front}
use Rattle.tp_views.specs.Shown.{shown_text, next_line}

-- what is said of an opened device besides its network
abbrev pub front_said : Opened → Front
front_said o = record {
  area = o.head.areas.length;
  second = o.second;
  generation = o.generation;
  base = o.base;
  entries = length o.kept;
  next = next_of o;
}

-- what `recover` prints of an opened device
abbrev pub recovered : Opened → List ℕ
recovered o = next_line (next_of o)

-- what `show` prints of an opened device: its lines, or one line of JSON
abbrev pub shown : Bool → Opened → List ℕ
shown json o = shown_text json (front_said o) o.now

-- The device opens, and exactly that text was printed.
pub record Prints (text : Opened → List ℕ) (bytes : List ℕ) (was now : Option (List ℕ)) : Type 0 where
  pub opened : Opened
  pub is : verdict bytes ≡ Ok opened
  pub printed : Appends was now (text opened)

-- Nothing was written: if no call of the device failed, a read gives the bytes that it gave before, and all of them are synced.
abbrev pub IsUnwritten : ℕ → ℕ → Moment → Moment → Type 0
IsUnwritten failures_before failures_after old new = failures_after ≡ failures_before → new ≡ done Sync old
