-- What a look finds on a device, and what opening answers if another process may write the device meanwhile. A look reads the fronts of both areas.
use Rattle.std.specs.Prelude.{◌≡◌, ℕ, Bool, true, false, ◌||◌, ◌&&◌, not, nat_lt, if◌then◌else◌, List, Option, Some, None, Result, Ok, Err}
use Rattle.tp_views.specs.Lower.{area_front, AreaFront, area_start, Head, Opened, TwoAreas, OpenFault, Unopened, has_read}
use Rattle.tp_views.specs.declared.steady.Fronts.{Fronts}
use Rattle.tp_views.specs.declared.steady.Tried.{Tried}
use Rattle.tp_views.specs.declared.steady.Tried.TheVariants.{Steady, Changed}

-- the fronts of a device's areas; the first one's twice, in the order of a look
abbrev pub fronts_in : TwoAreas → List ℕ → Fronts
fronts_in areas bytes = record {
  areas = areas;
  first = area_front (area_start areas false) bytes;
  second = area_front (area_start areas true) bytes;
  again = area_front (area_start areas false) bytes;
}

-- what a look finds, by what reading the head answers
abbrev pub look_finds : Result Head OpenFault → List ℕ → Option Fronts
look_finds (Ok head) bytes = Some (fronts_in head.areas bytes)
look_finds (Err fault) bytes = None

-- whether the first of two areas counts: its gate is open, and the other one's is closed, or has a lower generation
abbrev pub is_above : AreaFront → AreaFront → Bool
is_above one other = one.is_open && (not other.is_open || nat_lt other.generation one.generation)

-- Which area counts: whether it is the second one; `None` if none counts.
abbrev pub counting : Fronts → Option Bool
counting fronts =
    if is_above fronts.first fronts.second then Some false else if is_above fronts.second fronts.first then Some true else None

abbrev pub front_seen : Bool → Fronts → AreaFront
front_seen second fronts = if second then fronts.second else fronts.first

-- The area that counted at one look has its gate and generation at another one. If none counted, the other look finds equal fronts.
abbrev pub StayedOpen : Option Bool → Fronts → Fronts → Type 0
StayedOpen (Some second) before after = front_seen second after ≡ front_seen second before
StayedOpen None before after = after ≡ before

-- What counted at the first look still counts at the second one.
abbrev pub CountsStill : Option Fronts → Option Fronts → Type 0
CountsStill None None = Unit {0}
CountsStill None (Some after) = ⊥
CountsStill (Some before) None = ⊥
CountsStill (Some before) (Some after) = (after.areas ≡ before.areas) × StayedOpen (counting before) before after

-- no call of the device failed
abbrev pub has_tried : Tried → Bool
has_tried (Steady answer) = has_read answer
has_tried Changed = true

-- The answer is that of one moment, and `P` is true of it.
abbrev pub OfSteady : (Result Opened Unopened → Type 0) → Tried → Type 0
OfSteady P (Steady answer) = P answer
OfSteady P Changed = ⊥

-- If the answer is that of one moment, `P` is true of it.
abbrev pub IfSteady : (Result Opened Unopened → Type 0) → Tried → Type 0
IfSteady P (Steady answer) = P answer
IfSteady P Changed = Unit {0}
