-- What one check of `status` does.
use Rattle.std.specs.Prelude.{◌≡◌, ℕ, Bool, List, Option, Ok}
use Rattle.tp_views.specs.Lower.{Appends, Opened, verdict}
use Rattle.tp_views.specs.Status.{IsSeen, look_text}
use Rattle.tp_views.specs.declared.text.status.Seen.{Seen}

-- The device opens, and exactly its line is printed, as JSON or not. The answer is what was seen of it.
pub record StatusTells (json held : Bool) (at : ℕ) (clock : Option ℕ) (before : Option Seen) (bytes : List ℕ) (was now : Option (List ℕ)) (seen : Seen) : Type 0 where
  pub opened : Opened
  pub is : verdict bytes ≡ Ok opened
  pub printed : Appends was now (look_text json held at clock before opened)
  pub saw : IsSeen at opened seen
