-- What contracts see of a mark, of a pass and of the raiser.
use Rattle.std.specs.Prelude.{◌≡◌, ℕ, max, List, [], ◌∷◌, ◌++◌}
use Rattle.atomic_table.specs.Seated.{TableId}
use Rattle.tp_ready.specs.declared.mark_view.Rise.{Rise}

-- A mark is seen as its name, which no other mark has.
abbrev pub MarkName : Type 0
MarkName = TableId

-- the number to which the last of the rises raised the mark, and this one if there is none
abbrev pub number_from : ℕ → List Rise → ℕ
number_from n [] = n
number_from n (rise ∷ rises) = number_from rise.to rises

abbrev pub number_of : List Rise → ℕ
number_of = number_from 0

-- The number that a mark begins with, which is no moment's.
abbrev pub unrisen : ℕ → List Rise
unrisen first = record { to = first; moment = 0 } ∷ []

-- The rises go on from those that were seen.
abbrev pub RisesOn : List Rise → List Rise → Type 0
RisesOn seen rises = (more : List Rise) × (rises ≡ seen ++ more)

-- A pass: its mark, the number that it saw last, and the least number that its next load shows. Then what the mark was raised to until it
-- saw that number, with the number that the mark began with first.
pub record PassValue : Type 0 where
  pub mark : TableId
  pub at : ℕ
  pub least : ℕ
  pub rises : List Rise

-- The raiser: its mark, the number that the mark has, and all that it was raised to, with the number that it began with first.
pub record RaiserValue : Type 0 where
  pub mark : TableId
  pub at : ℕ
  pub rises : List Rise

-- The raiser, once it has raised the mark to a number at a moment.
abbrev pub risen : RaiserValue → ℕ → ℕ → RaiserValue
risen r to moment = record r { at = max r.at to; rises = r.rises ++ record { to = max r.at to; moment = moment } ∷ [] }
