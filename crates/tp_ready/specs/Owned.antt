-- What the tokens own.
use Rattle.std.specs.Prelude.{ℕ, zero, suc, List, [], ◌∷◌}
use Rattle.tp_ready.specs.Lower.{full_share, quarter, three_quarters, Gv, gnil, Coded, Algebra, coded, both, shares, agreed, Share, Fml, ftrue, fsep, fobs, fauth}
use types.Keyed.{entry, entries_from}

-- ---- twins: the two halves of a ghost name, which show one value and change only together
module _ {V : Type 0} (code : V → Gv) where
  abbrev pub seal_owns : ℕ → V → Fml
  seal_owns name value = fauth name (code value)

  abbrev pub key_owns : ℕ → V → Fml
  key_owns name value = fobs name (code value)

-- ---- Rolls and slips: each number under a roll's ghost name has one entry, and an entry is held in parts. A quarter of a written one is
-- the roll's, and three quarters are its slip's. So no two slips have one number, and a slip shows what the roll does.

-- a ghost value as it is, so that the entries name no type of items
abbrev pub ghost_value : Coded Gv
ghost_value = record { code = λ g. g; inj = λ x y same. same }

-- a share of an entry, beside what it shows
abbrev pub shared : Algebra
shared = both shares (agreed (coded ghost_value))

abbrev pub part : ℕ → ℕ → Share → Gv → Fml
part name number share shown = entry shared name number (share, shown)

module _ {V : Type 0} (code : V → Gv) where
  -- the roll's quarters of the items from the number on, and all entries after them, which aren't written yet
  abbrev pub items_own : ℕ → ℕ → List V → Fml
  items_own name number [] = entries_from shared name number (λ _. (full_share, gnil))
  items_own name number (item ∷ items) = fsep (part name number quarter (code item)) (items_own name (suc number) items)

  -- and with them the entries from the number on that are never written, as many as are left before the first item
  abbrev pub roll_owns : ℕ → ℕ → ℕ → List V → Fml
  roll_owns name number zero items = items_own name number items
  roll_owns name number (suc left) items = fsep (part name number full_share gnil) (roll_owns name (suc number) left items)

  -- the slips' three quarters
  abbrev pub slips_own : ℕ → List (ℕ × V) → Fml
  slips_own name [] = ftrue
  slips_own name (slip ∷ slips) = fsep (part name slip.0 three_quarters (code slip.1)) (slips_own name slips)
