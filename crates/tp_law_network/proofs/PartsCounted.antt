-- How many entries are read of rows: no more than there are rows, and none whose number would reach the limit.
use Rattle.std.proofs.Common.{◌≡◌, ◌⊎◌, inl, inr, ℕ, ◌+◌, ◌-◌, ◌<◌, ◌≤◌, Bool, true, false, cond, List, [], ◌∷◌, length, refl, arith, Option, Some, None}
use Rattle.std.specs.Prelude.{nat_lt, nat_le, ◌&&◌}
use Rattle.tp_law_network.proofs.Lower.{and_parts, cases_lt, ltb-true, Form, Entry, NUMBER_LIMIT, row_entry}
use Rattle.tp_law_network.specs.Readable.{may_have, read_on, readable}

pub readable_most : (form : Form) (least next : ℕ) (rows : List (ℕ × List ℕ)) → length (readable form least next rows) ≤ length rows
unfolding readable
readable_most form least next [] = omega arith
readable_most form least next (row ∷ rows) = go (row_entry form row.1) (λ entry. readable_most form (entry.1 + 1) (next + 1) rows)
  where
    chosen : (entry : Entry × ℕ) (b : Bool) → length (readable form (entry.1 + 1) (next + 1) rows) ≤ length rows
        → length (cond b (entry ∷ readable form (entry.1 + 1) (next + 1) rows) []) ≤ length (row ∷ rows)
    chosen entry true rest = omega (arith, rest)
    chosen entry false rest = omega arith

    go : (read : Option (Entry × ℕ)) → ((entry : Entry × ℕ) → length (readable form (entry.1 + 1) (next + 1) rows) ≤ length rows)
        → length (read_on least next read (λ entry. readable form (entry.1 + 1) (next + 1) rows)) ≤ length (row ∷ rows)
    go None rest = omega arith
    go (Some entry) rest = chosen entry (may_have least next entry.1) (rest entry)

-- below the limit, the number after the last of them is, too
pub readable_below : (form : Form) (least next : ℕ) (rows : List (ℕ × List ℕ)) → next < NUMBER_LIMIT → next + length (readable form least next rows) < NUMBER_LIMIT
unfolding readable
readable_below form least next [] below = omega (arith, below)
readable_below form least next (row ∷ rows) below = go (row_entry form row.1) (λ entry. readable_below form (entry.1 + 1) (next + 1) rows)
  where
    chosen : (entry : Entry × ℕ) → (next + 1 < NUMBER_LIMIT → next + 1 + length (readable form (entry.1 + 1) (next + 1) rows) < NUMBER_LIMIT) → (b : Bool) → (b ≡ true → next < NUMBER_LIMIT - 1)
        → next + length (cond b (entry ∷ readable form (entry.1 + 1) (next + 1) rows) []) < NUMBER_LIMIT
    chosen entry rest true low = let lower = low refl in let more = rest (omega (arith, lower)) in omega (arith, more)
    chosen entry rest false low = omega (arith, below)

    lower : (entry : Entry × ℕ) → may_have least next entry.1 ≡ true → next < NUMBER_LIMIT - 1
    lower entry h = ltb-true next (NUMBER_LIMIT - 1) (and_parts (nat_le entry.1 next) (nat_lt next (NUMBER_LIMIT - 1)) (and_parts (nat_le least entry.1) (nat_le entry.1 next && nat_lt next (NUMBER_LIMIT - 1)) h).1).1

    go : (read : Option (Entry × ℕ)) → ((entry : Entry × ℕ) → next + 1 < NUMBER_LIMIT → next + 1 + length (readable form (entry.1 + 1) (next + 1) rows) < NUMBER_LIMIT)
        → next + length (read_on least next read (λ entry. readable form (entry.1 + 1) (next + 1) rows)) < NUMBER_LIMIT
    go None rest = omega (arith, below)
    go (Some entry) rest = chosen entry (rest entry) (may_have least next entry.1) (lower entry)

-- from the limit on, none is read
readable_none : (form : Form) (least next : ℕ) (rows : List (ℕ × List ℕ)) → NUMBER_LIMIT ≤ next → readable form least next rows ≡ []
unfolding readable
readable_none form least next [] high = refl
readable_none form least next (row ∷ rows) high = go (row_entry form row.1)
  where
    chosen : (entry : Entry × ℕ) (b : Bool) → (b ≡ true → next < NUMBER_LIMIT - 1) → cond b (entry ∷ readable form (entry.1 + 1) (next + 1) rows) [] ≡ []
    chosen entry true low = let lower = low refl in absurd (omega (arith, lower, high))
    chosen entry false low = refl

    lower : (entry : Entry × ℕ) → may_have least next entry.1 ≡ true → next < NUMBER_LIMIT - 1
    lower entry h = ltb-true next (NUMBER_LIMIT - 1) (and_parts (nat_le entry.1 next) (nat_lt next (NUMBER_LIMIT - 1)) (and_parts (nat_le least entry.1) (nat_le entry.1 next && nat_lt next (NUMBER_LIMIT - 1)) h).1).1

    go : (read : Option (Entry × ℕ)) → read_on least next read (λ entry. readable form (entry.1 + 1) (next + 1) rows) ≡ []
    go None = refl
    go (Some entry) = chosen entry (may_have least next entry.1) (lower entry)

-- Either none is read, or the number after the last of them is below the limit.
pub readable_few : (form : Form) (least next : ℕ) (rows : List (ℕ × List ℕ)) → (readable form least next rows ≡ []) ⊎ (next + length (readable form least next rows) < NUMBER_LIMIT)
readable_few form least next rows = elim (cases_lt next NUMBER_LIMIT) [
  | inl below ↦ inr (readable_below form least next rows below)
  | inr high ↦ inl (readable_none form least next rows high)
]
