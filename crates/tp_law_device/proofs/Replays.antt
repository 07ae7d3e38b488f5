-- Entries that are replayed from their bytes.
use Rattle.std.proofs.Common.{◌≡◌, ℕ, ◌+◌, ◌-◌, ◌<◌, ◌≤◌, true, cond, List, [], ◌∷◌, ◌++◌, length, refl, sym, ap, subst, ◌∙◌, arith, append_assoc, append-nil, Option, Some, None, Ok}
use Rattle.std.specs.Prelude.{◌&&◌, nat_le, nat_lt, map}
use Rattle.tp_law_device.proofs.Lower.{option_map, option_and_then, AllByRecursion, and_parts, and_from, leb-true, le-leb, lt-ltb, map_push, length_push, Entry, Form, NUMBER_LIMIT, ◌>>=◌, Machine, Network, next, after, entry_bytes, is_of, is_spelt, AreOf, IsSpelt, rows_of, or_damaged, Replay, row_entry, group_rows_at, with_entry, is_number, after_entry, after_row, after_rows, replay_from, AreNumbered, map_some, cond_some, after_last, first_possible}
use Rattle.tp_law_device.proofs.Faults.{bind_ok, or_damaged_ok}
use Rattle.tp_law_device.proofs.Forms.{row_entry-spelt}

-- ## What a replay keeps

-- of a replay from a network after `base` entries
pub record Replays {Node : Type 0} (M : Machine Node) (s : Network Node) (base : ℕ) (r : Replay Node) : Type 0 where
  pub least : r.least ≤ r.next
  pub next : r.next ≡ base + length r.kept
  pub leads : after M s (map (λ e. e.0) r.kept) ≡ Some r.now

replays_first : {Node : Type 0} (M : Machine Node) (form : Form) (s : Network Node) (base : ℕ) → Replays M s base (replay_from form s base)
unfolding after
replays_first M form s base = record { least = omega arith; next = omega arith; leads = refl }

pub entry_found : {Node : Type 0} (M : Machine Node) (r v : Replay Node) (read : Option (Entry × ℕ)) → option_and_then (after_entry M r) read ≡ Some v
    → (entry : Entry × ℕ) × (read ≡ Some entry) × (after_entry M r entry ≡ Some v)
entry_found M r v None e = cc
entry_found M r v (Some entry) e = (entry, refl, e)

replays_row : {Node : Type 0} (M : Machine Node) (s : Network Node) (base : ℕ) (r v : Replay Node) (row : List ℕ) → Replays M s base r → after_row M r row ≡ Some v → Replays M s base v
replays_row M s base r v row R is =
    let found = entry_found M r v (row_entry r.form row) is in
    let entry = found.0 in
    let tested = cond_some (is_number r entry.1) (option_map (with_entry r entry) (next M r.now entry.0)) v found.2 in
    let stepped = map_some (with_entry r entry) (next M r.now entry.0) v tested.1 in
    let low = and_parts (nat_le r.least entry.1) (nat_le entry.1 r.next && nat_lt r.next (NUMBER_LIMIT - 1)) tested.0 in
    let most = leb-true entry.1 r.next (and_parts (nat_le entry.1 r.next) (nat_lt r.next (NUMBER_LIMIT - 1)) low.1).0 in
    subst (Replays M s base) stepped.2 (record {
      least = omega arith;
      next = omega (arith, R.next, length_push r.kept entry);
      leads = ap (after M s) (map_push (λ (e : Entry × ℕ). e.0) r.kept entry) ∙ after_last M s r.now (map (λ e. e.0) r.kept) entry.0 R.leads ∙ stepped.1;
    })

replays_rows : {Node : Type 0} (M : Machine Node) (s : Network Node) (base : ℕ) (r v : Replay Node) (rows : List (ℕ × List ℕ)) → Replays M s base r → after_rows M r rows ≡ Ok v → Replays M s base v
unfolding after_rows
replays_rows M s base r v [] R is = subst (Replays M s base) (let same = is in cc) R
replays_rows M s base r v (row ∷ rows) R is =
    let first = bind_ok (or_damaged row.0 (after_row M r row.1)) (λ more. after_rows M more rows) v is in
    replays_rows M s base first.0 v rows (replays_row M s base r first.0 row.1 R (or_damaged_ok row.0 (after_row M r row.1) first.0 first.1)) first.2

pub replay_holds : {Node : Type 0} (M : Machine Node) (form : Form) (s : Network Node) (base : ℕ) (v : Replay Node) (rows : List (ℕ × List ℕ)) → after_rows M (replay_from form s base) rows ≡ Ok v → Replays M s base v
replay_holds M form s base v rows is = replays_rows M s base (replay_from form s base) v rows (replays_first M form s base) is

-- the area's form stays
row_form : {Node : Type 0} (M : Machine Node) (r v : Replay Node) (row : List ℕ) → after_row M r row ≡ Some v → v.form ≡ r.form
row_form M r v row is =
    let found = entry_found M r v (row_entry r.form row) is in
    let entry = found.0 in
    let tested = cond_some (is_number r entry.1) (option_map (with_entry r entry) (next M r.now entry.0)) v found.2 in
    let stepped = map_some (with_entry r entry) (next M r.now entry.0) v tested.1 in
    ap (λ (u : Replay _). u.form) (sym stepped.2)

pub rows_form : {Node : Type 0} (M : Machine Node) (r v : Replay Node) (rows : List (ℕ × List ℕ)) → after_rows M r rows ≡ Ok v → v.form ≡ r.form
unfolding after_rows
rows_form M r v [] is = let same : r ≡ v = cc in ap (λ (u : Replay _). u.form) (sym same)
rows_form M r v (row ∷ rows) is =
    let first = bind_ok (or_damaged row.0 (after_row M r row.1)) (λ more. after_rows M more rows) v is in
    rows_form M first.0 v rows first.2 ∙ row_form M r first.0 row.1 (or_damaged_ok row.0 (after_row M r row.1) first.0 first.1)

-- ## Entries that were written

-- the next entry, as it is spelt with a number that it may have
row_spelt : {Node : Type 0} (M : Machine Node) (r : Replay Node) (e : Entry) (number : ℕ) (now : Network Node) → next M r.now e ≡ Some now → r.least ≤ number → number ≤ r.next
    → r.next < NUMBER_LIMIT - 1 → is_spelt e number ≡ true → is_of r.form e ≡ true → after_row M r (entry_bytes e number) ≡ Some (with_entry r (e, number) now)
row_spelt M r e number now step least most below spelt of =
    let read = row_entry-spelt r.form e number spelt of in
    let tests : is_number r number ≡ true = and_from (nat_le r.least number) (nat_le number r.next && nat_lt r.next (NUMBER_LIMIT - 1)) (le-leb r.least number least)
    (and_from (nat_le number r.next) (nat_lt r.next (NUMBER_LIMIT - 1)) (le-leb number r.next most) (lt-ltb r.next (NUMBER_LIMIT - 1) below)) in
    (λ i. option_and_then (after_entry M r) (read i))
    ∙ (λ i. cond (tests i) (option_map (with_entry r (e, number)) (step i)) None)

-- what replaying entries leads to
pub record Replayed {Node : Type 0} (M : Machine Node) (r : Replay Node) (rows : List (ℕ × List ℕ)) (entries : List (Entry × ℕ)) (last : Network Node) : Type 0 where
  pub to : Replay Node
  pub is : after_rows M r rows ≡ Ok to
  pub kept : to.kept ≡ r.kept ++ entries
  pub now : to.now ≡ last

-- Possible entries are replayed from their rows, with numbers that they may have.
pub rows_spelt : {Node : Type 0} (M : Machine Node) (entries : List (Entry × ℕ)) (r : Replay Node) (at : ℕ) (last : Network Node) → after M r.now (map (λ e. e.0) entries) ≡ Some last
    → AreNumbered r.least r.next (map (λ e. e.1) entries) → r.next + length entries < NUMBER_LIMIT → AllByRecursion (λ e. IsSpelt e.0 e.1) entries
    → AreOf r.form entries → Replayed M r (group_rows_at at (rows_of entries)) entries last
unfolding after_rows after
rows_spelt M [] r at last possible numbers below spelt of = record { to = r; is = refl; kept = sym (append-nil r.kept); now = let same = possible in cc }
rows_spelt {Node} M (e ∷ es) r at last possible numbers below spelt of =
    let step = first_possible M r.now last e.0 (map (λ e. e.0) es) possible in
    let v : Replay Node = with_entry r e step.0 in
    let row = row_spelt M r e.0 e.1 step.0 step.1 numbers.0 numbers.1 (omega arith) spelt.0 of.0 in
    let rest = rows_spelt M es v (at + 16) last step.2 numbers.2 (omega arith) spelt.1 of.1 in
    record {
      to = rest.to;
      is = (λ i. or_damaged at (row i) >>= λ more. after_rows M more (group_rows_at (at + 16) (rows_of es))) ∙ rest.is;
      kept = rest.kept ∙ append_assoc r.kept (e ∷ []) es;
      now = rest.now;
    }

-- ## Their places don't matter

abbrev pub bytes_of_rows : List (ℕ × List ℕ) → List (List ℕ)
bytes_of_rows rows = map (λ row. row.1) rows

same_cons : (x y : List ℕ) (xs ys : List (List ℕ)) → ◌≡◌ {A = List (List ℕ)} (x ∷ xs) (y ∷ ys) → (x ≡ y) × (xs ≡ ys)
same_cons x y xs ys e = (cc, cc)

pub rows_elsewhere : {Node : Type 0} (M : Machine Node) (r v : Replay Node) (xs ys : List (ℕ × List ℕ)) → bytes_of_rows xs ≡ bytes_of_rows ys → after_rows M r xs ≡ Ok v → after_rows M r ys ≡ Ok v
unfolding after_rows
rows_elsewhere M r v [] [] same is = is
rows_elsewhere M r v [] (y ∷ ys) same is = cc
rows_elsewhere M r v (x ∷ xs) [] same is = cc
rows_elsewhere M r v (x ∷ xs) (y ∷ ys) same is =
    let parts = same_cons x.1 y.1 (bytes_of_rows xs) (bytes_of_rows ys) same in
    let first = bind_ok (or_damaged x.0 (after_row M r x.1)) (λ more. after_rows M more xs) v is in
    let here : after_row M r y.1 ≡ Some first.0 = ap (after_row M r) (sym parts.0) ∙ or_damaged_ok x.0 (after_row M r x.1) first.0 first.1 in
    (λ i. or_damaged y.0 (here i) >>= λ more. after_rows M more ys) ∙ rows_elsewhere M first.0 v xs ys parts.1 first.2
