-- What is read as groups is spelt as groups.
use Rattle.std.proofs.Common.{◌≡◌, ℕ, zero, suc, ◌+◌, ◌-◌, ◌*◌, ◌<◌, ◌≤◌, Bool, true, false, cond, List, [], ◌∷◌, ◌++◌, length, take, drop, refl, sym, ap, subst, ◌∙◌, arith, append_assoc, append-nil, length-append, length-drop, Option, Some, None, Ok}
use Rattle.std.specs.Prelude.{◌==◌, ◌&&◌, nat_le, nat_lt, map, flat_map}
use Rattle.tp_law_device.proofs.Lower.{option_map, AllByRecursion, concat, and_parts, leb-true, ltb-true, false≢true, take_at, drop_at, take-append-drop, map-append, length-map, take-map, drop-map, Entry, GATE_OPEN, MAX_GROUP, NUMBER_LIMIT, Machine, Network, next, after, AreNumbered, is_open, AreOf, IsSpelt, entry_bytes, is_of, rows_of, rows_behind, header, group_length, group_bytes, or_bad, or_damaged, groups_bytes, entries_in, IsGroup, Listing, Replay, row_entry, group_rows_at, at_open_gate, listing, with_entry, is_number, after_row, after_rows, entry_at-bytes, group_at-are, map_some, cond_some, after_first}
use Rattle.tp_law_device.proofs.Faults.{bind_ok, or_damaged_ok}
use Rattle.tp_law_device.proofs.Forms.{row_spells}
use Rattle.tp_law_device.proofs.Replays.{bytes_of_rows, entry_found}
use Rattle.tp_law_device.proofs.SpeltAreas.{placed_rows}

-- ## Groups, as their rows

-- rows that a group may have
pub record AreRows (rows : List (List ℕ)) : Type 0 where
  pub some : 1 ≤ length rows
  pub few : length rows ≤ MAX_GROUP
  pub each : AllByRecursion (λ row. length row ≡ 16) rows

length-concat_rows : (rows : List (List ℕ)) → AllByRecursion (λ row. length row ≡ 16) rows → length (concat rows) ≡ 16 * length rows
length-concat_rows [] h = refl
length-concat_rows (row ∷ rows) h = omega (arith, h.0, length-append row (concat rows), length-concat_rows rows h.1)

length-header_rows : (rows : List (List ℕ)) → AreRows rows → length (header rows) ≡ 15
length-header_rows [] h = absurd (let some = h.some in omega arith)
length-header_rows (row ∷ rows) h = let each = h.each in omega (arith, each.0, length-drop 8 row)

length-group_rows : (rows : List (List ℕ)) → AreRows rows → length (group_bytes rows) ≡ group_length (length rows)
length-group_rows rows h = omega (arith, length-append (header rows) (concat rows), length-header_rows rows h, length-concat_rows rows h.each)

abbrev pub all_bytes : List (List (List ℕ)) → List ℕ
all_bytes groups = flat_map group_bytes groups

abbrev pub all_rows : List (List (List ℕ)) → List (List ℕ)
all_rows groups = flat_map (λ rows. rows) groups

-- the groups that were read, and what they are read of
pub record GroupsRead (found : Listing) (skip at : ℕ) (bytes : List ℕ) : Type 0 where
  pub groups : List (List (List ℕ))
  pub each : AllByRecursion AreRows groups
  pub gate : ℕ
  pub rest : List ℕ
  pub shut : is_open gate ≡ false
  pub are : drop skip bytes ≡ all_bytes groups ++ gate ∷ rest
  pub rows : bytes_of_rows found.rows ≡ all_rows groups
  pub end : found.end ≡ at + skip + length (all_bytes groups)

-- the group at an open gate, with what follows it
record GroupRead (gate : ℕ) (bytes : List ℕ) (rows : List (List ℕ)) : Type 0 where
  is : AreRows rows
  are : gate ∷ bytes ≡ group_bytes rows ++ drop (group_length (length rows) - 1) bytes

group_read : (gate : ℕ) (bytes : List ℕ) (rows : List (List ℕ)) → (gate == GATE_OPEN) ≡ true → rows_behind bytes ≡ Some rows → GroupRead gate bytes rows
group_read gate bytes rows opened found =
    let G = group_at-are (gate ∷ bytes) rows (λ i. cond (opened i) (or_bad (found i)) (Ok None)) in
    let is : AreRows rows = record { some = G.some; few = G.few; each = G.each } in
    let size = length-group_rows rows is in
    let behind : drop (group_length (length rows)) (gate ∷ bytes) ≡ G.next ∷ G.behind = ap (drop (group_length (length rows))) G.are ∙ drop_at (group_bytes rows) (G.next ∷ G.behind) (group_length (length rows)) size in
    let step : group_length (length rows) ≡ suc (group_length (length rows) - 1) = omega arith in
    let moved : drop (group_length (length rows) - 1) bytes ≡ G.next ∷ G.behind = ap (λ k. drop k (gate ∷ bytes)) (sym step) ∙ behind in
    record { is = is; are = G.are ∙ ap (λ zs. group_bytes rows ++ zs) (sym moved) }

pub groups_read : (skip at : ℕ) (bytes : List ℕ) → (listing skip at bytes).is_closed ≡ true → GroupsRead (listing skip at bytes) skip at bytes
unfolding listing
groups_read skip at [] closed = absurd (false≢true closed)
groups_read (suc skip) at (x ∷ bytes) closed =
    let r = groups_read skip (at + 1) bytes closed in
    record { groups = r.groups; each = r.each; gate = r.gate; rest = r.rest; shut = r.shut; are = r.are; rows = r.rows; end = r.end ∙ omega arith }
groups_read zero at (gate ∷ bytes) closed = go (gate == GATE_OPEN) refl (rows_behind bytes) refl (λ skip. groups_read skip (at + 1) bytes) closed
  where
    go : (b : Bool) → (gate == GATE_OPEN) ≡ b → (found : Option (List (List ℕ))) → rows_behind bytes ≡ found
        → ((skip : ℕ) → (listing skip (at + 1) bytes).is_closed ≡ true → GroupsRead (listing skip (at + 1) bytes) skip (at + 1) bytes)
        → (cond b (at_open_gate at found (λ skip. listing skip (at + 1) bytes)) (record { rows = []; end = at; is_closed = true })).is_closed ≡ true
        → GroupsRead (cond b (at_open_gate at found (λ skip. listing skip (at + 1) bytes)) (record { rows = []; end = at; is_closed = true })) zero at (gate ∷ bytes)
    go false is found found_is more closed = record { groups = []; each = tt; gate = gate; rest = bytes; shut = is; are = refl; rows = refl; end = omega arith }
    go true is None found_is more closed = absurd (false≢true closed)
    go true is (Some rows) found_is more closed =
        let long = group_length (length rows) - 1 in
        let G = group_read gate bytes rows is found_is in
        let r = more long closed in
        let behind = listing long (at + 1) bytes in
        let size = length-group_rows rows G.is in
        record {
          groups = rows ∷ r.groups;
          each = (G.is, r.each);
          gate = r.gate;
          rest = r.rest;
          shut = r.shut;
          are = G.are ∙ ap (λ zs. group_bytes rows ++ zs) r.are ∙ sym (append_assoc (group_bytes rows) (all_bytes r.groups) (r.gate ∷ r.rest));
          rows = map-append (λ (row : ℕ × List ℕ). row.1) (group_rows_at (at + 16) rows) behind.rows ∙ ap (λ zs. zs ++ bytes_of_rows behind.rows) (placed_rows (at + 16) rows) ∙ ap (λ zs. rows ++ zs) r.rows;
          end = omega (arith, r.end, size, length-append (group_bytes rows) (all_bytes r.groups));
        }

-- ## Their entries

-- entries that were replayed from rows
pub record EntriesRead {Node : Type 0} (M : Machine Node) (r v : Replay Node) (rows : List (ℕ × List ℕ)) : Type 0 where
  pub entries : List (Entry × ℕ)
  pub kept : v.kept ≡ r.kept ++ entries
  pub rows_are : rows_of entries ≡ bytes_of_rows rows
  pub spelt : AllByRecursion (λ e. IsSpelt e.0 e.1) entries
  pub of_form : AreOf r.form entries
  pub numbers : AreNumbered r.least r.next (map (λ e. e.1) entries)
  pub leads : after M r.now (map (λ e. e.0) entries) ≡ Some v.now
  pub last : r.next ≤ NUMBER_LIMIT - 1 → r.next + length entries ≤ NUMBER_LIMIT - 1

-- one of them
record EntryRead {Node : Type 0} (M : Machine Node) (r v : Replay Node) (row : List ℕ) : Type 0 where
  entry : Entry × ℕ
  spelt : IsSpelt entry.0 entry.1
  of_form : is_of r.form entry.0 ≡ true
  row_is : entry_bytes entry.0 entry.1 ≡ row
  least : r.least ≤ entry.1
  most : entry.1 ≤ r.next
  below : r.next < NUMBER_LIMIT - 1
  now : Network Node
  leads : next M r.now entry.0 ≡ Some now
  is : with_entry r entry now ≡ v

entry_read : {Node : Type 0} (M : Machine Node) (r v : Replay Node) (row : List ℕ) → after_row M r row ≡ Some v → EntryRead M r v row
entry_read M r v row is =
    let found = entry_found M r v (row_entry r.form row) is in
    let entry = found.0 in
    let own = row_spells r.form row entry found.1 in
    let bytes = entry_at-bytes row entry.0 entry.1 own.0 in
    let tested = cond_some (is_number r entry.1) (option_map (with_entry r entry) (next M r.now entry.0)) v found.2 in
    let stepped = map_some (with_entry r entry) (next M r.now entry.0) v tested.1 in
    let low = and_parts (nat_le r.least entry.1) (nat_le entry.1 r.next && nat_lt r.next (NUMBER_LIMIT - 1)) tested.0 in
    let high = and_parts (nat_le entry.1 r.next) (nat_lt r.next (NUMBER_LIMIT - 1)) low.1 in
    record {
      entry = entry;
      spelt = bytes.0;
      of_form = own.1;
      row_is = sym bytes.1;
      least = leb-true r.least entry.1 low.0;
      most = leb-true entry.1 r.next high.0;
      below = ltb-true r.next (NUMBER_LIMIT - 1) high.1;
      now = stepped.0;
      leads = stepped.1;
      is = stepped.2;
    }

entry_leads : {Node : Type 0} (M : Machine Node) (s t last : Network Node) (e : Entry) (es : List Entry) → next M s e ≡ Some t → after M t es ≡ Some last → after M s (e ∷ es) ≡ Some last
entry_leads M s t last e es first rest = after_first M s t e es first ∙ rest

entry_kept : (all kept es : List (Entry × ℕ)) (e : Entry × ℕ) → all ≡ (kept ++ e ∷ []) ++ es → all ≡ kept ++ e ∷ es
entry_kept all kept es e is = is ∙ append_assoc kept (e ∷ []) es

pub entries_read : {Node : Type 0} (M : Machine Node) (r v : Replay Node) (rows : List (ℕ × List ℕ)) → after_rows M r rows ≡ Ok v → EntriesRead M r v rows
unfolding after_rows after
entries_read M r v [] is =
    let same : r ≡ v = cc in
    subst (λ u. EntriesRead M r u []) same (record { entries = []; kept = sym (append-nil r.kept); rows_are = refl; spelt = tt; of_form = tt; numbers = tt; leads = refl; last = λ low. omega arith })
entries_read M r v (row ∷ rows) is =
    let first = bind_ok (or_damaged row.0 (after_row M r row.1)) (λ more. after_rows M more rows) v is in
    let E = entry_read M r first.0 row.1 (or_damaged_ok row.0 (after_row M r row.1) first.0 first.1) in
    let more : after_rows M (with_entry r E.entry E.now) rows ≡ Ok v = ap (λ u. after_rows M u rows) E.is ∙ first.2 in
    let rest = entries_read M (with_entry r E.entry E.now) v rows more in
    let here = E.row_is in
    let behind = rest.rows_are in
    record {
      entries = E.entry ∷ rest.entries;
      kept = entry_kept v.kept r.kept rest.entries E.entry rest.kept;
      rows_are = λ i. here i ∷ behind i;
      spelt = (E.spelt, rest.spelt);
      of_form = (E.of_form, rest.of_form);
      numbers = (E.least, E.most, rest.numbers);
      leads = entry_leads M r.now E.now v.now E.entry.0 (map (λ e. e.0) rest.entries) E.leads rest.leads;
      last = λ low. let below = E.below in let end = rest.last (omega arith) in omega arith;
    }

-- ## Entries in groups

-- entries whose rows are those of groups, put into groups
pub record Grouped (groups : List (List (List ℕ))) (entries : List (Entry × ℕ)) : Type 0 where
  pub in_groups : List (List (Entry × ℕ))
  pub bytes : groups_bytes in_groups ≡ all_bytes groups
  pub are : entries_in in_groups ≡ entries
  pub each : AllByRecursion IsGroup in_groups

spelt_take : (n : ℕ) (entries : List (Entry × ℕ)) → AllByRecursion (λ e. IsSpelt e.0 e.1) entries → AllByRecursion (λ e. IsSpelt e.0 e.1) (take n entries)
spelt_take zero entries h = tt
spelt_take (suc n) [] h = tt
spelt_take (suc n) (e ∷ es) h = (h.0, spelt_take n es h.1)

spelt_drop : (n : ℕ) (entries : List (Entry × ℕ)) → AllByRecursion (λ e. IsSpelt e.0 e.1) entries → AllByRecursion (λ e. IsSpelt e.0 e.1) (drop n entries)
spelt_drop zero entries h = h
spelt_drop (suc n) [] h = tt
spelt_drop (suc n) (e ∷ es) h = spelt_drop n es h.1

pub grouped : (groups : List (List (List ℕ))) (entries : List (Entry × ℕ)) → AllByRecursion AreRows groups → AllByRecursion (λ e. IsSpelt e.0 e.1) entries → rows_of entries ≡ all_rows groups → Grouped groups entries
unfolding groups_bytes
grouped [] [] each spelt is = record { in_groups = []; bytes = refl; are = refl; each = tt }
grouped [] (e ∷ es) each spelt is = cc
grouped (rows ∷ groups) entries each spelt is =
    let n = length rows in
    let row = λ (e : Entry × ℕ). entry_bytes e.0 e.1 in
    let first : rows_of (take n entries) ≡ rows = sym (take-map row n entries) ∙ ap (take n) is ∙ take_at rows (all_rows groups) n refl in
    let behind : rows_of (drop n entries) ≡ all_rows groups = sym (drop-map row n entries) ∙ ap (drop n) is ∙ drop_at rows (all_rows groups) n refl in
    let rest = grouped groups (drop n entries) each.1 (spelt_drop n entries spelt) behind in
    let G = each.0 in
    let count : length (take n entries) ≡ n = sym (length-map (take n entries) row) ∙ ap length first in
    let others = rest.bytes in
    record {
      in_groups = take n entries ∷ rest.in_groups;
      bytes = λ i. group_bytes (first i) ++ others i;
      are = ap (λ zs. take n entries ++ zs) rest.are ∙ take-append-drop n entries;
      each = (record { some = omega (arith, G.some, count); few = omega (arith, G.few, count); each = spelt_take n entries spelt }, rest.each);
    }
