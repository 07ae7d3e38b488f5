-- Groups end inside their area, as long as the journal isn't full.
use Rattle.std.proofs.Common.{◌≡◌, ℕ, zero, suc, ◌+◌, ◌-◌, ◌*◌, ◌<◌, ◌≤◌, Bool, true, false, cond, List, [], ◌∷◌, length, take, drop, refl, sym, ap, ◌∙◌, arith, length-append, Option, Some, None, Ok}
use Rattle.std.specs.Prelude.{◌==◌, ◌&&◌, nat_le, bytes_eq}
use Rattle.tp_law_device.proofs.Lower.{AllByRecursion, option_map, and_parts, leb-true, lt-ltb, length_push, Entry, GATE_OPEN, ENTRY_BYTES, GROUP_HEAD_BYTES, AREA_HEAD_BYTES, MAX_GROUP, NodeState, t414, t414_ends, Machine, next, EndsSeen, Topology, u16_at, rows_of, rows_at, rows_behind, rises, header, group_length, group_bytes, or_damaged, Listing, Replay, row_entry, group_rows_at, at_open_gate, listing, with_entry, is_number, after_row, after_rows, replay_from, cut_length, room, entry_room, area_start, content_of, IsGroup, groups_bytes, entries_in, Opened, base_of, groups_place, opening, verdict, has_room, map_some, cond_some}
use Rattle.std.proofs.lemmas.Option.{cond_some as chosen}
use Rattle.tp_law_device.proofs.Faults.{bind_ok, or_damaged_ok}
use Rattle.tp_law_device.proofs.Listings.{rows_counted, length-group_bytes}
use Rattle.tp_law_device.proofs.Replays.{entry_found}
use Rattle.tp_law_device.proofs.AreaReads.{area_parts, groups_at, groups_in}
use Rattle.tp_law_device.proofs.Opens.{reads_of}

-- ## Groups that are written

-- each has an entry at least, so its header takes no more than 16 bytes an entry
length-groups : (groups : List (List (Entry × ℕ))) → AllByRecursion IsGroup groups → length (groups_bytes groups) ≤ entry_room * length (entries_in groups)
unfolding groups_bytes
length-groups [] each = omega arith
length-groups (group ∷ groups) each =
    let is = each.0 in
    let some = is.some in
    let rest : length (groups_bytes groups) ≤ entry_room * length (entries_in groups) = length-groups groups each.1 in
    omega (arith, length-append (group_bytes (rows_of group)) (groups_bytes groups), length-append group (entries_in groups), length-group_bytes group is, some, rest)

-- after the cut image there is room for them, for one more group, and for the closed gate after it
pub groups_fit : (t : Topology) (area : ℕ) (groups : List (List (Entry × ℕ))) (more : List (Entry × ℕ)) → AllByRecursion IsGroup groups → 1 ≤ length more
    → entry_room * (length (entries_in groups) + length more) ≤ room t area → AREA_HEAD_BYTES + cut_length t + length (groups_bytes groups) + group_length (length more) < area
groups_fit t area groups more each some bound = let size = length-groups groups each in omega arith

-- ## Groups that are read

rows_some : (bytes : List ℕ) (rows : List (List ℕ)) → rows_behind bytes ≡ Some rows → 1 ≤ length rows
unfolding rows_behind
rows_some bytes rows is =
    let n = u16_at bytes 1 in
    let read = rows_at n (drop 15 bytes) in
    let found = chosen ((nat_le 1 n && nat_le n MAX_GROUP) && (nat_le (group_length n) (length bytes) && (bytes_eq (take 15 bytes) (header read) && rises 0 read))) read rows is in
    let tests = and_parts (nat_le 1 n && nat_le n MAX_GROUP) _ found.0 in
    let both = and_parts (nat_le 1 n) (nat_le n MAX_GROUP) tests.0 in
    omega (arith, leb-true 1 n both.0, rows_counted bytes rows is)

pub length-placed : (at : ℕ) (rows : List (List ℕ)) → length (group_rows_at at rows) ≡ length rows
length-placed at [] = refl
length-placed at (row ∷ rows) = ap suc (length-placed (at + ENTRY_BYTES) rows)

abbrev shut_at : ℕ → Listing
shut_at at = record { rows = []; end = at; is_closed = true }

-- reading ends no further than 32 bytes an entry
listing_room : (skip at : ℕ) (bytes : List ℕ) → (listing skip at bytes).end ≤ at + skip + entry_room * length (listing skip at bytes).rows
unfolding listing
listing_room skip at [] = omega arith
listing_room (suc skip) at (x ∷ bytes) = let rest = listing_room skip (at + 1) bytes in omega arith
listing_room zero at (gate ∷ bytes) = go (gate == GATE_OPEN) (rows_behind bytes) refl (λ skip. listing_room skip (at + 1) bytes)
  where
    go : (b : Bool) (found : Option (List (List ℕ))) → rows_behind bytes ≡ found
        → ((skip : ℕ) → (listing skip (at + 1) bytes).end ≤ at + 1 + skip + entry_room * length (listing skip (at + 1) bytes).rows)
        → (cond b (at_open_gate at found (λ skip. listing skip (at + 1) bytes)) (shut_at at)).end
        ≤ at + zero + entry_room * length (cond b (at_open_gate at found (λ skip. listing skip (at + 1) bytes)) (shut_at at)).rows
    go false found is each = omega arith
    go true None is each = omega arith
    go true (Some rows) is each =
        let more = listing (group_length (length rows) - 1) (at + 1) bytes in
        let rest = each (group_length (length rows) - 1) in
        let some = rows_some bytes rows is in
        omega (arith, length-append (group_rows_at (at + GROUP_HEAD_BYTES) rows) more.rows, length-placed (at + GROUP_HEAD_BYTES) rows)

-- one entry is kept of each row
row_kept : {Node : Type 0} (M : Machine Node) (r v : Replay Node) (row : List ℕ) → after_row M r row ≡ Some v → length v.kept ≡ length r.kept + 1
row_kept M r v row is =
    let found = entry_found M r v (row_entry r.form row) is in
    let entry = found.0 in
    let tested = cond_some (is_number r entry.1) (option_map (with_entry r entry) (next M r.now entry.0)) v found.2 in
    let stepped = map_some (with_entry r entry) (next M r.now entry.0) v tested.1 in
    ap (λ (u : Replay _). length u.kept) (sym stepped.2) ∙ length_push r.kept entry

rows_kept : {Node : Type 0} (M : Machine Node) (r v : Replay Node) (rows : List (ℕ × List ℕ)) → after_rows M r rows ≡ Ok v → length v.kept ≡ length r.kept + length rows
unfolding after_rows
rows_kept M r v [] is = let same : r ≡ v = cc in omega (arith, ap (λ u. length u.kept) same)
rows_kept M r v (row ∷ rows) is =
    let first = bind_ok (or_damaged row.0 (after_row M r row.1)) (λ more. after_rows M more rows) v is in
    omega (arith, row_kept M r first.0 row.1 (or_damaged_ok row.0 (after_row M r row.1) first.0 first.1), rows_kept M first.0 v rows first.2)

opening_ends : (M : Machine NodeState) (E : EndsSeen NodeState) (bytes : List ℕ) (o : Opened) → opening M E bytes ≡ Ok o
    → o.end ≤ area_start o.head.areas o.second + AREA_HEAD_BYTES + cut_length o.head.topology + entry_room * length o.kept
opening_ends M E bytes o is =
    let R = reads_of M E bytes o is in
    let content = content_of o.head.areas o.second bytes in
    let A = area_parts M E o.head o.second content o R.area in
    let found = groups_in o.head o.second content in
    let kept = rows_kept M (replay_from A.form A.cut (base_of content)) A.replay found.rows A.leads in
    let same = ap (λ (p : Opened). length p.kept) A.is in
    let end = ap (λ (p : Opened). p.end) A.is in
    let most = listing_room 0 (groups_at o.head o.second) (drop (groups_place o.head.topology) content) in
    omega arith

-- so after the entries that are kept there is room for a group
pub verdict_has_room : (bytes : List ℕ) (o : Opened) → verdict bytes ≡ Ok o → (count : ℕ) → 1 ≤ count → entry_room * (length o.kept + count) ≤ room o.head.topology o.head.areas.length
    → has_room o count ≡ true
unfolding verdict
verdict_has_room bytes o is count some bound =
    let end = opening_ends t414 t414_ends bytes o is in
    lt-ltb (o.end + group_length count) (area_start o.head.areas o.second + o.head.areas.length) (omega arith)
