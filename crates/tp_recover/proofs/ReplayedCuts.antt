-- What is replayed after a cut can be opened as a book.
use Rattle.std.proofs.Common.{◌≡◌, ℕ, ◌-◌, ◌<◌, true, List, [], ◌∷◌, length, map, get_or, sym, ap, subst, ◌∙◌, arith, Some, Ok}
use Rattle.std.specs.Prelude.{◌&&◌, nat_le, nat_lt}
use Rattle.tp_recover.proofs.Lower.{AllByRecursion, option_map, and_parts, ltb-true, slice_get-map, slice_get-get_or, Entry, Form, NUMBER_LIMIT, NodeState, node_of, t414, t414_ends, Network, on_line, next, AreOf, is_in_range, markers, plain, AreNumbered, after, Sound, Topology, is_topology, or_damaged, Replay, with_entry, is_number, after_row, after_rows, replay_from, row_entry, IsCut, IsNodeOfBytes, all_append, map_some, cond_some, bind_ok, or_damaged_ok, entry_found, PortParts, NetState, AreCounted, port_made, AreInRange, cut_of, now_of, IsWellOpen, IsFlat, IsHistory, counted_next, flat_next, markers_next, history_of, lines_unmarked, plain_lines}
use Rattle.tp_recover.proofs.HeldPorts.{EachPort, IsHeld, held_next}
use Rattle.tp_recover.proofs.CutsAreFlat.{cut_flat, cut_counted, cut_held}
use Rattle.tp_recover.proofs.Ranged.{entry_ranged, ranged_takes}

-- ## What a replay keeps

-- of a replay from a cut
pub record IsReplayed (r : Replay NodeState) : Type 0 where
  pub flat : IsFlat r.now
  pub unmarked : (line : ℕ) → markers (on_line r.now.lines line) ≡ 0
  pub counted : AreCounted r.next r.now.ports
  pub held : EachPort IsHeld r.now.ports
  pub few : r.next < NUMBER_LIMIT
  pub ranged : AllByRecursion (λ (e : Entry × ℕ). is_in_range e.0 ≡ true) r.kept

replayed_first : (form : Form) (t : Topology) (base : ℕ) (s : Network NodeState) → is_topology t ≡ true → IsCut t414_ends t base s → AllByRecursion IsNodeOfBytes s.nodes → IsReplayed (replay_from form s base)
replayed_first form t base s topology C bytes = record {
  flat = cut_flat t base s topology C bytes;
  unmarked = lines_unmarked t.wires s.lines C.lines;
  counted = cut_counted t414_ends t base s C;
  held = cut_held t414_ends t base s C;
  few = C.base_fits;
  ranged = tt;
}

replayed_entry : (r : Replay NodeState) (entry : Entry × ℕ) (now : Network NodeState) → IsReplayed r → is_in_range entry.0 ≡ true → is_number r entry.1 ≡ true → next t414 r.now entry.0 ≡ Some now
    → IsReplayed (with_entry r entry now)
replayed_entry r entry now R one number step =
    let low = and_parts (nat_le r.least entry.1) (nat_le entry.1 r.next && nat_lt r.next (NUMBER_LIMIT - 1)) number in
    let last = and_parts (nat_le entry.1 r.next) (nat_lt r.next (NUMBER_LIMIT - 1)) low.1 in
    let room = ltb-true r.next (NUMBER_LIMIT - 1) last.1 in
    record {
      flat = flat_next r.now entry.0 now R.flat (ranged_takes entry.0 one) step;
      unmarked = λ line. markers_next r.now entry.0 now R.flat step line ∙ R.unmarked line;
      counted = counted_next r.next r.now entry.0 now R.counted step;
      held = held_next r.now entry.0 now R.held step;
      few = omega (arith, room);
      ranged = all_append (λ (e : Entry × ℕ). is_in_range e.0 ≡ true) r.kept (entry ∷ []) R.ranged (one, tt);
    }

replayed_row : (r v : Replay NodeState) (row : List ℕ) → IsReplayed r → after_row t414 r row ≡ Some v → IsReplayed v
replayed_row r v row R is =
    let found = entry_found t414 r v (row_entry r.form row) is in
    let entry = found.0 in
    let tested = cond_some (is_number r entry.1) (option_map (with_entry r entry) (next t414 r.now entry.0)) v found.2 in
    let stepped = map_some (with_entry r entry) (next t414 r.now entry.0) v tested.1 in
    subst IsReplayed stepped.2 (replayed_entry r entry stepped.0 R (entry_ranged r.form row entry found.1) tested.0 stepped.1)

replayed_rows : (r v : Replay NodeState) (rows : List (ℕ × List ℕ)) → IsReplayed r → after_rows t414 r rows ≡ Ok v → IsReplayed v
unfolding after_rows
replayed_rows r v [] R is = subst IsReplayed (let same = is in cc) R
replayed_rows r v (row ∷ rows) R is =
    let first = bind_ok (or_damaged row.0 (after_row t414 r row.1)) (λ more. after_rows t414 more rows) v is in
    replayed_rows first.0 v rows (replayed_row r first.0 row.1 R (or_damaged_ok row.0 (after_row t414 r row.1) first.0 first.1)) first.2

-- the entries without their numbers
ranged_entries : (es : List (Entry × ℕ)) → AllByRecursion (λ (e : Entry × ℕ). is_in_range e.0 ≡ true) es → AreInRange (map (λ (e : Entry × ℕ). e.0) es)
ranged_entries [] all = tt
ranged_entries (e ∷ es) all = (all.0, ranged_entries es all.1)

-- What is replayed from a cut is flat, without Markers and counted; each port holds what it has room for, and a number is left.
pub replayed_holds : (form : Form) (t : Topology) (base : ℕ) (s : Network NodeState) (rows : List (ℕ × List ℕ)) (r : Replay NodeState) → is_topology t ≡ true → IsCut t414_ends t base s
    → AllByRecursion IsNodeOfBytes s.nodes → after_rows t414 (replay_from form s base) rows ≡ Ok r → IsReplayed r
replayed_holds form t base s rows r topology C bytes is = replayed_rows (replay_from form s base) r rows (replayed_first form t base s topology C bytes) is

-- ## A state that opening leaves

-- the ports' parts hold as much as the ports
pub parts_held : (parts : List PortParts) → EachPort IsHeld (map port_made parts) → (k : ℕ) (d : PortParts) → k < length parts → IsHeld (port_made (get_or parts k d))
parts_held parts held k d below =
    held k (port_made (get_or parts k d)) (slice_get-map port_made parts k ∙ ap (option_map port_made) (slice_get-get_or parts k d below))

-- A state of the parts is what opening leaves: the cut, the network that the replay led to, and the entries with their numbers.
pub replayed_opened : (form : Form) (t : Topology) (base : ℕ) (s : Network NodeState) (rows : List (ℕ × List ℕ)) (r : Replay NodeState) (o : NetState) → is_topology t ≡ true → IsCut t414_ends t base s
    → AllByRecursion IsNodeOfBytes s.nodes → after_rows t414 (replay_from form s base) rows ≡ Ok r → cut_of o ≡ s → now_of o ≡ r.now → o.kept.items ≡ r.kept → o.base ≡ base → o.form ≡ form → o.next ≡ r.next
    → o.generation < NUMBER_LIMIT → map (λ image. node_of image.items) o.net.images.items ≡ map (λ node. Some node) (now_of o).nodes → IsWellOpen o
replayed_opened form t base s rows r o topology C bytes is cut now kept base_is form_is next_is age images =
    let R = replayed_holds form t base s rows r topology C bytes is in
    let history : IsHistory t414 form s base r = history_of t414 form s base r rows is in
    let entries : map (λ (e : Entry × ℕ). e.0) o.kept.items ≡ map (λ (e : Entry × ℕ). e.0) r.kept = ap (map (λ (e : Entry × ℕ). e.0)) kept in
    let numbers : map (λ (e : Entry × ℕ). e.1) o.kept.items ≡ map (λ (e : Entry × ℕ). e.1) r.kept = ap (map (λ (e : Entry × ℕ). e.1)) kept in
    let flat : IsFlat (now_of o) = subst IsFlat (sym now) R.flat in
    let held : EachPort IsHeld (now_of o).ports = subst (λ x. EachPort IsHeld x.ports) (sym now) R.held in
    record {
      history = ap (λ x. after t414 x (map (λ (e : Entry × ℕ). e.0) o.kept.items)) cut ∙ ap (after t414 s) entries ∙ history.leads ∙ ap (λ x. Some x) (sym now);
      sound = flat.sound;
      shaped = record { wires = flat.shaped.wires; few_nodes = flat.shaped.few_nodes; few_ports = flat.shaped.few_ports };
      lines = flat.shaped.lines ∙ sym flat.shaped.wires;
      unmarked = subst (λ x. map plain x.lines ≡ x.lines) (sym now) (plain_lines r.now.lines R.unmarked);
      numbered = subst (λ least. AreNumbered 0 least (map (λ (e : Entry × ℕ). e.1) o.kept.items)) (sym base_is) (subst (AreNumbered 0 base) (sym numbers) history.numbered);
      next = omega (arith, next_is, history.next, base_is, ap length kept, o.kept.ok.0);
      few = omega (arith, next_is, R.few);
      age = age;
      ranged = subst AreInRange (sym entries) (ranged_entries r.kept R.ranged);
      of_form = subst (AreOf o.form) (sym kept) (subst (λ f. AreOf f r.kept) (sym form_is) history.of_form);
      counted = subst (λ x. AreCounted o.next x.ports) (sym now) (subst (λ n. AreCounted n r.now.ports) (sym next_is) R.counted);
      pending = λ k d below. let part = parts_held o.net.ports.items held k d below in omega (arith, part.pending, (get_or o.net.ports.items k d).pending.ok.0);
      outputs = λ k d below. let part = parts_held o.net.ports.items held k d below in omega (arith, part.outputs, (get_or o.net.ports.items k d).outputs.ok.0);
      origin = subst (λ x. Sound t414_ends x) (sym cut) (cut_flat t base s topology C bytes).sound;
      images = images;
    }
