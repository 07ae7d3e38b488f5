-- A whole cut with its tail can be put into the other area.
use Rattle.std.proofs.Common.{◌≡◌, ℕ, ◌+◌, ◌-◌, ◌*◌, ◌<◌, ◌≤◌, ◌⊎◌, inl, true, false, not, cond, List, [], ◌∷◌, length, refl, sym, ap, subst, ◌∙◌, arith, le_refl, Some, Ok}
use Rattle.std.specs.Prelude.{map, nat_lt}
use Rattle.tp_law_device.proofs.Lower.{AllByRecursion, and_from, and_parts, lt-ltb, length-map, Entry, NUMBER_LIMIT, Turns, NodeState, t414, t414_ends, Network, process, after, pre, post, plain_network, AreNumbered, MarkedNetwork, WholeCut, count_in, network_in, CutHolds, Topology, is_topology, entry_room, room, is_roomy, is_in_range, Held, Resting, is_open, IsCut, SpellsArea, entries_in, Opened, held_of, opening, other_start, other_is_open, other_content, spare_of, device_areas, World, Event, copy_of, HasCut, BeginsFormatted, has_four_links, AreBytes, length-pre-post, chosen_keeps, after_front, CutInvariant, cut_network, whole_holds, length-written, get_or-written_outside, At, kept_of, tail_of, CopySpelt, KeptRun}
use Rattle.tp_law_device.proofs.Contents.{places}
use Rattle.tp_law_device.proofs.ReadAreas.{opens_stand}
use Rattle.tp_law_device.proofs.Opens.{reads_of, held_from, layout}
use Rattle.tp_law_device.proofs.Spare.{loose_keeps}
use Rattle.tp_law_device.proofs.Switches.{switched_holds}
use Rattle.tp_law_device.specs.CutSpelt.{CutSpelt}
use Rattle.tp_law_device.specs.InGroups.{in_groups}
use Rattle.tp_law_device.specs.CanPut.{with_other, CanPut}
use Rattle.tp_law_device.proofs.Numbers.{tail_numbered, tail_entries}
use Rattle.tp_law_device.proofs.TailGroups.{AreSpelt, parted_entries}
use Rattle.tp_law_device.proofs.Content.{AreaSpelling, can_be_spelt}
use Rattle.tp_law_device.proofs.Other.{held_then, other_spelt, content_written}
use Rattle.tp_law_device.proofs.Again.{cut_spelt}
use Rattle.tp_law_device.proofs.Held.{each_has_byte, opened_spelt}
use Rattle.tp_law_device.proofs.KeptRuns.{KeptAt, formatted_kept}

-- ## The entries of a tail

-- entries in range that are numbered are spelt
spelt_numbered : (es : List (Entry × ℕ)) (least most : ℕ) → AllByRecursion (λ (e : Entry × ℕ). is_in_range e.0 ≡ true) es → AreNumbered least most (map (λ (e : Entry × ℕ). e.1) es)
    → most + length es ≤ NUMBER_LIMIT → AreSpelt es
spelt_numbered [] least most h n low = tt
spelt_numbered (e ∷ es) least most h n low = (
  and_from (is_in_range e.0) (nat_lt e.1 NUMBER_LIMIT) h.0 (lt-ltb e.1 NUMBER_LIMIT (let high = n.1 in omega (arith, high, low))),
  spelt_numbered es (e.1 + 1) (most + 1) h.1 n.2 (omega (arith, low)),
)

all_map : (es : List (Entry × ℕ)) → AllByRecursion (λ e. is_in_range e ≡ true) (map (λ (e : Entry × ℕ). e.0) es) → AllByRecursion (λ (e : Entry × ℕ). is_in_range e.0 ≡ true) es
all_map [] h = tt
all_map (e ∷ es) h = (h.0, all_map es h.1)

-- ## The copy of a whole cut

module _ (t : Topology) (w : MarkedNetwork NodeState) (base : ℕ) (cut : WholeCut) (nodes : List NodeState) (kept : List (Entry × ℕ))
    (topology : is_topology t ≡ true) (H : CutInvariant t414 w) (has : HasCut w cut nodes) (C : CutSpelt t base w.start)
    (range : AllByRecursion (λ e. is_in_range e ≡ true) w.entries) (entries : map (λ (e : Entry × ℕ). e.0) kept ≡ w.entries) (numbers : AreNumbered 0 base (map (λ (e : Entry × ℕ). e.1) kept))
    (few : base + length w.entries < NUMBER_LIMIT) where
  abbrev tail : List (Entry × ℕ)
  tail = tail_of w.start cut kept

  abbrev size : ℕ
  size = length (pre (process w.start.wires (length w.start.nodes)) (count_in cut) w.entries)

  holds : CutHolds t414 w cut
  holds = whole_holds t414 has_four_links w H cut has.is

  pub spelt_copy : CutSpelt t (base + cut.size) (network_in w.start cut nodes)
  spelt_copy = cut_spelt t base w cut nodes topology C (each_has_byte w.entries range) holds has.images few

  outside : map (λ (e : Entry × ℕ). e.0) tail ≡ post (process w.start.wires (length w.start.nodes)) (count_in cut) w.entries
  outside = tail_entries w.start cut kept ∙ ap (post (process w.start.wires (length w.start.nodes)) (count_in cut)) entries

  numbered : AreNumbered 0 (base + cut.size) (map (λ (e : Entry × ℕ). e.1) tail)
  numbered =
      let same : base + length (pre (process w.start.wires (length w.start.nodes)) (count_in cut) (map (λ (e : Entry × ℕ). e.0) kept)) ≡ base + cut.size =
      ap (λ es. base + length (pre (process w.start.wires (length w.start.nodes)) (count_in cut) es)) entries ∙ ap (λ n. base + n) (sym holds.size) in
      subst (λ n. AreNumbered 0 n (map (λ (e : Entry × ℕ). e.1) tail)) same (tail_numbered w.start cut kept base numbers)

  count : length tail + cut.size ≡ length w.entries
  count = omega (arith, holds.size, length-map tail (λ (e : Entry × ℕ). e.0), ap length outside, length-pre-post (process w.start.wires (length w.start.nodes)) (count_in cut) w.entries)

  in_range : AllByRecursion (λ (e : Entry × ℕ). is_in_range e.0 ≡ true) tail
  in_range = chosen_keeps (λ (e : Entry × ℕ). is_in_range e.0 ≡ true) (λ (e : Entry × ℕ). process w.start.wires (length w.start.nodes) e.0) (λ p n. not (nat_lt n (count_in cut p))) (λ p. 0) kept
      (all_map kept (subst (AllByRecursion (λ e. is_in_range e ≡ true)) (sym entries) range))

  leads : after t414 (network_in w.start cut nodes) (map (λ (e : Entry × ℕ). e.0) tail) ≡ Some (plain_network w.live)
  leads =
      ap (after t414 (network_in w.start cut nodes)) outside
      ∙ ap (λ s. after t414 s (post (process w.start.wires (length w.start.nodes)) (count_in cut) w.entries)) (cut_network t414 has_four_links w cut nodes holds has.images)
      ∙ sym (after_front t414 w.start holds.consistent.state (pre (process w.start.wires (length w.start.nodes)) (count_in cut) w.entries) (post (process w.start.wires (length w.start.nodes)) (count_in cut) w.entries) holds.consistent.is)
      ∙ holds.same ∙ H.base.now

  pub copy_spelt : CopySpelt t (copy_of w base cut nodes) tail
  copy_spelt = record {
    cut = spelt_copy.cut;
    entries = outside;
    spelt = spelt_numbered tail 0 (base + cut.size) in_range numbered (omega (arith, count, few));
    numbers = numbered;
    last = omega (arith, count, few);
    now = plain_network w.live;
    leads = ap (after t414 (network_in w.start cut nodes)) (sym outside) ∙ leads;
  }

  pub copy_spelling : (area generation : ℕ) → is_roomy t area ≡ true → generation < NUMBER_LIMIT → entry_room * length (post (process w.start.wires (length w.start.nodes)) (count_in cut) w.entries) ≤ room t area
      → AreaSpelling t area generation (base + cut.size) (network_in w.start cut nodes) tail (plain_network w.live)
  copy_spelling area generation roomy young small = can_be_spelt t area generation (base + cut.size) (network_in w.start cut nodes) tail (plain_network w.live) topology roomy young spelt_copy.cut
      (spelt_numbered tail 0 (base + cut.size) in_range numbered (omega (arith, count, few))) numbered (omega (arith, count, few)) leads (omega (arith, small, ap length outside, length-map tail (λ (e : Entry × ℕ). e.0)))

  pub copy_is : held_then (base + cut.size) (network_in w.start cut nodes) (in_groups tail) ≡ copy_of w base cut nodes
  copy_is =
      let same : entries_in (in_groups tail) ≡ tail = parted_entries (length tail) tail (le_refl (length tail)) in
      let all : map (λ (e : Entry × ℕ). e.0) (entries_in (in_groups tail)) ≡ post (process w.start.wires (length w.start.nodes)) (count_in cut) w.entries = ap (map (λ (e : Entry × ℕ). e.0)) same ∙ outside in
      λ i. record { network = network_in w.start cut nodes; entries = all i; base = base + cut.size }

-- ## The device

-- one network is the cut of one topology
pub same_topology : (t u : Topology) (base other : ℕ) (s : Network NodeState) → IsCut t414_ends t base s → IsCut t414_ends u other s → t ≡ u
same_topology t u base other s C D =
    let pages : t.pages ≡ u.pages = sym C.pages ∙ D.pages in
    let ports : t.ports ≡ u.ports = sym C.count ∙ D.count in
    let wires : t.wires ≡ u.wires = sym C.wires ∙ D.wires in
    λ i. record { pages = pages i; ports = ports i; wires = wires i }

-- with another content in the other area the device opens as before
put_stays : (bytes : List ℕ) (o : Opened) (content : List ℕ) → opening t414 t414_ends bytes ≡ Ok o → other_is_open o bytes ≡ false → length content ≡ o.head.areas.length - 1
    → opening t414 t414_ends (with_other bytes o content) ≡ Ok o
unfolding spare_of
put_stays bytes o content is closed long =
    let R = reads_of t414 t414_ends bytes o is in
    let L = layout t414 t414_ends bytes o R in
    let at = other_start o + 1 in
    let fits_in : at + length content ≤ length bytes = omega (arith, long, L.both, L.some, places o.head.areas o.second) in
    loose_keeps t414 t414_ends bytes o is R (with_other bytes o content) (length-written bytes at content fits_in)
    (λ q out beside. get_or-written_outside bytes at content fits_in q (subst (λ (range : ℕ × ℕ). (q < range.0) ⊎ (range.0 + range.1 ≤ q)) (spare_is ∙ (λ i. (at, sym long i))) out))
  where
    spare_is : spare_of (opening t414 t414_ends bytes) bytes ≡ (other_start o + 1, o.head.areas.length - 1)
    spare_is = ap (λ found. spare_of found bytes) is ∙ ap (λ b. cond b (0, 0) (other_start o + 1, o.head.areas.length - 1)) closed

put_closed : (bytes : List ℕ) (o : Opened) (content : List ℕ) → opening t414 t414_ends bytes ≡ Ok o → other_is_open o bytes ≡ false → length content ≡ o.head.areas.length - 1
    → other_is_open o (with_other bytes o content) ≡ false
put_closed bytes o content is closed long =
    let R = reads_of t414 t414_ends bytes o is in
    let L = layout t414 t414_ends bytes o R in
    let at = other_start o + 1 in
    let fits_in : at + length content ≤ length bytes = omega (arith, long, L.both, L.some, places o.head.areas o.second) in
    ap (λ byte. is_open byte) (get_or-written_outside bytes at content fits_in (other_start o) (inl (omega arith))) ∙ closed

pub put_opens : (bytes : List ℕ) (o : Opened) (copy : Held NodeState) (content : List ℕ) (groups : List (List (Entry × ℕ))) (now : Network NodeState)
    → opening t414 t414_ends bytes ≡ Ok o → other_is_open o bytes ≡ false → length content ≡ o.head.areas.length - 1
    → SpellsArea t414 t414_ends o.head.topology content (o.generation + 1) Turns copy.base copy.network groups now → map (λ (e : Entry × ℕ). e.0) (entries_in groups) ≡ copy.entries → CanPut bytes o copy
put_opens bytes o copy content groups now is closed long S entries =
    let left = with_other bytes o content in
    let stays = put_stays bytes o content is closed long in
    let shut = put_closed bytes o content is closed long in
    let there : SpellsArea t414 t414_ends o.head.topology (other_content o left) (o.generation + 1) Turns copy.base copy.network groups now =
    subst (λ xs. SpellsArea t414 t414_ends o.head.topology xs (o.generation + 1) Turns copy.base copy.network groups now) (sym (content_written bytes o content is long)) S in
    let same : held_then copy.base copy.network groups ≡ copy = λ i. record { network = copy.network; entries = entries i; base = copy.base } in
    let other : device_areas.other left ≡ Some (other_start o, copy) =
    other_spelt left o (o.generation + 1) Turns copy.base copy.network groups now stays shut (omega arith) there ∙ (λ i. Some (other_start o, same i)) in
    let reads : device_areas.verdict left ≡ Some (held_of o) = held_from (opening t414 t414_ends left) o (held_of o) stays refl in
    record {
      content = content;
      long = long;
      groups = groups;
      now = now;
      spells = S;
      entries = entries;
      stays = reads;
      other = other;
      opens = switched_holds t414 t414_ends left (held_of o) copy (other_start o) reads other;
    }

-- ## At a moment of a run

-- what the device and the book have in common between groups
pub record AtRest (w : World NodeState) (o : Opened) : Type 0 where
  pub topology : is_topology o.head.topology ≡ true
  pub roomy : is_roomy o.head.topology o.head.areas.length ≡ true
  pub cut : CutSpelt o.head.topology w.base w.net.start

pub at_rest : (most : ℕ) (start : Network NodeState) (w : World NodeState) (o : Opened) → KeptAt most start w → w.at ≡ Resting → AreBytes w.disk.bytes → opening t414 t414_ends w.disk.bytes ≡ Ok o → AtRest w o
at_rest most start w o S rests bytes is =
    let G = S.spelt in
    let a : At t414 device_areas start w Resting = subst (At t414 device_areas start w) rests S.inv.at in
    let reads = a.1.reads in
    let same : held_of o ≡ kept_of w.net.start a.0.tail a.0.durable w.base = let both = sym (held_from (opening t414 t414_ends w.disk.bytes) o (held_of o) is refl) ∙ reads in cc in
    let here = opens_stand t414 t414_ends w.disk.bytes o bytes is in
    let D = opened_spelt w.disk.bytes o bytes is here in
    let cut_is : o.cut ≡ w.net.start = ap (λ (h : Held NodeState). h.network) same in
    let t_is : G.topology ≡ o.head.topology = same_topology G.topology o.head.topology w.base o.base w.net.start G.cut.cut (subst (IsCut t414_ends o.head.topology o.base) cut_is D.cut) in
    record {
      topology = here.topology;
      roomy = (and_parts _ (is_roomy o.head.topology o.head.areas.length) here.room).1;
      cut = subst (λ t. CutSpelt t w.base w.net.start) t_is G.cut;
    }

-- the copy that the flusher makes of a whole cut has a spelling
pub tail_spelt : (most : ℕ) (start : Network NodeState) (w : World NodeState) (o : Opened) (cut : WholeCut) (nodes : List NodeState) (kept : List (Entry × ℕ)) → KeptAt most start w → w.at ≡ Resting → AreBytes w.disk.bytes
    → HasCut w.net cut nodes → opening t414 t414_ends w.disk.bytes ≡ Ok o
    → map (λ (e : Entry × ℕ). e.0) kept ≡ w.net.entries → AreNumbered 0 w.base (map (λ (e : Entry × ℕ). e.1) kept)
    → CopySpelt o.head.topology (copy_of w.net w.base cut nodes) (tail_of w.net.start cut kept)
tail_spelt most start w o cut nodes kept S rests bytes has is entries numbers =
    let G = S.spelt in
    let R = at_rest most start w o S rests bytes is in
    copy_spelt o.head.topology w.net w.base cut nodes kept R.topology S.inv.net has R.cut G.entries entries numbers G.few

pub tail_put : (most : ℕ) (start : Network NodeState) (w : World NodeState) (o : Opened) (cut : WholeCut) (nodes : List NodeState) (kept : List (Entry × ℕ)) → KeptAt most start w → w.at ≡ Resting → AreBytes w.disk.bytes
    → HasCut w.net cut nodes → opening t414 t414_ends w.disk.bytes ≡ Ok o → other_is_open o w.disk.bytes ≡ false
    → map (λ (e : Entry × ℕ). e.0) kept ≡ w.net.entries → AreNumbered 0 w.base (map (λ (e : Entry × ℕ). e.1) kept)
    → o.generation + 1 < NUMBER_LIMIT → entry_room * length (post (process w.net.start.wires (length w.net.start.nodes)) (count_in cut) w.net.entries) ≤ room o.head.topology o.head.areas.length
    → CanPut w.disk.bytes o (copy_of w.net w.base cut nodes)
tail_put most start w o cut nodes kept S rests bytes has is closed entries numbers young small =
    let G = S.spelt in
    let R = at_rest most start w o S rests bytes is in
    let C = R.cut in
    let A = copy_spelling o.head.topology w.net w.base cut nodes kept R.topology S.inv.net has C G.entries entries numbers G.few o.head.areas.length (o.generation + 1) R.roomy young small in
    let copy = copy_of w.net w.base cut nodes in
    let held = copy_is o.head.topology w.net w.base cut nodes kept R.topology S.inv.net has C G.entries entries numbers G.few in
    put_opens w.disk.bytes o copy A.content (in_groups (tail_of w.net.start cut kept)) (plain_network w.net.live) is closed A.long A.spells (ap (λ (h : Held NodeState). h.entries) held)

pub run_tail_put : (most : ℕ) (start : Network NodeState) (events : List (Event NodeState)) (first w : World NodeState) → BeginsFormatted t414 device_areas start first → AreBytes first.disk.bytes → KeptRun most first events w
    → (o : Opened) (cut : WholeCut) (nodes : List NodeState) (kept : List (Entry × ℕ)) → w.at ≡ Resting → AreBytes w.disk.bytes
    → HasCut w.net cut nodes → opening t414 t414_ends w.disk.bytes ≡ Ok o → other_is_open o w.disk.bytes ≡ false
    → map (λ (e : Entry × ℕ). e.0) kept ≡ w.net.entries → AreNumbered 0 w.base (map (λ (e : Entry × ℕ). e.1) kept)
    → o.generation + 1 < NUMBER_LIMIT → entry_room * length (post (process w.net.start.wires (length w.net.start.nodes)) (count_in cut) w.net.entries) ≤ room o.head.topology o.head.areas.length
    → CanPut w.disk.bytes o (copy_of w.net w.base cut nodes)
run_tail_put most start events first w F bytes run o cut nodes kept = tail_put most start w o cut nodes kept (formatted_kept most start events first w F bytes run)

pub run_tail_spelt : (most : ℕ) (start : Network NodeState) (events : List (Event NodeState)) (first w : World NodeState) → BeginsFormatted t414 device_areas start first → AreBytes first.disk.bytes → KeptRun most first events w
    → (o : Opened) (cut : WholeCut) (nodes : List NodeState) (kept : List (Entry × ℕ)) → w.at ≡ Resting → AreBytes w.disk.bytes
    → HasCut w.net cut nodes → opening t414 t414_ends w.disk.bytes ≡ Ok o
    → map (λ (e : Entry × ℕ). e.0) kept ≡ w.net.entries → AreNumbered 0 w.base (map (λ (e : Entry × ℕ). e.1) kept)
    → CopySpelt o.head.topology (copy_of w.net w.base cut nodes) (tail_of w.net.start cut kept)
run_tail_spelt most start events first w F bytes run o cut nodes kept = tail_spelt most start w o cut nodes kept (formatted_kept most start events first w F bytes run)

pub run_kept_spelt : (most : ℕ) (start : Network NodeState) (events : List (Event NodeState)) (first w : World NodeState) → BeginsFormatted t414 device_areas start first → AreBytes first.disk.bytes → KeptRun most first events w
    → (o : Opened) → w.at ≡ Resting → AreBytes w.disk.bytes → opening t414 t414_ends w.disk.bytes ≡ Ok o → CutSpelt o.head.topology w.base w.net.start
run_kept_spelt most start events first w F bytes run o rests are is = let R = at_rest most start w o (formatted_kept most start events first w F bytes run) rests are is in R.cut
