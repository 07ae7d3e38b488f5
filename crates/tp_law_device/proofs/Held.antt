-- What the book of a run holds has an image, at each moment.
use Rattle.std.proofs.Common.{◌≡◌, ℕ, ◌+◌, ◌-◌, true, not, List, [], ◌∷◌, ◌++◌, length, sym, ap, subst, ◌∙◌, arith, length-append, drop, Some, Ok, ◌<◌}
use Rattle.std.specs.Prelude.{map, nat_lt, nat_le, ◌&&◌, ◌==◌}
use Rattle.tp_law_device.proofs.Lower.{AllByRecursion, list_all, and_parts, eqb-true, ltb-true, length-map, map-append, Data, Ack, Marker, Received, Nothing, JustData, JustAck, DataThenAck, AckThenData, Entry, Ran, Take, HostIn, Confirm, Turn, NUMBER_LIMIT, ENTRY_NODES, ENTRY_LINES, MAX_STEPS, MAX_PORTS, NodeState, t414, t414_ends, Network, by_link, process, next, after, post, plain_network, MarkedNetwork, WholeCut, count_in, network_in, Act, Begin, Record, Journal, Close, Trim, IsOpened, is_received, is_in_range, IsSpelt, Held, Topology, is_topology, area_start, content_of, entries_in, IsGroup, DeviceSpells, Opened, held_of, opening, device_areas, World, Event, Acts, Copies, CopiesTail, Does, Breaks, Trims, Raises, ReadsMark, Reopens, grown, HasCut, Step, fresh, IsNodeOfBytes, has_four_links, never_marks, AreBytes, are_bytes-take, are_bytes-drop, all_append, length-pre-post, chosen_keeps, after_last, CutInvariant, whole_holds, start_stays, entries_grow, happens_holds, Inv, TakesByte, HasByte, ActKeeps, IsKept}
use Rattle.tp_law_device.proofs.AreaReads.{area_parts}
use Rattle.tp_law_device.proofs.ReadAreas.{opens_stand}
use Rattle.tp_law_device.proofs.Opens.{reads_of, found_in}
use Rattle.tp_law_device.proofs.ReadNodes.{read_of_bytes}
use Rattle.tp_law_device.specs.CutSpelt.{CutSpelt}
use Rattle.tp_law_device.proofs.Kept.{cut_keeps, keeps_after}
use Rattle.tp_law_device.proofs.Again.{cut_spelt}
use Rattle.tp_law_device.proofs.Ranges.{in_range_next}

-- The kept cut has an image, the entries after it are spelt, and a number is left.
pub record HeldSpelt (h : Held NodeState) : Type 0 where
  pub topology : Topology
  pub is : is_topology topology ≡ true
  pub cut : CutSpelt topology h.base h.network
  pub entries : AllByRecursion (λ e. is_in_range e ≡ true) h.entries
  pub few : h.base + length h.entries < NUMBER_LIMIT

-- what the book of a world holds
abbrev pub held_by : World NodeState → Held NodeState
held_by w = record { network = w.net.start; entries = w.net.entries; base = w.base }

abbrev InRange : Entry → Type 0
InRange e = is_in_range e ≡ true

take_bytes : (takes : List Received) → list_all is_received takes ≡ true → AllByRecursion TakesByte takes
take_bytes [] h = tt
take_bytes (Nothing ∷ takes) h = (tt, take_bytes takes h)
take_bytes (JustData byte ∷ takes) h = let both = and_parts (nat_lt byte 256) (list_all is_received takes) h in (ltb-true byte 256 both.0, take_bytes takes both.1)
take_bytes (JustAck ∷ takes) h = (tt, take_bytes takes h)
take_bytes (DataThenAck byte ∷ takes) h = let both = and_parts (nat_lt byte 256) (list_all is_received takes) h in (ltb-true byte 256 both.0, take_bytes takes both.1)
take_bytes (AckThenData byte ∷ takes) h = let both = and_parts (nat_lt byte 256) (list_all is_received takes) h in (ltb-true byte 256 both.0, take_bytes takes both.1)

-- what an entry that is spelt carries is a byte
pub in_range_byte : (e : Entry) → is_in_range e ≡ true → HasByte e
in_range_byte (Ran node count) h = tt
in_range_byte (Take line (Data byte)) h = ltb-true byte 256 (and_parts (nat_lt line ENTRY_LINES) (nat_lt byte 256) h).1
in_range_byte (Take line Ack) h = tt
in_range_byte (Take line Marker) h = tt
in_range_byte (HostIn port byte) h = ltb-true byte 256 (and_parts (nat_lt port MAX_PORTS) (nat_lt byte 256) h).1
in_range_byte (Confirm port upto) h = tt
in_range_byte (Turn node takes count) h =
    let a = and_parts (nat_lt node ENTRY_NODES && nat_le count MAX_STEPS) _ h in
    let b = and_parts (length takes == 4) (nat_lt 0 (length (by_link 0 takes)) && list_all is_received takes) a.1 in
    let c = and_parts (nat_lt 0 (length (by_link 0 takes))) (list_all is_received takes) b.1 in
    (take_bytes takes c.1, eqb-true (length takes) 4 b.0)

pub each_has_byte : (es : List Entry) → AllByRecursion (λ e. is_in_range e ≡ true) es → AllByRecursion HasByte es
each_has_byte [] h = tt
each_has_byte (e ∷ es) h = (in_range_byte e h.0, each_has_byte es h.1)

-- ## What is read

group_in_range : (group : List (Entry × ℕ)) (more : List Entry) → AllByRecursion (λ (e : Entry × ℕ). IsSpelt e.0 e.1) group → AllByRecursion InRange more
    → AllByRecursion InRange (map (λ (e : Entry × ℕ). e.0) group ++ more)
group_in_range [] more h k = k
group_in_range (e ∷ es) more h k = ((and_parts (is_in_range e.0) (nat_lt e.1 NUMBER_LIMIT) h.0).0, group_in_range es more h.1 k)

groups_in_range : (groups : List (List (Entry × ℕ))) → AllByRecursion IsGroup groups → AllByRecursion InRange (map (λ (e : Entry × ℕ). e.0) (entries_in groups))
groups_in_range [] h = tt
groups_in_range (group ∷ groups) h =
    let is = h.0 in
    subst (AllByRecursion InRange) (sym (map-append (λ (e : Entry × ℕ). e.0) group (entries_in groups)))
    (group_in_range group (map (λ (e : Entry × ℕ). e.0) (entries_in groups)) is.each (groups_in_range groups h.1))

-- the cut of an opened device has an image
pub opened_spelt : (bytes : List ℕ) (o : Opened) → AreBytes bytes → opening t414 t414_ends bytes ≡ Ok o → DeviceSpells t414 t414_ends bytes o → CutSpelt o.head.topology o.base o.cut
opened_spelt bytes o h is S =
    let content = content_of o.head.areas o.second bytes in
    let R = reads_of t414 t414_ends bytes o is in
    let A = area_parts t414 t414_ends o.head o.second content o R.area in
    let cut : A.cut ≡ o.cut = ap (λ (p : Opened). p.cut) A.is in
    let start = area_start o.head.areas o.second + 1 in
    record {
      cut = S.spells.cut;
      bytes = subst (λ (s : Network NodeState). AllByRecursion IsNodeOfBytes s.nodes) cut
          (read_of_bytes t414_ends o.head.topology start content A.cut (are_bytes-take (o.head.areas.length - 1) (drop start bytes) (are_bytes-drop start bytes h)) A.cut_is);
    }

pub held_read : (bytes : List ℕ) (h : Held NodeState) → AreBytes bytes → device_areas.verdict bytes ≡ Some h → HeldSpelt h
held_read bytes h are reads =
    let F = found_in t414 t414_ends bytes h reads in
    let o = F.opened in
    let S = opens_stand t414 t414_ends bytes o are F.is in
    let kept = S.kept in
    let last = S.spells.last in
    let opened : HeldSpelt (held_of o) = record {
      topology = o.head.topology;
      is = S.topology;
      cut = opened_spelt bytes o are F.is S;
      entries = subst (λ (es : List (Entry × ℕ)). AllByRecursion InRange (map (λ (e : Entry × ℕ). e.0) es)) kept (groups_in_range S.groups S.spells.each);
      few = omega (arith, last, ap length kept, length-map o.kept (λ (e : Entry × ℕ). e.0));
    } in
    subst HeldSpelt F.holds opened

-- ## Acts

-- an entry that was journalled is spelt
journalled_range : (w v : MarkedNetwork NodeState) (base : ℕ) (e : Entry) → HeldSpelt (record { network = w.start; entries = w.entries; base = base }) → CutInvariant t414 w → CutInvariant t414 v
    → v.start ≡ w.start → v.entries ≡ w.entries ++ e ∷ [] → HasByte e → is_in_range e ≡ true
journalled_range w v base e G H K start entries byte =
    let was = plain_network w.live in
    let now = plain_network v.live in
    let C = keeps_after G.topology base w.start w.entries was (cut_keeps G.topology base w.start G.is G.cut.cut G.cut.bytes) (each_has_byte w.entries G.entries) H.base.now in
    let whole : after t414 w.start (w.entries ++ e ∷ []) ≡ Some now = (λ i. after t414 (sym start i) (sym entries i)) ∙ K.base.now in
    let step : next t414 was e ≡ Some now = sym (after_last t414 w.start was w.entries e H.base.now) ∙ whole in
    in_range_next G.topology was e now (base + length w.entries) C G.few byte step

act_keeps : (w v : MarkedNetwork NodeState) (base : ℕ) (act : Act) → HeldSpelt (record { network = w.start; entries = w.entries; base = base }) → CutInvariant t414 w → CutInvariant t414 v
    → v.start ≡ w.start → v.entries ≡ grown act w.entries → ActKeeps (base + length w.entries) act → HeldSpelt (record { network = v.start; entries = v.entries; base = base })
act_keeps w v base Begin G H K start entries keeps = subst HeldSpelt (λ i. record { network = sym start i; entries = sym entries i; base = base }) G
act_keeps w v base (Record i) G H K start entries keeps = subst HeldSpelt (λ i. record { network = sym start i; entries = sym entries i; base = base }) G
act_keeps w v base (Close line) G H K start entries keeps = subst HeldSpelt (λ i. record { network = sym start i; entries = sym entries i; base = base }) G
act_keeps w v base Trim G H K start entries keeps = subst HeldSpelt (λ i. record { network = sym start i; entries = sym entries i; base = base }) G
act_keeps w v base (Journal e) G H K start entries keeps =
    let range = journalled_range w v base e G H K start entries keeps.0 in
    let more : HeldSpelt (record { network = w.start; entries = w.entries ++ e ∷ []; base = base }) = record {
      topology = G.topology;
      is = G.is;
      cut = record { cut = G.cut.cut; bytes = G.cut.bytes };
      entries = all_append InRange w.entries (e ∷ []) G.entries (range, tt);
      few = (let low = keeps.1 in omega (arith, low, length-append w.entries (e ∷ [])));
    } in
    subst HeldSpelt (λ i. record { network = sym start i; entries = sym entries i; base = base }) more

-- ## The trim

trim_keeps : (w : MarkedNetwork NodeState) (base : ℕ) (cut : WholeCut) (nodes : List NodeState) → HeldSpelt (record { network = w.start; entries = w.entries; base = base }) → CutInvariant t414 w → HasCut w cut nodes
    → HeldSpelt (record { network = network_in w.start cut nodes; entries = post (process w.start.wires (length w.start.nodes)) (count_in cut) w.entries; base = base + cut.size })
trim_keeps w base cut nodes G H has =
    let C = whole_holds t414 has_four_links w H cut has.is in
    let S = cut_spelt G.topology base w cut nodes G.is G.cut (each_has_byte w.entries G.entries) C has.images G.few in
    record {
      topology = G.topology;
      is = G.is;
      cut = S;
      entries = chosen_keeps InRange (process w.start.wires (length w.start.nodes)) (λ p n. not (nat_lt n (count_in cut p))) (λ p. 0) w.entries G.entries;
      few = omega (arith, G.few, C.size, length-pre-post (process w.start.wires (length w.start.nodes)) (count_in cut) w.entries);
    }

-- ## Each event

pub step_spelt : (most : ℕ) (start : Network NodeState) → IsOpened t414 (fresh start) → (w v : World NodeState) (event : Event NodeState) → Inv t414 device_areas start w → HeldSpelt (held_by w)
    → IsKept most w event → Step t414 device_areas w event v → HeldSpelt (held_by v)
step_spelt most start opened w v (Acts act) I G keeps s =
    let K = happens_holds t414 has_four_links never_marks w.net s.1 act I.net s.2 in
    subst (λ u. HeldSpelt (held_by u)) (sym s.3)
    (act_keeps w.net s.1 w.base act G I.net K (start_stays t414 w.net s.1 act s.0 s.2) (entries_grow t414 w.net s.1 act s.0 s.2) keeps.0)
step_spelt most start opened w v Copies I G keeps s = subst (λ u. HeldSpelt (held_by u)) (sym s.1) G
step_spelt most start opened w v (CopiesTail cut nodes) I G keeps s = subst (λ u. HeldSpelt (held_by u)) (sym s.2) G
step_spelt most start opened w v (Does call to) I G keeps s = subst (λ u. HeldSpelt (held_by u)) (sym s.1) G
step_spelt most start opened w v (Breaks call to bytes) I G keeps s = subst (λ u. HeldSpelt (held_by u)) (sym s.2) G
step_spelt most start opened w v (Trims copy upto cut nodes) I G keeps s = subst (λ u. HeldSpelt (held_by u)) (sym s.2) (trim_keeps w.net w.base cut nodes G I.net s.1)
step_spelt most start opened w v Raises I G keeps s = subst (λ u. HeldSpelt (held_by u)) (sym s) G
step_spelt most start opened w v ReadsMark I G keeps s = subst (λ u. HeldSpelt (held_by u)) (sym s) G
step_spelt most start opened w v (Reopens bytes h now) I G keeps s = let L = s.0 in subst (λ u. HeldSpelt (held_by u)) (sym s.1) (held_read bytes h keeps L.reads)
