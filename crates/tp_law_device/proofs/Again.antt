-- A network that has what opening reads has an image.
use Rattle.std.proofs.Common.{◌≡◌, ℕ, suc, ◌+◌, ◌<◌, ◌≤◌, true, false, not, List, [], ◌∷◌, length, refl, sym, ap, subst, ◌∙◌, arith, Option, Some, None, slice_get}
use Rattle.std.specs.Prelude.{nat_lt, ◌&&◌}
use Rattle.tp_law_device.proofs.Lower.{eq-eqb, AllByRecursion, and_from, Token, Data, Ack, Marker, WireEnd, NUMBER_LIMIT, bit, NodeState, t414, t414_ends, IsNode, Network, receiver, is_wired, has_wire, back, on_line, process, pre, datas, acks, end_waits, end_holds, Sound, markers, MarkedNetwork, WholeCut, count_in, all_some, network_in, CutHolds, Topology, is_topology, is_line_of, is_port_of, is_in_one_place, has_record, are_lines, IsCut, HasByte, IsNodeOfBytes, has_four_links, length-pre-post, chosen_keeps, sound_small, cut_network}
use Rattle.tp_law_device.specs.CutSpelt.{CutSpelt}
use Rattle.tp_law_device.proofs.Kept.{CutKeeps, cut_keeps, keeps_after}
use Rattle.tp_law_device.proofs.Ports.{port_of_cut}

-- what is true of each element by its place
all_from : {A : Type 0} (P : A → Type 0) (xs : List A) → ((i : ℕ) (x : A) → slice_get xs i ≡ Some x → P x) → AllByRecursion P xs
all_from P [] each = tt
all_from P (x ∷ xs) each = (each 0 x refl, all_from P xs (λ i y at. each (suc i) y at))

are_nodes : (nodes : List NodeState) → AllByRecursion IsNodeOfBytes nodes → AllByRecursion IsNode nodes
are_nodes [] h = tt
are_nodes (n ∷ ns) h = let first = h.0 in (first.image, are_nodes ns h.1)

-- ## Lines

has_record_of : (ts : List Token) → datas ts ≤ 1 → acks ts ≤ 1 → markers ts ≡ 0 → has_record ts ≡ true
has_record_of [] d a m = refl
has_record_of (Marker ∷ ts) d a m = absurd (omega (arith, m))
has_record_of (Data b ∷ []) d a m = refl
has_record_of (Data b ∷ Data c ∷ ts) d a m = absurd (omega (arith, d))
has_record_of (Data b ∷ Marker ∷ ts) d a m = absurd (omega (arith, m))
has_record_of (Data b ∷ Ack ∷ []) d a m = refl
has_record_of (Data b ∷ Ack ∷ Data c ∷ ts) d a m = absurd (omega (arith, d))
has_record_of (Data b ∷ Ack ∷ Ack ∷ ts) d a m = absurd (omega (arith, a))
has_record_of (Data b ∷ Ack ∷ Marker ∷ ts) d a m = absurd (omega (arith, m))
has_record_of (Ack ∷ []) d a m = refl
has_record_of (Ack ∷ Ack ∷ ts) d a m = absurd (omega (arith, a))
has_record_of (Ack ∷ Marker ∷ ts) d a m = absurd (omega (arith, m))
has_record_of (Ack ∷ Data b ∷ []) d a m = refl
has_record_of (Ack ∷ Data b ∷ Data c ∷ ts) d a m = absurd (omega (arith, d))
has_record_of (Ack ∷ Data b ∷ Ack ∷ ts) d a m = absurd (omega (arith, a))
has_record_of (Ack ∷ Data b ∷ Marker ∷ ts) d a m = absurd (omega (arith, m))

are_lines_from : (wires : List (Option WireEnd)) (lines : List (List Token)) → length lines ≡ length wires
    → ((x : ℕ) → has_record (on_line lines x) ≡ true) → ((x : ℕ) → has_wire wires x ≡ false → on_line lines x ≡ []) → are_lines wires lines ≡ true
are_lines_from [] [] long records empty = refl
are_lines_from [] (line ∷ lines) long records empty = absurd (omega (arith, long))
are_lines_from (wire ∷ wires) [] long records empty = absurd (omega (arith, long))
are_lines_from (wire ∷ wires) (line ∷ lines) long records empty =
    and_from (has_record line) (is_line_of wire line && are_lines wires lines) (records 0)
    (and_from (is_line_of wire line) (are_lines wires lines) (here wire (empty 0))
    (are_lines_from wires lines (omega (arith, long)) (λ x. records (suc x)) (λ x. empty (suc x))))
  where
    here : (found : Option WireEnd) → (is_wired found ≡ false → line ≡ []) → is_line_of found line ≡ true
    here None none = rw (none refl) refl
    here (Some end) none = refl

-- ## Flights

in_one_place : (s : Network NodeState) → Sound t414_ends s → (x : ℕ) → is_in_one_place t414_ends s x (back s x) ≡ true
in_one_place s sound x = go (back s x) refl
  where
    go : (found : Option ℕ) → back s x ≡ found → is_in_one_place t414_ends s x found ≡ true
    go None b = ap not (sound.none x b).1
    go (Some y) b = eq-eqb (bit (end_waits t414_ends s x)) (datas (on_line s.lines x) + acks (on_line s.lines y) + bit (end_holds t414_ends s y)) (sound.flight x y b)

-- ## The cut

pub cut_again : (t : Topology) (base : ℕ) (s : Network NodeState) → CutKeeps t base s → base < NUMBER_LIMIT → IsCut t414_ends t base s
cut_again t base s K few = record {
  wires = K.wires;
  nodes = are_nodes s.nodes K.nodes;
  pages = K.pages;
  lines = are_lines_from t.wires s.lines (K.lines ∙ ap length K.wires)
      (λ x. let small = sound_small K.sound x in has_record_of (on_line s.lines x) small.0 small.1 (K.unmarked x))
      (λ x shut. empty x (ap (λ wires. has_wire wires x) K.wires ∙ shut));
  count = K.count;
  ports = all_from (λ port. is_port_of base port ≡ true) s.ports (λ i port at. port_of_cut base port (K.ports i port at));
  flights = λ line low. in_one_place s K.sound line;
  base_fits = few;
}
  where
    empty : (x : ℕ) → has_wire s.wires x ≡ false → on_line s.lines x ≡ []
    empty x shut = (K.sound.none x (unwired_none x shut)).0
      where
        unwired_none : (x : ℕ) → has_wire s.wires x ≡ false → back s x ≡ None
        unwired_none x shut = go (receiver s.wires x) refl shut
          where
            go : (found : Option WireEnd) → receiver s.wires x ≡ found → is_wired found ≡ false → back s x ≡ None
            go None is none = rw is refl
            go (Some end) is none = absurd (let both = none in cc)

pub cut_spelt : (t : Topology) (base : ℕ) (w : MarkedNetwork NodeState) (cut : WholeCut) (nodes : List NodeState) → is_topology t ≡ true → CutSpelt t base w.start
    → AllByRecursion HasByte w.entries → CutHolds t414 w cut → all_some w.frozen ≡ Some nodes → base + length w.entries < NUMBER_LIMIT
    → CutSpelt t (base + cut.size) (network_in w.start cut nodes)
cut_spelt t base w cut nodes topology C low H images few =
    let of = process w.start.wires (length w.start.nodes) in
    let es = pre of (count_in cut) w.entries in
    let K = keeps_after t base w.start es H.consistent.state (cut_keeps t base w.start topology C.cut C.bytes)
    (chosen_keeps HasByte of (λ p n. nat_lt n (count_in cut p)) (λ p. 0) w.entries low) H.consistent.is in
    let size : base + length es ≡ base + cut.size = ap (λ n. base + n) (sym H.size) in
    let L : CutKeeps t (base + cut.size) (network_in w.start cut nodes) =
    subst (CutKeeps t (base + cut.size)) (sym (cut_network t414 has_four_links w cut nodes H images)) (subst (λ n. CutKeeps t n H.consistent.state) size K) in
    record {
      cut = cut_again t (base + cut.size) (network_in w.start cut nodes) L (omega (arith, few, H.size, length-pre-post of (count_in cut) w.entries));
      bytes = L.nodes;
    }
