-- A network in which each flight is in one place is sound; what is seen of the ends that send its lines.
use Rattle.std.proofs.Common.{◌≡◌, ℕ, zero, suc, ◌+◌, ◌-◌, ◌*◌, ◌/◌, ◌%◌, ◌<◌, ◌≤◌, true, false, inl, inr, [], length, refl, sym, ap, ◌∙◌, arith, Some, None, slice_get, eqb-true}
use Rattle.std.specs.Prelude.{Ok, ◌==◌}
use Rattle.tp_law_network.proofs.Lower.{option_map, not-true, cases_lt, true≢false, lt-ltb, le-ltb, get_or_past, Damaged, LINE_BYTES, bit, Network, OfNode, OfHost, own, is_wired, has_wire, back, on_line, EndsSeen, datas, acks, owner, waits_at, holds_at, end_waits, end_holds, is_pending, Wired, Sound, is_in_one_place, flights_in, or_fault}
use Rattle.tp_law_network.proofs.Local.{own-node, own-host}
use Rattle.tp_law_network.proofs.Sound.{wired-back, unwired-back}

-- the process that sends a line: by its place
own-link : {Node : Type 0} (s : Network Node) (line : ℕ) (node : Node) → line < 4 * length s.nodes → slice_get s.nodes (line / 4) ≡ Some node → own s (owner (length s.nodes) line) ≡ Some (OfNode node)
own-link s line node h at =
    let of_link : owner (length s.nodes) line ≡ line / 4 = rw (lt-ltb line (4 * length s.nodes) h) refl in
    ap (own s) of_link ∙ own-node s (line / 4) (λ same. omega (arith, same, h)) ∙ ap (option_map OfNode) at

own-port : {Node : Type 0} (s : Network Node) (line : ℕ) → 4 * length s.nodes ≤ line → own s (owner (length s.nodes) line) ≡ Some (OfHost s.ports)
own-port s line h =
    let of_port : owner (length s.nodes) line ≡ length s.nodes = rw (le-ltb line (4 * length s.nodes) h) refl in
    ap (own s) of_port ∙ own-host s

pub end_waits-link : {Node : Type 0} (E : EndsSeen Node) (s : Network Node) (line : ℕ) (node : Node) → line < 4 * length s.nodes → slice_get s.nodes (line / 4) ≡ Some node → end_waits E s line ≡ E.waits node (line % 4)
end_waits-link E s line node h at = ap (λ o. waits_at E (length s.nodes) o line) (own-link s line node h at)

pub end_waits-port : {Node : Type 0} (E : EndsSeen Node) (s : Network Node) (line : ℕ) → 4 * length s.nodes ≤ line → end_waits E s line ≡ is_pending (slice_get s.ports (line - 4 * length s.nodes))
end_waits-port E s line h = ap (λ o. waits_at E (length s.nodes) o line) (own-port s line h)

pub end_holds-link : {Node : Type 0} (E : EndsSeen Node) (s : Network Node) (line : ℕ) (node : Node) → line < 4 * length s.nodes → slice_get s.nodes (line / 4) ≡ Some node → end_holds E s line ≡ E.holds node (line % 4)
end_holds-link E s line node h at = ap (λ o. holds_at E o line) (own-link s line node h at)

pub end_holds-port : {Node : Type 0} (E : EndsSeen Node) (s : Network Node) (line : ℕ) → 4 * length s.nodes ≤ line → end_holds E s line ≡ false
end_holds-port E s line h = ap (λ o. holds_at E o line) (own-port s line h)

-- ## Flights

-- the test was passed by each of `count` lines
pub flights_found : {Node : Type 0} (E : EndsSeen Node) (s : Network Node) (at line count : ℕ) → flights_in E s at line count ≡ Ok tt
    → (k : ℕ) → line ≤ k → k < line + count → is_in_one_place E s k (back s k) ≡ true
unfolding flights_in
flights_found E s at line zero is k low high = absurd (omega arith)
flights_found E s at line (suc count) is k low high =
    let first = or_fault (is_in_one_place E s line (back s line)) (flights_in E s (at + LINE_BYTES) (line + 1) count) (Damaged at) tt is in
    elim (cases_lt line k) [
      | inl above ↦ flights_found E s (at + LINE_BYTES) (line + 1) count first.1 k (omega arith) (omega arith)
      | inr here ↦ let same : k ≡ line = omega arith in ap (λ j. is_in_one_place E s j (back s j)) same ∙ first.0
    ]

wire_below : {Node : Type 0} (s : Network Node) (x : ℕ) → has_wire s.wires x ≡ true → x < length s.wires
wire_below s x wired = elim (cases_lt x (length s.wires)) [
  | inl below ↦ below
  | inr past ↦ absurd (true≢false (sym wired ∙ ap is_wired (get_or_past s.wires x None past)))
]

pub sound_in_place : {Node : Type 0} (E : EndsSeen Node) (s : Network Node) → Wired s → length s.wires ≡ length s.lines → length s.lines ≡ 4 * length s.nodes + length s.ports
    → ((x : ℕ) → has_wire s.wires x ≡ false → on_line s.lines x ≡ []) → ((x : ℕ) → x < length s.wires → is_in_one_place E s x (back s x) ≡ true) → Sound E s
sound_in_place E s wired as_long shaped empty placed = record {
  wires = wired;
  there = λ x w. omega (arith, wire_below s x w, as_long);
  flight = λ x y b.
      let here : is_in_one_place E s x (back s x) ≡ true = placed x (wire_below s x (wired-back s x y b)) in
      let is : (bit (end_waits E s x) == datas (on_line s.lines x) + acks (on_line s.lines y) + bit (end_holds E s y)) ≡ true = ap (is_in_one_place E s x) (sym b) ∙ here in
      eqb-true (bit (end_waits E s x)) (datas (on_line s.lines x) + acks (on_line s.lines y) + bit (end_holds E s y)) is;
  none = λ x b. (empty x (unwired-back s x b), held x b);
}
  where
    held : (x : ℕ) → back s x ≡ None → end_holds E s x ≡ false
    held x b = elim (cases_lt x (length s.wires)) [
      | inl below ↦ not-true (end_holds E s x) (ap (is_in_one_place E s x) (sym b) ∙ placed x below)
      | inr past ↦ end_holds-port E s x (omega (arith, past, as_long, shaped))
    ]
