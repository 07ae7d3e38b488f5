-- Outputs confirmed, journalled.
use Rattle.std.proofs.Common.{◌≡◌, ℕ, ◌+◌, ◌-◌, ◌<◌, ◌≤◌, cond, List, [], ◌∷◌, ◌++◌, length, map, set, drop, refl, sym, ap, subst, ◌∙◌, arith, Some, slice_get, length-set}
use Rattle.std.specs.Prelude.{Vec, vec_len, vec_capacity, nat_lt, nat_le, ◌&&◌}
use Rattle.tp_book.proofs.Lower.{option_map, Global, lt-leb, map-set, length-drop, slice_get-map, get_or_from_slice_get, Entry, Token, Confirm, NUMBER_LIMIT, NodeState, Port, OfHost, put, has_wire, taken, sent, process, takes, confirmed, does, BookState, without, with_half, cond_some, slice_get_within}
use Rattle.tp_book.specs.declared.ports.port.HostPort.{HostPort}
use Rattle.tp_book.specs.declared.journal.Journal.TheInside.{Inside}
use Rattle.tp_book.specs.Kept.{BookKeeps}
use Rattle.tp_book.specs.Counted.{IsCounted, AreCounted}
use Rattle.tp_book.specs.Ports.{PortValue}
use Rattle.tp_book.specs.Ports.{fresh_value}
use Rattle.tp_book.specs.Book.{agreed, next_in_book}
use Rattle.tp_book.specs.Inside.{state_inside, value_of, one_in_hand, IsJournal}
use Rattle.tp_book.specs.Calls.{marks_of}
use Rattle.tp_book.specs.Bare.{without_trace}
use Rattle.tp_book.specs.Host.{port_in, confirmed_port, with_confirmed, after_confirm}
use Rattle.tp_book.proofs.Commit.{Change, agreed_after}
use Rattle.tp_book.proofs.Changes.{own_host_agreed}
use Rattle.tp_book.proofs.Owns.{of_port-is}
use Rattle.tp_book.proofs.Journalled.{state_after, numbers_after, fields_after}
use Rattle.tp_book.proofs.Counted.{counted_set}
use Rattle.tp_book.specs.Kept.{AreRising}
use Rattle.tp_book.proofs.Formed.{confirm_of}
use Rattle.tp_book.proofs.Ranged.{confirm_in_range}
use Rattle.tp_book.proofs.Rising.{rising_to, rising_drop, rising_set}

-- what confirming leaves of a port
confirmed_is : (upto : ℕ) (port after : Port) → confirmed upto port ≡ Some (after, []) → after ≡ confirmed_port port upto
confirmed_is upto port after e =
    let C = cond_some (nat_lt port.out_base upto && nat_le upto (port.out_base + length port.outputs)) (Some (confirmed_port port upto, [])) (after, []) e in
    let both : ◌≡◌ {A = Port × List Token} (confirmed_port port upto, []) (after, []) = cc in
    sym (ap (λ r. r.0) both)

-- a port lets confirmed outputs go
pub confirm_change : (b : BookState NodeState) → BookKeeps b → (p upto : ℕ) (port after : Port) → slice_get b.ports p ≡ Some port → confirmed upto port ≡ Some (after, [])
    → Change b (Confirm p upto) (set b.ports p after) (agreed b) []
unfolding taken takes process does put
confirm_change b K p upto port after at did = record {
  out = b.lines;
  takes_out = refl;
  was = OfHost b.ports;
  own_was = own_host_agreed b K;
  now = OfHost (set b.ports p after);
  change = of_port-is (length b.start.nodes) p b.ports port (after, []) (confirmed upto) at did;
  makes = refl;
}

-- a port that is there, as contracts name it
pub port_found : (b : Inside) (p : ℕ) (was : PortValue) → slice_get b.ports.items p ≡ Some was → port_in (value_of b) p ≡ was.port
port_found b p was at = get_or_from_slice_get (state_inside b).ports p was.port fresh_value.port (slice_get-map (λ q. q.port) b.ports.items p ∙ ap (option_map (λ q. q.port)) at)

module _ (b : Inside) (B : IsJournal b) (p upto : ℕ) (was after : PortValue) (at : slice_get b.ports.items p ≡ Some was) (did : confirmed upto was.port ≡ Some (after.port, []))
    (marks : after.marks ≡ drop (upto - was.port.out_base) was.marks) (past : was.port.out_base < upto) (held : upto ≤ was.port.out_base + length was.port.outputs)
    (ports : Vec HostPort Global) (put_in : ports.items ≡ set b.ports.items p after)
    (entries : Vec (Entry × ℕ) Global) (items : entries.items ≡ b.entries.items ++ (Confirm p upto, b.base + vec_len b.entries) ∷ []) where
  abbrev fields : Inside
  fields = record b { ports = ports; entries = entries }

  port_there : slice_get (state_inside b).ports p ≡ Some was.port
  port_there = slice_get-map (λ q. q.port) b.ports.items p ∙ ap (option_map (λ q. q.port)) at

  these_ports : map (λ q. q.port) ports.items ≡ set (state_inside b).ports p after.port
  these_ports = ap (map (λ q. q.port)) put_in ∙ map-set (λ q. q.port) b.ports.items p after

  made : Change (state_inside b) (Confirm p upto) (map (λ q. q.port) ports.items) (agreed (state_inside b)) []
  made = subst (λ given. Change (state_inside b) (Confirm p upto) given (agreed (state_inside b)) []) (sym these_ports) (confirm_change (state_inside b) B.keeps p upto was.port after.port port_there did)

  on : b.lines ≡ sent (has_wire b.wires.items) (without b.lines (takes (state_inside b).start.wires (length (state_inside b).start.nodes) (Confirm p upto))) []
  unfolding takes without sent
  on = refl

  pub confirm_agreed : agreed (state_inside fields) ≡ agreed (state_inside b)
  confirm_agreed = ap agreed (state_after b B (Confirm p upto) ports _ [] made entries b.lines items on)
      ∙ agreed_after (state_inside b) B.keeps (Confirm p upto) (map (λ q. q.port) ports.items) (agreed (state_inside b)) [] made

  counts : IsCounted (b.base + vec_len b.entries + 1) after.port
  counts =
      let old = B.counted p was.port port_there in
      subst (IsCounted (b.base + vec_len b.entries + 1)) (sym (confirmed_is upto was.port after.port did))
      (record { inputs = omega (arith, old.inputs); outputs = omega (arith, old.outputs, length-drop (upto - was.port.out_base) was.port.outputs) })

  pub confirm_fields : vec_len entries ≡ vec_len b.entries + 1 → vec_len entries + b.reserved + one_in_hand b.ready ≤ vec_capacity entries → b.base + vec_len entries + b.reserved + one_in_hand b.ready < NUMBER_LIMIT
      → IsJournal fields
  confirm_fields len space numbers =
      fields_after b B (Confirm p upto) ports _ [] made entries b.lines items on b.runs b.reserved b.ready len refl (ap length put_in ∙ length-set b.ports.items p after) B.reserved space numbers
      (subst (AreCounted (b.base + vec_len entries)) (sym these_ports)
      (subst (λ n. AreCounted n (set (state_inside b).ports p after.port)) (omega (arith, len))
      (counted_set (b.base + vec_len b.entries) (b.base + vec_len b.entries + 1) (state_inside b).ports p after.port B.counted counts (omega arith))))
      (subst (AreRising (b.base + vec_len entries)) (sym (ap (map (λ q. q.marks)) put_in ∙ map-set (λ q. q.marks) b.ports.items p after ∙ ap (set (map (λ q. q.marks) b.ports.items) p) marks))
      (rising_set (b.base + vec_len b.entries) (b.base + vec_len entries) (map (λ q. q.marks) b.ports.items) p _ B.rising
      (rising_drop (upto - was.port.out_base) 0 (b.base + vec_len entries) was.marks
      (rising_to 0 (b.base + vec_len b.entries) (b.base + vec_len entries) was.marks (B.rising p was.marks (slice_get-map (λ q. q.marks) b.ports.items p ∙ ap (option_map (λ q. q.marks)) at)) (omega (arith, len)))) (omega (arith, len))))
      (confirm_in_range p upto (omega (arith, slice_get_within (state_inside b).ports p was.port port_there, B.shaped.few_ports)) (omega (arith, held, (B.counted p was.port port_there).outputs, B.numbers)))
      (confirm_of b.form p upto)

  pub confirm_value : value_of fields ≡ without_trace (after_confirm (value_of b) p upto)
  confirm_value =
      let found : port_in (value_of b) p ≡ was.port = port_found b p was at in
      let old : marks_of (value_of b) p ≡ was.marks =
      get_or_from_slice_get (map (λ q. q.marks) b.ports.items) p was.marks [] (slice_get-map (λ q. q.marks) b.ports.items p ∙ ap (option_map (λ q. q.marks)) at) in
      let marks_are : map (λ q. q.marks) ports.items ≡ set (value_of b).marks p (drop (upto - was.port.out_base) (marks_of (value_of b) p)) =
      ap (map (λ q. q.marks)) put_in ∙ map-set (λ q. q.marks) b.ports.items p after ∙ ap (set (value_of b).marks p) (marks ∙ ap (drop (upto - was.port.out_base)) (sym old)) in
      ap (λ given. record (value_of fields) { state = given }) (state_after b B (Confirm p upto) ports _ [] made entries b.lines items on)
      ∙ ap (λ given. record (value_of fields) { state = with_half (state_inside b) (Confirm p upto) (map (λ q. q.port) ports.items) []; numbers = given }) (numbers_after b B (Confirm p upto) ports _ [] made entries b.lines items on)
      ∙ ap (λ given. record (value_of b) { state = with_half (state_inside b) (Confirm p upto) given []; numbers = map (λ (e : Entry × ℕ). e.1) b.entries.items ++ next_in_book (value_of b) ∷ []; marks = map (λ q. q.marks) ports.items })
      (these_ports ∙ ap (set (state_inside b).ports p) (confirmed_is upto was.port after.port did))
      ∙ ap (λ given. record (value_of b) { state = with_half (state_inside b) (Confirm p upto) (set (state_inside b).ports p (confirmed_port was.port upto)) []; numbers = map (λ (e : Entry × ℕ). e.1) b.entries.items ++ next_in_book (value_of b) ∷ []; marks = given }) marks_are
      ∙ ap (λ port. record (value_of b) { state = with_half (state_inside b) (Confirm p upto) (set (state_inside b).ports p (confirmed_port port upto)) []; numbers = map (λ (e : Entry × ℕ). e.1) b.entries.items ++ next_in_book (value_of b) ∷ []; marks = set (value_of b).marks p (drop (upto - port.out_base) (marks_of (value_of b) p)) }) (sym found)
      ∙ sym (ap (λ test. without_trace (cond test (value_of b) (with_confirmed (value_of b) p upto))) (lt-leb upto (port_in (value_of b) p).out_base (subst (λ port. port.out_base < upto) (sym found) past)))
