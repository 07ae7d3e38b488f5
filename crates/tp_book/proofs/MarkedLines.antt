-- A journal's fields, if Markers are sent or taken.
use Rattle.std.proofs.Common.{◌≡◌, ℕ, ◌≤◌, true, List, length, map, set, drop, sym, ap, subst, ◌∙◌, arith, length-set}
use Rattle.tp_book.proofs.Lower.{length-map, Token, Marker, has_wire, is_first, on_line, sent, markers, plain, unmarked, length_sent, AreMarkers, sent_markers, taken_marker, marker_gone, unmarked_all}
use Rattle.tp_book.specs.Room.{HasRoom}
use Rattle.tp_book.proofs.Sending.{room_before}
use Rattle.tp_book.specs.declared.journal.Journal.TheInside.{Inside}
use Rattle.tp_book.specs.Inside.{state_inside, IsJournal}
use Rattle.tp_book.proofs.Commit.{line_small}
use Rattle.tp_book.proofs.Remarked.{remarked}

module _ (b : Inside) (B : IsJournal b) where
  pub other_lines : (lines : List (List Token)) → map plain lines ≡ map plain b.lines → ((line : ℕ) → markers (on_line lines line) ≤ 1) → length lines ≡ length b.lines → IsJournal (record b { lines = lines })
  other_lines lines same few len = record {
    keeps = remarked (state_inside b) B.keeps lines same few;
    shaped = record { count = B.shaped.count; wires = B.shaped.wires; lines = len ∙ B.shaped.lines; few_nodes = B.shaped.few_nodes; few_ports = B.shaped.few_ports };
    wires = B.wires;
    reserved = B.reserved;
    space = B.space;
    numbers = B.numbers;
    counted = B.counted;
    numbered = B.numbered;
    ranged = B.ranged;
    of_form = B.of_form;
    rising = B.rising;
  }

  module _ (ms : List (ℕ × Token)) (all : AreMarkers ms) (few : (line : ℕ) → markers (on_line (sent (has_wire b.start.network.wires) b.lines ms) line) ≤ 1) where
    same : map plain (sent (has_wire b.start.network.wires) b.lines ms) ≡ map plain b.lines
    same = sent_markers (has_wire b.start.network.wires) b.lines ms all

    pub markers_room : HasRoom (has_wire b.wires.items) b.lines ms
    markers_room = subst (λ wires. HasRoom (has_wire wires) b.lines ms) (sym B.wires)
        (room_before (has_wire b.start.network.wires) b.lines ms (λ l y. omega (arith, length-map b.lines plain, B.keeps.sound.there l y))
        (line_small (record (state_inside b) { lines = sent (has_wire b.start.network.wires) b.lines ms }) (remarked (state_inside b) B.keeps (sent (has_wire b.start.network.wires) b.lines ms) same few)))

    pub markers_fields : (lines : List (List Token)) → lines ≡ sent (has_wire b.wires.items) b.lines ms → IsJournal (record b { lines = lines })
    markers_fields lines is =
        let on = is ∙ ap (λ wires. sent (has_wire wires) b.lines ms) B.wires in
        subst (λ given. IsJournal (record b { lines = given })) (sym on)
        (other_lines (sent (has_wire b.start.network.wires) b.lines ms) same few (length_sent (has_wire b.start.network.wires) b.lines ms))

  pub unmarked_fields : (line : ℕ) → ((l : ℕ) → markers (on_line (set b.lines line (unmarked (on_line b.lines line))) l) ≤ 1)
      → IsJournal (record b { lines = set b.lines line (unmarked (on_line b.lines line)) })
  unmarked_fields line few = other_lines _ (marker_gone b.lines line) few (length-set b.lines line (unmarked (on_line b.lines line)))

  -- without a second Marker, what is taken out is all Markers
  pub unmarked_lines : (line : ℕ) → set b.lines line (plain (on_line b.lines line)) ≡ set b.lines line (unmarked (on_line b.lines line))
  unmarked_lines line = ap (set b.lines line) (unmarked_all (on_line b.lines line) (B.keeps.marked line))

  pub taken_fields : (line : ℕ) → is_first (on_line b.lines line) Marker ≡ true → ((l : ℕ) → markers (on_line (set b.lines line (drop 1 (on_line b.lines line))) l) ≤ 1)
      → IsJournal (record b { lines = set b.lines line (drop 1 (on_line b.lines line)) })
  taken_fields line front few = other_lines _ (taken_marker b.lines line front) few (length-set b.lines line (drop 1 (on_line b.lines line)))
