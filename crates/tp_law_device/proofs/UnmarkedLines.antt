-- Lines that have a record have no Marker, and there are as many as wires.
use Rattle.std.proofs.Common.{◌≡◌, ℕ, zero, suc, List, [], ◌∷◌, length, refl, sym, ap, arith, true, false, Option, Some, None}
use Rattle.std.specs.Prelude.{map, ◌&&◌}
use Rattle.tp_law_device.proofs.Lower.{and_parts, eqb-true, false≢true, Token, Data, Ack, Marker, WireEnd, on_line, has_wire, markers, plain, is_line_of, has_record, are_lines, plain_unmarked}

-- ## A line

record_unmarked : (tokens : List Token) → has_record tokens ≡ true → markers tokens ≡ 0
record_unmarked [] h = refl
record_unmarked (Data byte ∷ []) h = refl
record_unmarked (Ack ∷ []) h = refl
record_unmarked (Marker ∷ []) h = absurd (false≢true h)
record_unmarked (Data byte ∷ Ack ∷ []) h = refl
record_unmarked (Ack ∷ Data byte ∷ []) h = refl
record_unmarked (Data byte ∷ Data other ∷ more) h = absurd (false≢true h)
record_unmarked (Data byte ∷ Marker ∷ more) h = absurd (false≢true h)
record_unmarked (Data byte ∷ Ack ∷ x ∷ more) h = absurd (false≢true h)
record_unmarked (Ack ∷ Ack ∷ more) h = absurd (false≢true h)
record_unmarked (Ack ∷ Marker ∷ more) h = absurd (false≢true h)
record_unmarked (Ack ∷ Data byte ∷ x ∷ more) h = absurd (false≢true h)
record_unmarked (Marker ∷ x ∷ more) h = absurd (false≢true h)

no_tokens : (tokens : List Token) → is_line_of None tokens ≡ true → tokens ≡ []
no_tokens [] h = refl
no_tokens (t ∷ ts) h = let empty = eqb-true (length (t ∷ ts)) 0 h in absurd (omega (arith, empty))

-- ## All lines

pub line_of_each : (wires : List (Option WireEnd)) (lines : List (List Token)) → are_lines wires lines ≡ true → length lines ≡ length wires
line_of_each [] [] h = refl
line_of_each [] (line ∷ lines) h = absurd (false≢true h)
line_of_each (wire ∷ wires) [] h = absurd (false≢true h)
line_of_each (wire ∷ wires) (line ∷ lines) h =
    let first = and_parts (has_record line) (is_line_of wire line && are_lines wires lines) h in
    let rest = and_parts (is_line_of wire line) (are_lines wires lines) first.1 in
    ap suc (line_of_each wires lines rest.1)

pub lines_unmarked : (wires : List (Option WireEnd)) (lines : List (List Token)) → are_lines wires lines ≡ true → (line : ℕ) → markers (on_line lines line) ≡ 0
lines_unmarked wires [] h k = refl
lines_unmarked [] (line ∷ lines) h k = absurd (false≢true h)
lines_unmarked (wire ∷ wires) (line ∷ lines) h zero =
    let first = and_parts (has_record line) (is_line_of wire line && are_lines wires lines) h in
    record_unmarked line first.0
lines_unmarked (wire ∷ wires) (line ∷ lines) h (suc k) =
    let first = and_parts (has_record line) (is_line_of wire line && are_lines wires lines) h in
    let rest = and_parts (is_line_of wire line) (are_lines wires lines) first.1 in
    lines_unmarked wires lines rest.1 k

-- a line without a wire is empty
pub unwired_empty : (wires : List (Option WireEnd)) (lines : List (List Token)) → are_lines wires lines ≡ true → (line : ℕ) → has_wire wires line ≡ false → on_line lines line ≡ []
unwired_empty wires [] h k none = refl
unwired_empty [] (line ∷ lines) h k none = absurd (false≢true h)
unwired_empty (None ∷ wires) (line ∷ lines) h zero none =
    let first = and_parts (has_record line) (is_line_of None line && are_lines wires lines) h in
    no_tokens line (and_parts (is_line_of None line) (are_lines wires lines) first.1).0
unwired_empty (Some end ∷ wires) (line ∷ lines) h zero none = absurd (false≢true (sym none))
unwired_empty (wire ∷ wires) (line ∷ lines) h (suc k) none =
    let first = and_parts (has_record line) (is_line_of wire line && are_lines wires lines) h in
    let rest = and_parts (is_line_of wire line) (are_lines wires lines) first.1 in
    unwired_empty wires lines rest.1 k none

-- lines without Markers are as they are with Markers left out
pub plain_lines : (lines : List (List Token)) → ((line : ℕ) → markers (on_line lines line) ≡ 0) → map plain lines ≡ lines
plain_lines [] none = refl
plain_lines (line ∷ lines) none =
    let front = plain_unmarked line (none 0) in
    let rest = plain_lines lines (λ k. none (suc k)) in
    λ i. front i ∷ rest i
