use Rattle.std.proofs.Common.{◌≡◌, ◌∙◌, ◌+◌, ◌*◌, ◌-◌, ℕ, suc, true, false, sym, arith, ap, length, cond, Ok, Err}
use Rattle.tp_recover.proofs.Lower.{LINE_BYTES, Damaged, NodeState, Network, back, EndsSeen, t414_ends, is_in_one_place, flights_in}
use Rattle.tp_recover.specs.Parts.{network_of_parts}
use Rattle.tp_recover.proofs.area.flights.flights.Goals as goal

flights_in-next : (E : EndsSeen NodeState) (s : Network NodeState) (at line count : ℕ) → is_in_one_place E s line (back s line) ≡ true → flights_in E s at line (suc count) ≡ flights_in E s (at + LINE_BYTES) (line + 1) count
unfolding flights_in
flights_in-next E s at line count h = ap (λ b. cond b (flights_in E s (at + LINE_BYTES) (line + 1) count) (Err (Damaged at))) h

flights_in-fault : (E : EndsSeen NodeState) (s : Network NodeState) (at line count : ℕ) → is_in_one_place E s line (back s line) ≡ false → flights_in E s at line (suc count) ≡ Err (Damaged at)
unfolding flights_in
flights_in-fault E s at line count h = ap (λ b. cond b (flights_in E s (at + LINE_BYTES) (line + 1) count) (Err (Damaged at))) h

flights_in-done : (E : EndsSeen NodeState) (s : Network NodeState) (at line count : ℕ) → count ≡ 0 → flights_in E s at line count ≡ Ok tt
unfolding flights_in
flights_in-done E s at line count h = ap (flights_in E s at line) h

-- what is left of the lines is this one and those after it
left : (E : EndsSeen NodeState) (s : Network NodeState) (at line many : ℕ) (rest : ℕ) → many ≡ suc rest → flights_in E s at line many ≡ flights_in E s at line (suc rest)
left E s at line many rest h = ap (flights_in E s at line) h

pub returns-then-not-is_in_one_place : goal.returns-then-not-is_in_one_place
returns-then-not-is_in_one_place c =
    let s = network_of_parts c.args.parts in
    let many = length c.args.parts.wires.now in
    let line = c.loop-line.line in
    sym (sym c.loop-line.invariant
    ∙ left t414_ends s (c.args.at + LINE_BYTES * line) line (many - line) (many - line - 1) (omega (arith, c.loop-line-test.true))
    ∙ flights_in-fault t414_ends s (c.args.at + LINE_BYTES * line) line (many - line - 1) (sym c.is_in_one_place.ensures ∙ c.if-not-is_in_one_place.true))

pub loop-line-preserved : goal.loop-line-preserved
loop-line-preserved c =
    let s = network_of_parts c.args.parts in
    let many = length c.args.parts.wires.now in
    let line = c.loop-line.line in
    ap (λ m. flights_in t414_ends s m (line + 1) (many - (line + 1))) (omega arith)
    ∙ ap (flights_in t414_ends s (c.args.at + LINE_BYTES * line + LINE_BYTES) (line + 1)) (omega arith)
    ∙ sym (flights_in-next t414_ends s (c.args.at + LINE_BYTES * line) line (many - line - 1) (sym c.is_in_one_place.ensures ∙ c.if-not-is_in_one_place.false))
    ∙ sym (left t414_ends s (c.args.at + LINE_BYTES * line) line (many - line) (many - line - 1) (omega (arith, c.loop-line-test.true)))
    ∙ c.loop-line.invariant

pub returns : goal.returns
returns c =
    let s = network_of_parts c.args.parts in
    let many = length c.args.parts.wires.now in
    let line = c.loop-line.line in
    sym (sym c.loop-line.invariant ∙ flights_in-done t414_ends s (c.args.at + LINE_BYTES * line) line (many - line) (omega (arith, c.loop-line-test.false)))
