use Rattle.std.proofs.Common.{◌≡◌, ℕ, ◌+◌, ◌-◌, Bool, true, false, length, take, drop, refl, sym, ap, ◌∙◌, arith, length-drop}
use Rattle.std.specs.Prelude.{◌&&◌, nat_le}
use Rattle.tp_area.proofs.Lower.{list_all, take_all, u64_at, MAX_HELD}
use Rattle.tp_area.specs.Ports.{is_zero}
use Rattle.tp_area.proofs.encoding.port.keeps_rules.Goals as goal
use Rattle.tp_area.proofs.encoding.port.keeps_rules.Goals.{then-are_zeros, else-are_zeros}

-- the last rule is left
last_rule : (first second last : Bool) → first ≡ true → second ≡ true → last ≡ (first && (second && last))
last_rule true true last holds too = refl
last_rule true false last holds too = absurd (cc)
last_rule false second last holds too = absurd (cc)

-- the first one is broken
first_rule : (first rest : Bool) → first ≡ false → false ≡ (first && rest)
first_rule true rest broken = absurd (cc)
first_rule false rest broken = refl

-- the second one is
second_rule : (first second last : Bool) → first ≡ true → second ≡ false → false ≡ (first && (second && last))
second_rule true true last holds broken = absurd (cc)
second_rule true false last holds broken = refl
second_rule false second last holds broken = refl

pub returns-then-are_zeros-2 : goal.returns-then-are_zeros-2
returns-then-are_zeros-2 c =
    let xs = c.args.bytes.now in
    let base = c.args.base in
    let shown = c.args.shown in
    let room = λ (n : ℕ). list_all is_zero (take n (drop (20 + c.args.held) xs)) in
    let place = 20 + MAX_HELD + shown in
    let rest = list_all is_zero (drop place xs) in
    let to_the_end = ap (λ bytes. list_all is_zero bytes) (take_all (length xs - place) (drop place xs) (omega (arith, length-drop place xs))) in
    let reached = nat_le (u64_at xs 0) base && nat_le (u64_at xs 8 + shown) base in
    let size : (20 + MAX_HELD) - (20 + c.args.held) ≡ MAX_HELD - c.args.held = omega arith in
    elim c.if-are_zeros.branch [
      | then-are_zeros w ↦
          let is_filled : room (MAX_HELD - c.args.held) ≡ true = sym (c.are_zeros.ensures ∙ ap room size) ∙ w.if-are_zeros.true in
          let is_rest : rest ≡ true = sym (w.are_zeros-then-are_zeros.ensures ∙ to_the_end) ∙ sym w.value-is ∙ c.if-are_zeros-2.true in
          c.are_reached.ensures ∙ ap (λ n. nat_le n base && nat_le (c.u64_at-then-are_zeros-2.result + shown) base) c.u64_at.ensures
          ∙ ap (λ n. nat_le (u64_at xs 0) base && nat_le (n + shown) base) c.u64_at-then-are_zeros-2.ensures
          ∙ last_rule (room (MAX_HELD - c.args.held)) rest reached is_filled is_rest
      | else-are_zeros w ↦ let no = sym c.if-are_zeros-2.true ∙ w.value-is in absurd (cc)
    ]

pub returns-else-are_zeros-2 : goal.returns-else-are_zeros-2
returns-else-are_zeros-2 c =
    let xs = c.args.bytes.now in
    let base = c.args.base in
    let shown = c.args.shown in
    let room = λ (n : ℕ). list_all is_zero (take n (drop (20 + c.args.held) xs)) in
    let place = 20 + MAX_HELD + shown in
    let rest = list_all is_zero (drop place xs) in
    let to_the_end = ap (λ bytes. list_all is_zero bytes) (take_all (length xs - place) (drop place xs) (omega (arith, length-drop place xs))) in
    let reached = nat_le (u64_at xs 0) base && nat_le (u64_at xs 8 + shown) base in
    let size : (20 + MAX_HELD) - (20 + c.args.held) ≡ MAX_HELD - c.args.held = omega arith in
    c.if-are_zeros-2.false
    ∙ elim c.if-are_zeros.branch [
      | then-are_zeros w ↦
          second_rule (room (MAX_HELD - c.args.held)) rest reached (sym (c.are_zeros.ensures ∙ ap room size) ∙ w.if-are_zeros.true)
          (sym (w.are_zeros-then-are_zeros.ensures ∙ to_the_end) ∙ sym w.value-is ∙ c.if-are_zeros-2.false)
      | else-are_zeros w ↦ first_rule (room (MAX_HELD - c.args.held)) (rest && reached) (sym (c.are_zeros.ensures ∙ ap room size) ∙ w.if-are_zeros.false)
    ]
