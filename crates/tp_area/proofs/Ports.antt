-- Records of ports.
use Rattle.std.proofs.Common.{◌≡◌, ℕ, ◌+◌, ◌-◌, ◌<◌, ◌≤◌, List, ◌++◌, length, take, drop, get_or, refl, sym, ap, ◌∙◌, arith, append_assoc, true, false, cond, inl, inr, Fits, w8, ◌⊎◌, Some, None, length-take, length-drop}
use Rattle.std.specs.Prelude.{◌&&◌, nat_le, bytes_eq}
use Rattle.tp_area.proofs.Lower.{list_all, and_parts, leb-true, le-leb, cases_Bool, cases_lt, le_bytes_2, le_bytes_8, length-take-le, take-take, take_all, length-replicate, get_or-take, get_or-drop, get_or_past, bytes_eq-Decides, MAX_HELD, PORT_BYTES, u16_bytes, u64_bytes, u16_at, u64_at, zeros, padded, is_port_of, port_at, port_bytes, port_with, pending_count, outputs_count, Port}
use Rattle.tp_area.specs.Ports.{is_port_at, is_zero, keeps_rules}
use Rattle.tp_area.proofs.Parts.{u16_at-take, u64_at-take, part_of_part}
use Rattle.tp_area.proofs.SameBytes.{and_assoc, piece_same, piece_compared, all_zeros}

-- the bytes are bytes
pub record AreBytes (bytes : List ℕ) : Type 0 where
  pub each : (i : ℕ) → Fits w8 (get_or bytes i 0)

-- a record says no more than a port may hold
pub said_few : (base : ℕ) (bytes : List ℕ) → is_port_at base bytes ≡ true → (u16_at bytes 16 ≤ MAX_HELD) × (u16_at bytes 18 ≤ MAX_HELD)
said_few base bytes h =
    let port = port_at bytes in
    let both = and_parts (bytes_eq (take PORT_BYTES bytes) (port_bytes port)) (is_port_of base port) h in
    let same : take PORT_BYTES bytes ≡ port_bytes port = (bytes_eq-Decides (take PORT_BYTES bytes) (port_bytes port)).0 both.0 in
    let rules = and_parts (nat_le (length port.pending) MAX_HELD && nat_le (length port.outputs) MAX_HELD) (nat_le port.in_base base && nat_le (port.out_base + length port.outputs) base) both.1 in
    let few = and_parts (nat_le (length port.pending) MAX_HELD) (nat_le (length port.outputs) MAX_HELD) rules.0 in
    let held : length port.pending ≤ MAX_HELD = leb-true (length port.pending) MAX_HELD few.0 in
    let shown : length port.outputs ≤ MAX_HELD = leb-true (length port.outputs) MAX_HELD few.1 in
    let held_is : u16_at bytes 16 ≡ length port.pending = sym (u16_at-take PORT_BYTES 16 bytes (omega arith)) ∙ ap (λ xs. u16_at xs 16) same ∙ pending_count port (omega arith) in
    let shown_is : u16_at bytes 18 ≡ length port.outputs = sym (u16_at-take PORT_BYTES 18 bytes (omega arith)) ∙ ap (λ xs. u16_at xs 18) same ∙ outputs_count port (omega arith) in
    (omega arith, omega arith)

-- so if it says more, it is no port's
pub said_many : (base : ℕ) (bytes : List ℕ) → (MAX_HELD < u16_at bytes 16) ⊎ (MAX_HELD < u16_at bytes 18) → false ≡ is_port_at base bytes
said_many base bytes many = elim (cases_Bool (is_port_at base bytes)) [
  | inl is ↦ absurd (elim many [
    | inl held ↦ omega (arith, (said_few base bytes is).0)
    | inr shown ↦ omega (arith, (said_few base bytes is).1)
  ])
  | inr not_so ↦ sym not_so
]

-- a part of bytes is bytes
part_bytes : (n place : ℕ) (bytes : List ℕ) → AreBytes bytes → (i : ℕ) → get_or (take n (drop place bytes)) i 0 < 256
part_bytes n place bytes are i = elim (cases_lt i n) [
  | inl inside ↦ rw (get_or-take n (drop place bytes) i 0 inside, get_or-drop place bytes i 0) (omega (arith, are.each (place + i)))
  | inr past ↦
      let short : length (take n (drop place bytes)) ≤ i = omega (arith, length-take n (drop place bytes)) in
      rw (get_or_past (take n (drop place bytes)) i 0 short) (omega arith)
]

part_length : (n place : ℕ) (bytes : List ℕ) → place + n ≤ length bytes → length (take n (drop place bytes)) ≡ n
part_length n place bytes le = length-take-le n (drop place bytes) (omega (arith, length-drop place bytes))

-- a number is spelt by its own bytes
front_bytes_8 : (place : ℕ) (bytes : List ℕ) → AreBytes bytes → place + 8 ≤ length bytes → take 8 (drop place bytes) ≡ u64_bytes (u64_at bytes place)
front_bytes_8 place bytes are le =
    sym (le_bytes_8 (take 8 (drop place bytes)) (u64_at bytes place) (part_length 8 place bytes le) (part_bytes 8 place bytes are) (sym (u64_at-take 8 0 (drop place bytes) (omega arith))))

front_bytes_2 : (place : ℕ) (bytes : List ℕ) → AreBytes bytes → place + 2 ≤ length bytes → take 2 (drop place bytes) ≡ u16_bytes (u16_at bytes place)
front_bytes_2 place bytes are le =
    sym (le_bytes_2 (take 2 (drop place bytes)) (u16_at bytes place) (part_length 2 place bytes le) (part_bytes 2 place bytes are) (sym (u16_at-take 2 0 (drop place bytes) (omega arith))))

-- what fills up a field is compared with 00
zeros_compared : (n place : ℕ) (bytes : List ℕ) → length bytes ≡ n → bytes_eq bytes (zeros n) ≡ list_all is_zero bytes
zeros_compared n place bytes len = ap (λ k. bytes_eq bytes (zeros k)) (sym len) ∙ sym (all_zeros bytes)

-- a record by what fills it up
record_compared : (bytes : List ℕ) → AreBytes bytes → length bytes ≡ PORT_BYTES → u16_at bytes 16 ≤ MAX_HELD → u16_at bytes 18 ≤ MAX_HELD
    → bytes_eq (take PORT_BYTES bytes) (port_bytes (port_at bytes))
    ≡ (list_all is_zero (take (MAX_HELD - u16_at bytes 16) (drop (20 + u16_at bytes 16) bytes)) && list_all is_zero (drop (20 + MAX_HELD + u16_at bytes 18) bytes))
record_compared bytes are len few few_shown =
    let held = u16_at bytes 16 in
    let shown = u16_at bytes 18 in
    let pending = take held (drop 20 bytes) in
    let outputs = take shown (drop (20 + MAX_HELD) bytes) in
    let held_length : length pending ≡ held = part_length held 20 bytes (omega arith) in
    let shown_length : length outputs ≡ shown = part_length shown (20 + MAX_HELD) bytes (omega arith) in
    let filler = zeros (MAX_HELD - length pending) in
    let last = zeros (MAX_HELD - length outputs) in
    let rest = padded MAX_HELD pending ++ padded MAX_HELD outputs in
    let filler_length : length (take (MAX_HELD - held) (drop (20 + held) bytes)) ≡ MAX_HELD - length pending =
    part_length (MAX_HELD - held) (20 + held) bytes (omega arith) ∙ omega arith in
    let last_length : length (drop (20 + MAX_HELD + shown) bytes) ≡ MAX_HELD - length outputs = length-drop (20 + MAX_HELD + shown) bytes ∙ omega arith in
    ap (λ xs. bytes_eq xs (port_bytes (port_at bytes))) (take_all PORT_BYTES bytes (omega arith))
    ∙ piece_same 8 0 8 bytes (u64_bytes (u64_at bytes 0)) (u64_bytes (u64_at bytes 8) ++ (u16_bytes (length pending) ++ (u16_bytes (length outputs) ++ rest))) refl (front_bytes_8 0 bytes are (omega arith))
    ∙ piece_same 8 8 16 bytes (u64_bytes (u64_at bytes 8)) (u16_bytes (length pending) ++ (u16_bytes (length outputs) ++ rest)) refl (front_bytes_8 8 bytes are (omega arith))
    ∙ piece_same 2 16 18 bytes (u16_bytes (length pending)) (u16_bytes (length outputs) ++ rest) refl (front_bytes_2 16 bytes are (omega arith) ∙ ap u16_bytes (sym held_length))
    ∙ piece_same 2 18 20 bytes (u16_bytes (length outputs)) rest refl (front_bytes_2 18 bytes are (omega arith) ∙ ap u16_bytes (sym shown_length))
    ∙ ap (bytes_eq (drop 20 bytes)) (append_assoc pending filler (padded MAX_HELD outputs))
    ∙ piece_same held 20 (20 + held) bytes pending (filler ++ padded MAX_HELD outputs) refl refl
    ∙ piece_compared (MAX_HELD - held) (20 + held) (20 + MAX_HELD) bytes filler (padded MAX_HELD outputs) (omega arith) (filler_length ∙ sym (length-replicate (MAX_HELD - length pending) 0))
    ∙ ap (λ t. bytes_eq (take (MAX_HELD - held) (drop (20 + held) bytes)) filler && t) (piece_same shown (20 + MAX_HELD) (20 + MAX_HELD + shown) bytes outputs last refl refl)
    ∙ ap (λ t. t && bytes_eq (drop (20 + MAX_HELD + shown) bytes) last) (zeros_compared (MAX_HELD - length pending) 0 (take (MAX_HELD - held) (drop (20 + held) bytes)) filler_length)
    ∙ ap (λ t. list_all is_zero (take (MAX_HELD - held) (drop (20 + held) bytes)) && t) (zeros_compared (MAX_HELD - length outputs) 0 (drop (20 + MAX_HELD + shown) bytes) last_length)

rules_of : (base : ℕ) (bytes : List ℕ) → length bytes ≡ PORT_BYTES → u16_at bytes 16 ≤ MAX_HELD → u16_at bytes 18 ≤ MAX_HELD
    → is_port_of base (port_at bytes) ≡ (nat_le (u64_at bytes 0) base && nat_le (u64_at bytes 8 + u16_at bytes 18) base)
rules_of base bytes len few few_shown =
    let held_length : length (take (u16_at bytes 16) (drop 20 bytes)) ≡ u16_at bytes 16 = part_length (u16_at bytes 16) 20 bytes (omega arith) in
    let shown_length : length (take (u16_at bytes 18) (drop (20 + MAX_HELD) bytes)) ≡ u16_at bytes 18 = part_length (u16_at bytes 18) (20 + MAX_HELD) bytes (omega arith) in
    rw (held_length, shown_length, le-leb (u16_at bytes 16) MAX_HELD few, le-leb (u16_at bytes 18) MAX_HELD few_shown) refl

pub is_port_at-rules : (base held shown : ℕ) (bytes : List ℕ) → AreBytes bytes → length bytes ≡ PORT_BYTES
    → held ≡ u16_at bytes 16 → shown ≡ u16_at bytes 18 → held ≤ MAX_HELD → shown ≤ MAX_HELD
    → keeps_rules base held shown bytes ≡ is_port_at base bytes
is_port_at-rules base held shown bytes are len held_is shown_is few few_shown =
    let few_said : u16_at bytes 16 ≤ MAX_HELD = omega arith in
    let few_shown_said : u16_at bytes 18 ≤ MAX_HELD = omega arith in
    let h = u16_at bytes 16 in
    let n = u16_at bytes 18 in
    let fillers = list_all is_zero (take (MAX_HELD - h) (drop (20 + h) bytes)) in
    let last = list_all is_zero (drop (20 + MAX_HELD + n) bytes) in
    ap (λ k. keeps_rules base k shown bytes) held_is ∙ ap (λ k. keeps_rules base h k bytes) shown_is
    ∙ sym (and_assoc fillers last (nat_le (u64_at bytes 0) base && nat_le (u64_at bytes 8 + n) base))
    ∙ sym (ap (λ t. t && is_port_of base (port_at bytes)) (record_compared bytes are len few_said few_shown_said) ∙ ap (λ t. (fillers && last) && t) (rules_of base bytes len few_said few_shown_said))

-- what is copied of a record is the port that it spells
pub port_with-copied : (base held shown : ℕ) (bytes : List ℕ) (port : Port) → is_port_at base bytes ≡ true
    → held ≡ u16_at bytes 16 → shown ≡ u16_at bytes 18
    → port ≡ record { pending = take held (drop 20 bytes); in_base = u64_at bytes 0; outputs = take shown (drop (20 + MAX_HELD) bytes); out_base = u64_at bytes 8 }
    → Some port ≡ port_with base bytes
port_with-copied base held shown bytes port is held_is shown_is copied = rw (copied, held_is, shown_is, is) refl

pub port_with-none : (base : ℕ) (bytes : List ℕ) → is_port_at base bytes ≡ false → None ≡ port_with base bytes
port_with-none base bytes not_so = rw not_so refl

pub held_few : (base held : ℕ) (bytes : List ℕ) → is_port_at base bytes ≡ true → held ≡ u16_at bytes 16 → held ≤ MAX_HELD
held_few base held bytes is held_is = omega (arith, (said_few base bytes is).0)

pub shown_few : (base shown : ℕ) (bytes : List ℕ) → is_port_at base bytes ≡ true → shown ≡ u16_at bytes 18 → shown ≤ MAX_HELD
shown_few base shown bytes is shown_is = omega (arith, (said_few base bytes is).1)

-- ## A record in longer bytes

same_port : (bytes : List ℕ) → u16_at bytes 16 ≤ MAX_HELD → u16_at bytes 18 ≤ MAX_HELD → port_at (take PORT_BYTES bytes) ≡ port_at bytes
same_port bytes few few_shown =
    rw (
      u16_at-take PORT_BYTES 16 bytes (omega arith),
      u16_at-take PORT_BYTES 18 bytes (omega arith),
      u64_at-take PORT_BYTES 0 bytes (omega arith),
      u64_at-take PORT_BYTES 8 bytes (omega arith),
      part_of_part (u16_at bytes 16) 20 PORT_BYTES 0 20 bytes (omega arith) refl,
      part_of_part (u16_at bytes 18) (20 + MAX_HELD) PORT_BYTES 0 (20 + MAX_HELD) bytes (omega arith) refl,
    )
    refl

test_same : (base : ℕ) (bytes : List ℕ) → u16_at bytes 16 ≤ MAX_HELD → u16_at bytes 18 ≤ MAX_HELD → is_port_at base (take PORT_BYTES bytes) ≡ is_port_at base bytes
test_same base bytes few few_shown =
    ap (λ p. bytes_eq (take PORT_BYTES (take PORT_BYTES bytes)) (port_bytes p) && is_port_of base p) (same_port bytes few few_shown)
    ∙ ap (λ xs. bytes_eq xs (port_bytes (port_at bytes)) && is_port_of base (port_at bytes)) (take-take PORT_BYTES PORT_BYTES bytes (omega arith))

many_none : (base : ℕ) (bytes : List ℕ) → (MAX_HELD < u16_at bytes 16) ⊎ (MAX_HELD < u16_at bytes 18) → port_with base bytes ≡ None
many_none base bytes many = sym (port_with-none base bytes (sym (said_many base bytes many)))

pub port_with-take : (base : ℕ) (bytes : List ℕ) → port_with base (take PORT_BYTES bytes) ≡ port_with base bytes
port_with-take base bytes =
    let front = take PORT_BYTES bytes in
    let held : u16_at front 16 ≡ u16_at bytes 16 = u16_at-take PORT_BYTES 16 bytes (omega arith) in
    let shown : u16_at front 18 ≡ u16_at bytes 18 = u16_at-take PORT_BYTES 18 bytes (omega arith) in
    elim (cases_lt MAX_HELD (u16_at bytes 16)) [
      | inl many ↦ many_none base front (inl (omega arith)) ∙ sym (many_none base bytes (inl many))
      | inr few ↦ elim (cases_lt MAX_HELD (u16_at bytes 18)) [
        | inl many ↦ many_none base front (inr (omega arith)) ∙ sym (many_none base bytes (inr many))
        | inr few_shown ↦
            ap (λ t. cond t (Some (port_at front)) None) (test_same base bytes few few_shown)
            ∙ ap (λ p. cond (is_port_at base bytes) (Some p) None) (same_port bytes few few_shown)
      ]
    ]
