-- What entries lead to as a port's outputs is a part of what the journal puts out there.
use Rattle.std.proofs.Common.{◌≡◌, ℕ, zero, suc, ◌+◌, ◌-◌, ◌≤◌, inl, inr, List, [], ◌∷◌, ◌++◌, length, take, drop, Some, refl, sym, ap, subst, ◌∙◌, arith, append_assoc}
use Rattle.std.specs.Prelude.{slice_get}
use Rattle.tp_law_processes.proofs.Lower.{flat_map-append, get_or_past, take-append-drop, take-append-le, get_or_from_slice_get, slice_get_cases, drop-append-add, Entry, NodeState, t414, Network, Port, device_areas, World, BeginsFormatted, fresh_value, has_four_links, after_shape, LeadsToBytes, port_or_fresh}
use Rattle.tp_law_processes.specs.Outputs.{byte_out, bytes_out}
use Rattle.tp_law_processes.proofs.Outputs.{after_grown}
use Rattle.tp_law_processes.proofs.FreshPorts.{formatted_port}

-- ## Lists

take_few : {A : Type 0} (n : ℕ) (xs : List A) → length (take n xs) ≤ length xs
take_few zero xs = omega arith
take_few (suc n) [] = omega arith
take_few (suc n) (x ∷ xs) = let few = take_few n xs in omega (arith, few)

drop_over : {A : Type 0} (k : ℕ) (xs ys : List A) → drop k (xs ++ ys) ≡ drop k xs ++ drop (k - length xs) ys
drop_over zero xs ys = let none : 0 - length xs ≡ 0 = omega arith in ap (λ n. xs ++ drop n ys) (sym none)
drop_over (suc k) [] ys = let all : suc k - 0 ≡ suc k = omega arith in ap (λ n. drop n ys) (sym all)
drop_over (suc k) (x ∷ xs) ys = let same : k - length xs ≡ suc k - suc (length xs) = omega arith in drop_over k xs ys ∙ ap (λ n. drop k xs ++ drop n ys) same

none_left : (n k : ℕ) (xs : List ℕ) → xs ≡ [] → take n (drop k xs) ≡ []
none_left zero k xs none = refl
none_left (suc n) zero xs none = ap (take (suc n)) none
none_left (suc n) (suc k) xs none = ap (λ ys. take (suc n) (drop (suc k) ys)) none

-- ## A port

module _ (start : Network NodeState) (first : World NodeState) (formatted : BeginsFormatted t414 device_areas start first)
    (journal : List Entry) (number port from : ℕ) (bytes : List ℕ) (L : LeadsToBytes start journal number port from bytes) where
  abbrev outputs : List ℕ
  outputs = (port_or_fresh L.state port).outputs

  abbrev behind : ℕ
  behind = from - (port_or_fresh L.state port).out_base

  abbrev IsPart : List ℕ → Type 0
  IsPart xs = xs ≡ take (length xs) (drop from (bytes_out start.wires port journal))

  -- one that the network has
  part_there : (was : Port) → slice_get start.ports port ≡ Some was → IsPart bytes
  part_there was there =
      let front = take number journal in
      let fresh = formatted_port start first formatted port was there in
      let G = after_grown t414 has_four_links start L.state front L.leads port was there in
      let grew = G.2 in
      let here : port_or_fresh L.state port ≡ G.0 = get_or_from_slice_get L.state.ports port G.0 fresh_value.port G.1 in
      let based : (port_or_fresh L.state port).out_base ≡ length grew.gone =
      ap (λ (p : Port). p.out_base) here ∙ (let base = grew.base in let none = fresh.out_base in omega (arith, base, none)) in
      let low = L.unconfirmed in
      let at : from ≡ length grew.gone + behind = omega (arith, based, low) in
      let rest = bytes_out start.wires port (drop number journal) in
      let grown : bytes_out start.wires port front ≡ was.outputs ++ bytes_out start.wires port front = ap (λ xs. xs ++ bytes_out start.wires port front) (sym fresh.outputs) in
      let out : bytes_out start.wires port front ≡ grew.gone ++ outputs =
      grown ∙ grew.are ∙ ap (λ (p : Port). grew.gone ++ p.outputs) (sym here) in
      let all : bytes_out start.wires port journal ≡ grew.gone ++ (outputs ++ rest) =
      ap (bytes_out start.wires port) (sym (take-append-drop number journal))
      ∙ flat_map-append (byte_out start.wires port) front (drop number journal)
      ∙ ap (λ xs. xs ++ rest) out
      ∙ append_assoc grew.gone outputs rest in
      let few : length bytes ≤ length (drop behind outputs) = subst (λ xs. length xs ≤ length (drop behind outputs)) (sym L.are) (take_few (length bytes) (drop behind outputs)) in
      L.are
      ∙ sym (take-append-le (length bytes) (drop behind outputs) (drop (behind - length outputs) rest) few)
      ∙ ap (take (length bytes)) (sym (drop_over behind outputs rest)
      ∙ sym (drop-append-add grew.gone (outputs ++ rest) behind)
      ∙ ap (λ n. drop n (grew.gone ++ (outputs ++ rest))) (sym at)
      ∙ ap (drop from) (sym all))

  -- one that it hasn't
  part_absent : length start.ports ≤ port → IsPart bytes
  part_absent past =
      let shape = (after_shape t414 has_four_links start L.state (take number journal) L.leads).ports in
      let fresh : port_or_fresh L.state port ≡ fresh_value.port = get_or_past L.state.ports port fresh_value.port (omega (arith, shape, past)) in
      let none : bytes ≡ [] = L.are ∙ none_left (length bytes) behind outputs (ap (λ (p : Port). p.outputs) fresh) in
      subst IsPart (sym none) refl

  pub shown_part : IsPart bytes
  shown_part = elim (slice_get_cases start.ports port).1 [
    | inl at ↦ part_there at.0 at.2
    | inr past ↦ part_absent past.0
  ]
