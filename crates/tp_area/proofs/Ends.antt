-- The numbers of ends in a head: those of a topology belong to ends that a network may have.
use Rattle.std.proofs.Common.{◌≡◌, ℕ, ◌+◌, ◌-◌, ◌*◌, ◌/◌, ◌%◌, ◌<◌, ◌≤◌, true, cond, List, [], ◌∷◌, ◌++◌, map, refl, ap, subst, ◌∙◌, arith, inl, inr, Some, None}
use Rattle.std.specs.Prelude.{◌&&◌, ◌==◌, nat_le, nat_lt, Option}
use Rattle.tp_area.proofs.Lower.{list_all, and_parts, and_from, cases_lt, cond-true, cond-false, le-leb, le-ltb, lt-ltb, ltb-true, ne_eqb, HeadVersion, Narrow, Wide, WireEnd, Link, AtPort, MAX_NODES, MAX_PORTS, end_of_number, first_port, all_lead_back, is_end, joins_link, leads_back}
use Rattle.tp_area.specs.Ends.{is_end_number}

-- 0 is the number of no end
none_number : (version : HeadVersion) → is_end_number version 0 ≡ true
none_number Narrow = refl
none_number Wide = refl

module _ (version : HeadVersion) (N H : ℕ) (few : N ≤ MAX_NODES) (few_ports : H ≤ MAX_PORTS) where
  -- an end that is there has a number in its range
  link_number : (wires : List (Option WireEnd)) (line number : ℕ) → number < first_port version
      → leads_back N H wires line (Some (Link ((number - 1) / 4) ((number - 1) % 4))) ≡ true → is_end_number version number ≡ true
  link_number wires line number low h =
      let end = Link ((number - 1) / 4) ((number - 1) % 4) in
      let parts = and_parts (is_end N H end && joins_link N line end) _ h in
      let both = and_parts (is_end N H end) (joins_link N line end) parts.0 in
      let ends = and_parts (nat_lt ((number - 1) / 4) N) (nat_lt ((number - 1) % 4) 4) both.0 in
      let node = ltb-true ((number - 1) / 4) N ends.0 in
      cond-true (nat_lt number (first_port version)) (nat_le number (4 * MAX_NODES)) (nat_lt (number - first_port version) MAX_PORTS) (lt-ltb number (first_port version) low)
      ∙ le-leb number (4 * MAX_NODES) (omega arith)

  port_number : (wires : List (Option WireEnd)) (line number : ℕ) → first_port version ≤ number
      → leads_back N H wires line (Some (AtPort (number - first_port version))) ≡ true → is_end_number version number ≡ true
  port_number wires line number high h =
      let end = AtPort (number - first_port version) in
      let parts = and_parts (is_end N H end && joins_link N line end) _ h in
      let both = and_parts (is_end N H end) (joins_link N line end) parts.0 in
      let port = ltb-true (number - first_port version) H both.0 in
      cond-false (nat_lt number (first_port version)) (nat_le number (4 * MAX_NODES)) (nat_lt (number - first_port version) MAX_PORTS) (le-ltb number (first_port version) high)
      ∙ lt-ltb (number - first_port version) MAX_PORTS (omega arith)

  number_there : (wires : List (Option WireEnd)) (line number : ℕ) → leads_back N H wires line (end_of_number version number) ≡ true → is_end_number version number ≡ true
  number_there wires line number h =
      let link : Option WireEnd = Some (Link ((number - 1) / 4) ((number - 1) % 4)) in
      let port : Option WireEnd = Some (AtPort (number - first_port version)) in
      elim (cases_lt 0 number) [
        | inr none ↦ let is : number ≡ 0 = omega arith in ap (is_end_number version) is ∙ none_number version
        | inl some ↦
            let there : leads_back N H wires line (cond (nat_lt number (first_port version)) link port) ≡ true =
            subst (λ end. leads_back N H wires line end ≡ true) (cond-false (number == 0) None (cond (nat_lt number (first_port version)) link port) (ne_eqb number 0 (λ e. omega arith))) h in
            elim (cases_lt number (first_port version)) [
              | inl low ↦
                  link_number wires line number low
                  (subst (λ end. leads_back N H wires line end ≡ true) (cond-true (nat_lt number (first_port version)) link port (lt-ltb number (first_port version) low)) there)
              | inr high ↦
                  port_number wires line number high
                  (subst (λ end. leads_back N H wires line end ≡ true) (cond-false (nat_lt number (first_port version)) link port (le-ltb number (first_port version) high)) there)
            ]
      ]

  -- so have all ends that lead back
  pub numbers_there : (wires more : List (Option WireEnd)) (line : ℕ) (numbers : List ℕ) → all_lead_back N H wires line (map (end_of_number version) numbers ++ more) ≡ true
      → list_all (is_end_number version) numbers ≡ true
  unfolding all_lead_back
  numbers_there wires more line [] h = refl
  numbers_there wires more line (number ∷ numbers) h =
      let ends = map (end_of_number version) numbers ++ more in
      let both = and_parts (leads_back N H wires line (end_of_number version number)) (all_lead_back N H wires (line + 1) ends) h in
      and_from (is_end_number version number) (list_all (is_end_number version) numbers) (number_there wires line number both.0) (numbers_there wires more (line + 1) numbers both.1)
