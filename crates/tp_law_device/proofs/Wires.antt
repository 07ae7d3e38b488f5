-- The wires of a topology are read back of its links' ends.
use Rattle.std.proofs.Common.{◌≡◌, ℕ, zero, suc, ◌+◌, ◌-◌, ◌*◌, ◌/◌, ◌%◌, ◌^◌, ◌<◌, ◌≤◌, inl, inr, true, cond, List, [], ◌∷◌, length, take, get_or, refl, sym, ap, ◌∙◌, arith, length-append, length-take, Option, Some, None}
use Rattle.std.specs.Prelude.{◌==◌, ◌&&◌, nat_lt, nat_le, map}
use Rattle.tp_law_device.proofs.Lower.{option_map, list_all, range_with_len, position_or_len, false_from_ne_true, and_parts, cases_lt, ltb-true, lt-ltb, le-ltb, leb-true, eqb-true, cond-true, cond-false, ne_eqb, eq-eqb, false≢true, ext_get_or, get_or-map, get_or-take, get_or_append_left, get_or-append_right, length-map, get_or-map-range_with_len, length-range_with_len, position_or_len_is, WireEnd, Link, AtPort, HeadVersion, Narrow, Wide, MAX_NODES, MAX_PORTS, receiver, line_of, Topology, node_count, line_count, end_of, is_end, is_line, joins_link, leads_back, all_lead_back, is_page_count, is_topology, head_nodes, first_port, end_number, end_of_number, is_port, port_wire, all_wires}

-- ## Wires that lead back

-- what is true of a line with a wire
record LeadsBack (N H : ℕ) (wires : List (Option WireEnd)) (line : ℕ) (other : WireEnd) : Type 0 where
  end : is_end N H other ≡ true
  joins : joins_link N line other ≡ true
  here : WireEnd
  is : receiver wires (line_of N other) ≡ Some here
  back : line_of N here ≡ line

line_found : (N line : ℕ) (found : Option WireEnd) → is_line line (option_map (line_of N) found) ≡ true → (here : WireEnd) × (found ≡ Some here) × (line_of N here ≡ line)
line_found N line None h = absurd (false≢true h)
line_found N line (Some here) h = (here, refl, eqb-true (line_of N here) line h)

leads_parts : (N H : ℕ) (wires : List (Option WireEnd)) (line : ℕ) (other : WireEnd) → leads_back N H wires line (Some other) ≡ true → LeadsBack N H wires line other
leads_parts N H wires line other h =
    let a = and_parts (is_end N H other && joins_link N line other) (is_line line (option_map (line_of N) (receiver wires (line_of N other)))) h in
    let b = and_parts (is_end N H other) (joins_link N line other) a.0 in
    let found = line_found N line (receiver wires (line_of N other)) a.1 in
    record { end = b.0; joins = b.1; here = found.0; is = found.1; back = found.2 }

-- each wire leads back, and so does none
pub each_leads : (N H : ℕ) (wires : List (Option WireEnd)) (line : ℕ) (ends : List (Option WireEnd)) → all_lead_back N H wires line ends ≡ true
    → (i : ℕ) → leads_back N H wires (line + i) (get_or ends i None) ≡ true
unfolding all_lead_back
each_leads N H wires line [] h i = refl
each_leads N H wires line (end ∷ ends) h zero =
    let both = and_parts (leads_back N H wires line end) (all_lead_back N H wires (line + 1) ends) h in
    ap (λ place. leads_back N H wires place end) (omega arith) ∙ both.0
each_leads N H wires line (end ∷ ends) h (suc i) =
    let both = and_parts (leads_back N H wires line end) (all_lead_back N H wires (line + 1) ends) h in
    ap (λ place. leads_back N H wires place (get_or ends i None)) (omega arith) ∙ each_leads N H wires (line + 1) ends both.1 i

-- ## What a topology has

pub record HasShape (t : Topology) : Type 0 where
  pub some_nodes : 1 ≤ node_count t
  pub few_nodes : node_count t ≤ MAX_NODES
  pub some_ports : 1 ≤ t.ports
  pub few_ports : t.ports ≤ MAX_PORTS
  pub pages : list_all is_page_count t.pages ≡ true
  pub lines : length t.wires ≡ line_count t
  pub wires : all_lead_back (node_count t) t.ports t.wires 0 t.wires ≡ true

pub has_shape : (t : Topology) → is_topology t ≡ true → HasShape t
unfolding is_topology
has_shape t h =
    let a = and_parts (nat_le 1 (node_count t) && nat_le (node_count t) MAX_NODES) _ h in
    let b = and_parts (nat_le 1 t.ports && nat_le t.ports MAX_PORTS) _ a.1 in
    let c = and_parts (list_all is_page_count t.pages) _ b.1 in
    let d = and_parts (length t.wires == line_count t) _ c.1 in
    let nodes = and_parts (nat_le 1 (node_count t)) (nat_le (node_count t) MAX_NODES) a.0 in
    let ports = and_parts (nat_le 1 t.ports) (nat_le t.ports MAX_PORTS) b.0 in
    record {
      some_nodes = leb-true 1 (node_count t) nodes.0;
      few_nodes = leb-true (node_count t) MAX_NODES nodes.1;
      some_ports = leb-true 1 t.ports ports.0;
      few_ports = leb-true t.ports MAX_PORTS ports.1;
      pages = c.0;
      lines = eqb-true (length t.wires) (line_count t) d.0;
      wires = d.1;
    }

-- the numbers of links are below those of ports, and both are below 2^16
links_below : (version : HeadVersion) → 4 * head_nodes version < first_port version
links_below Narrow = omega arith
links_below Wide = omega arith

ports_below : (version : HeadVersion) → first_port version + MAX_PORTS < 2 ^ 16
ports_below Narrow = omega arith
ports_below Wide = omega arith

module _ (t : Topology) (L : HasShape t) where
  abbrev N : ℕ
  N = node_count t

  leads : (line : ℕ) (other : WireEnd) → receiver t.wires line ≡ Some other → LeadsBack N t.ports t.wires line other
  leads line other is =
      leads_parts N t.ports t.wires line other
      (ap (leads_back N t.ports t.wires line) (sym is)
      ∙ ap (λ place. leads_back N t.ports t.wires place (receiver t.wires line)) (omega arith)
      ∙ each_leads N t.ports t.wires 0 t.wires L.wires line)

  -- ## The number of an end

  -- a version whose head has a field for each node
  module _ (version : HeadVersion) (few : N ≤ head_nodes version) where
    link_number : (j k : ℕ) → j < head_nodes version → k < 4 → end_of_number version (1 + 4 * j + k) ≡ Some (Link j k)
    link_number j k low small =
        let number = 1 + 4 * j + k in
        let first = first_port version in
        let node : (number - 1) / 4 ≡ j = omega arith in
        let link : (number - 1) % 4 ≡ k = omega arith in
        cond-false (number == 0) None (cond (nat_lt number first) (Some (Link ((number - 1) / 4) ((number - 1) % 4))) (Some (AtPort (number - first)))) (ne_eqb number 0 (λ e. omega arith))
        ∙ cond-true (nat_lt number first) (Some (Link ((number - 1) / 4) ((number - 1) % 4))) (Some (AtPort (number - first))) (lt-ltb number first (omega (arith, links_below version)))
        ∙ (λ i. Some (Link (node i) (link i)))

    port_number : (p : ℕ) → end_of_number version (first_port version + p) ≡ Some (AtPort p)
    port_number p =
        let first = first_port version in
        let number = first + p in
        let port : number - first ≡ p = omega arith in
        cond-false (number == 0) None (cond (nat_lt number first) (Some (Link ((number - 1) / 4) ((number - 1) % 4))) (Some (AtPort (number - first)))) (ne_eqb number 0 (λ e. omega (arith, links_below version)))
        ∙ cond-false (nat_lt number first) (Some (Link ((number - 1) / 4) ((number - 1) % 4))) (Some (AtPort (number - first))) (le-ltb number first (omega arith))
        ∙ (λ i. Some (AtPort (port i)))

    end_back : (line : ℕ) (found : Option WireEnd) → receiver t.wires line ≡ found → end_of_number version (end_number version found) ≡ found
    end_back line None is = refl
    end_back line (Some (Link j k)) is =
        let B = leads line (Link j k) is in
        let both = and_parts (nat_lt j N) (nat_lt k 4) B.end in
        let low = ltb-true j N both.0 in
        link_number j k (omega (arith, few)) (ltb-true k 4 both.1)
    end_back line (Some (AtPort p)) is = port_number p

    -- two bytes hold it
    pub end_low : (line : ℕ) (found : Option WireEnd) → receiver t.wires line ≡ found → end_number version found < 2 ^ 16
    end_low line None is = omega arith
    end_low line (Some (Link j k)) is =
        let B = leads line (Link j k) is in
        let both = and_parts (nat_lt j N) (nat_lt k 4) B.end in
        let low = ltb-true j N both.0 in
        let small = ltb-true k 4 both.1 in
        omega (arith, few, links_below version, ports_below version)
    end_low line (Some (AtPort p)) is =
        let B = leads line (AtPort p) is in
        let low = ltb-true p t.ports B.end in
        omega (arith, L.few_ports, ports_below version)

  -- the wires of the links
  abbrev pub links : List (Option WireEnd)
  links = take (4 * N) t.wires

  pub length-links : length links ≡ 4 * N
  length-links = omega (arith, length-take (4 * N) t.wires, L.lines)

  pub links_back : (version : HeadVersion) → N ≤ head_nodes version → map (end_of_number version) (map (end_number version) links) ≡ links
  links_back version few = ext_get_or None (map (end_of_number version) (map (end_number version) links)) links
      (length-map (map (end_number version) links) (end_of_number version) ∙ length-map links (end_number version))
      (λ i low.
      let within : i < length links = omega (arith, length-map (map (end_number version) links) (end_of_number version), length-map links (end_number version)) in
      let below : i < 4 * N = omega (arith, length-links) in
      get_or-map (end_of_number version) (map (end_number version) links) i 0 None (omega (arith, length-map links (end_number version)))
      ∙ ap (end_of_number version) (get_or-map (end_number version) links i None 0 within)
      ∙ ap (λ found. end_of_number version (end_number version found)) (get_or-take (4 * N) t.wires i None below)
      ∙ end_back version few i (receiver t.wires i) refl
      ∙ sym (get_or-take (4 * N) t.wires i None below))

  pub numbers_low : (version : HeadVersion) → N ≤ head_nodes version → (i : ℕ) → i < length links → get_or (map (end_number version) links) i 0 < 2 ^ 16
  numbers_low version few i low =
      let below : i < 4 * N = omega (arith, length-links) in
      let is : get_or (map (end_number version) links) i 0 ≡ end_number version (receiver t.wires i) =
      get_or-map (end_number version) links i None 0 low ∙ ap (end_number version) (get_or-take (4 * N) t.wires i None below) in
      omega (arith, is, end_low version few i (receiver t.wires i) refl)

  -- ## The wire of a port

  -- the line that has a port's end is the one to which that port's wire leads
  port_named : (p line : ℕ) (found : Option WireEnd) → receiver t.wires line ≡ found → is_port p found ≡ true
      → (here : WireEnd) × (receiver t.wires (4 * N + p) ≡ Some here) × (line_of N here ≡ line)
  port_named p line None is named = absurd (false≢true named)
  port_named p line (Some (Link i k)) is named = absurd (false≢true named)
  port_named p line (Some (AtPort q)) is named =
      let B = leads line (AtPort q) is in
      let same : q ≡ p = eqb-true q p named in
      (B.here, ap (λ n. receiver t.wires (4 * N + n)) (sym same) ∙ B.is, B.back)

  link_at : (i : ℕ) → i < 4 * N → get_or links i None ≡ receiver t.wires i
  link_at i low = get_or-take (4 * N) t.wires i None low

  is_named : (p : ℕ) (found : Option WireEnd) → found ≡ Some (AtPort p) → is_port p found ≡ true
  is_named p found is = ap (is_port p) is ∙ eq-eqb p p refl

  -- an end that sends the line of a port is that port
  port_only : (p : ℕ) (end : WireEnd) → is_end N t.ports end ≡ true → line_of N end ≡ 4 * N + p → end ≡ AtPort p
  port_only p (Link i k) there is =
      let both = and_parts (nat_lt i N) (nat_lt k 4) there in
      let low = ltb-true i N both.0 in
      let small = ltb-true k 4 both.1 in
      absurd (omega arith)
  port_only p (AtPort q) there is = ap AtPort (omega arith)

  port_wired : (p : ℕ) (found : Option WireEnd) → receiver t.wires (4 * N + p) ≡ found → port_wire N links p ≡ found
  port_wired p None is =
      let size = length-links in
      let place : position_or_len (is_port p) links ≡ length links =
      position_or_len_is (is_port p) links (length links) None (omega arith)
      (λ k low. false_from_ne_true (is_port p (get_or links k None)) (λ named.
      let there = port_named p k (receiver t.wires k) refl (ap (is_port p) (sym (link_at k (omega arith))) ∙ named) in
      let both = there.1 in absurd (cc)))
      (λ more. absurd (omega arith)) in
      ap (option_map (end_of N)) (cond-false (nat_lt (position_or_len (is_port p) links) (length links)) (Some (position_or_len (is_port p) links)) None (le-ltb (position_or_len (is_port p) links) (length links) (omega arith)))
  port_wired p (Some (AtPort q)) is =
      let B = leads (4 * N + p) (AtPort q) is in
      let low = ltb-true (4 * N + p) (4 * N) B.joins in absurd (omega arith)
  port_wired p (Some (Link i k)) is =
      let size = length-links in
      let B = leads (4 * N + p) (Link i k) is in
      let both = and_parts (nat_lt i N) (nat_lt k 4) B.end in
      let low = ltb-true i N both.0 in
      let small = ltb-true k 4 both.1 in
      let line : ℕ = 4 * i + k in
      let here = leads (4 * i + k) B.here B.is in
      let names : receiver t.wires (4 * i + k) ≡ Some (AtPort p) = B.is ∙ ap (λ end. Some end) (port_only p B.here here.end B.back) in
      let place : position_or_len (is_port p) links ≡ 4 * i + k =
      position_or_len_is (is_port p) links (4 * i + k) None (omega arith)
      (λ q before. false_from_ne_true (is_port p (get_or links q None)) (λ named.
      let there = port_named p q (receiver t.wires q) refl (ap (is_port p) (sym (link_at q (omega arith))) ∙ named) in
      let same : there.0 ≡ Link i k = let e = there.1 in let f = is in cc in
      let line_is : line_of N (Link i k) ≡ q = ap (line_of N) (sym same) ∙ there.2 in
      absurd (omega arith)))
      (λ more. is_named p (get_or links (4 * i + k) None) (link_at (4 * i + k) (omega arith) ∙ names)) in
      let node : (4 * i + k) / 4 ≡ i = omega arith in
      let link : (4 * i + k) % 4 ≡ k = omega arith in
      ap (option_map (end_of N)) (cond-true (nat_lt (position_or_len (is_port p) links) (length links)) (Some (position_or_len (is_port p) links)) None (lt-ltb (position_or_len (is_port p) links) (length links) (omega arith)))
      ∙ ap (λ q. Some (end_of N q)) place
      ∙ ap (λ end. Some end) (cond-true (nat_lt (4 * i + k) (4 * N)) (Link ((4 * i + k) / 4) ((4 * i + k) % 4)) (AtPort (4 * i + k - 4 * N)) (lt-ltb (4 * i + k) (4 * N) (omega arith)))
      ∙ (λ x. Some (Link (node x) (link x)))

  -- The wires are those of the links, and of each port the one that names it.
  pub wires_back : all_wires N t.ports links ≡ t.wires
  wires_back = ext_get_or None (all_wires N t.ports links) t.wires size each
    where
      behind : List (Option WireEnd)
      behind = map (port_wire N links) (range_with_len 0 t.ports)

      size : length (all_wires N t.ports links) ≡ length t.wires
      size = omega (arith, length-append links (map (port_wire N links) (range_with_len 0 t.ports)), length-map (range_with_len 0 t.ports) (port_wire N links), length-range_with_len 0 t.ports, length-links, L.lines)

      each : (i : ℕ) → i < length (all_wires N t.ports links) → get_or (all_wires N t.ports links) i None ≡ get_or t.wires i None
      each i low = elim (cases_lt i (4 * N)) [
        | inl link ↦ get_or_append_left links (map (port_wire N links) (range_with_len 0 t.ports)) None i (omega (arith, length-links)) ∙ link_at i link
        | inr port ↦
            get_or-append_right links (map (port_wire N links) (range_with_len 0 t.ports)) (4 * N) i None length-links port
            ∙ get_or-map-range_with_len (port_wire N links) 0 t.ports (i - 4 * N) (i - 4 * N) None (omega (arith, size, L.lines)) (omega arith)
            ∙ port_wired (i - 4 * N) (receiver t.wires (4 * N + (i - 4 * N))) refl
            ∙ ap (λ line. receiver t.wires line) (omega arith)
      ]
