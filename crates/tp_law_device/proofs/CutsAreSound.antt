-- A network that is read of a cut image is sound.
use Rattle.std.proofs.Common.{◌≡◌, ℕ, suc, ◌+◌, ◌*◌, ◌<◌, true, false, List, [], ◌∷◌, length, drop, refl, sym, ap, subst, ◌∙◌, arith, Option, Some, None, Ok}
use Rattle.std.specs.Prelude.{◌&&◌, nat_lt}
use Rattle.tp_law_device.proofs.Lower.{option_map, and_parts, ltb-true, eqb-true, false≢true, length-map, WireEnd, Link, NodeState, page_count, Machine, Network, receiver, has_wire, on_line, line_of, back, markers, after, IsOpened, fresh, EndsSeen, Wired, Sound, Topology, node_count, line_count, is_end, is_line, joins_link, leads_back, is_topology, are_lines, IsCut, flights_found, sound_in_place, is_in_one_place, flights_in, or_damaged, node_with, nodes_in, lines_in, ports_in, image_length, base_of, nodes_place, lines_place, ports_place, network_of, cut_in}
use Rattle.tp_law_device.proofs.Faults.{bind_ok}
use Rattle.tp_law_device.proofs.Wires.{HasShape, has_shape, each_leads}
use Rattle.tp_law_device.proofs.ReadCuts.{lines_read, ports_read}
use Rattle.tp_law_device.proofs.UnmarkedLines.{line_of_each, unwired_empty, lines_unmarked, plain_lines}

-- ## Wires

-- what the wire of each line keeps, whether there is such a line or not
leads_anywhere : (t : Topology) → HasShape t → (line : ℕ) → leads_back (node_count t) t.ports t.wires line (receiver t.wires line) ≡ true
leads_anywhere t shape line =
    ap (λ place. leads_back (node_count t) t.ports t.wires place (receiver t.wires line)) (omega arith)
    ∙ each_leads (node_count t) t.ports t.wires 0 t.wires shape.wires line

line_is : (line : ℕ) (found : Option ℕ) → is_line line found ≡ true → found ≡ Some line
line_is line None h = absurd (false≢true h)
line_is line (Some other) h = ap Some (eqb-true other line h)

leads_there : (N H : ℕ) (wires : List (Option WireEnd)) (x y : ℕ) (end : Option WireEnd) → leads_back N H wires x end ≡ true → option_map (line_of N) end ≡ Some y
    → option_map (line_of N) (receiver wires y) ≡ Some x
leads_there N H wires x y None h is = cc
leads_there N H wires x y (Some other) h is =
    let there : line_of N other ≡ y = cc in
    let behind = option_map (line_of N) (receiver wires (line_of N other)) in
    let parts = and_parts (is_end N H other && joins_link N x other) (is_line x behind) h in
    ap (λ line. option_map (line_of N) (receiver wires line)) (sym there) ∙ line_is x behind parts.1

leads_inside : (N H : ℕ) (wires : List (Option WireEnd)) (x i k : ℕ) → leads_back N H wires x (Some (Link i k)) ≡ true → (i < N) × (k < 4)
leads_inside N H wires x i k h =
    let behind = is_line x (option_map (line_of N) (receiver wires (line_of N (Link i k)))) in
    let parts = and_parts (is_end N H (Link i k) && joins_link N x (Link i k)) behind h in
    let ends = and_parts (is_end N H (Link i k)) (joins_link N x (Link i k)) parts.0 in
    let both = and_parts (nat_lt i N) (nat_lt k 4) ends.0 in
    (ltb-true i N both.0, ltb-true k 4 both.1)

-- ## What a cut has

-- as many nodes, lines and ports as the topology says, whose lines have records, and each byte under way in one place
pub record HasParts (E : EndsSeen NodeState) (t : Topology) (s : Network NodeState) : Type 0 where
  pub wires : s.wires ≡ t.wires
  pub nodes : length s.nodes ≡ node_count t
  pub lines : are_lines t.wires s.lines ≡ true
  pub count : length s.ports ≡ t.ports
  pub flights : (line : ℕ) → line < line_count t → is_in_one_place E s line (back s line) ≡ true

nodes_counted : (at : ℕ) (pages : List ℕ) (bytes : List ℕ) (nodes : List NodeState) → nodes_in at pages bytes ≡ Ok nodes → length nodes ≡ length pages
unfolding nodes_in
nodes_counted at [] bytes nodes is = let none : [] ≡ nodes = cc in ap length (sym none)
nodes_counted at (pages ∷ more) bytes nodes is =
    let first = bind_ok (or_damaged at (node_with pages bytes)) _ nodes is in
    let rest = bind_ok (nodes_in (at + image_length pages) more (drop (image_length pages) bytes)) _ nodes first.2 in
    let all : first.0 ∷ rest.0 ≡ nodes = let both = rest.2 in cc in
    ap length (sym all) ∙ ap suc (nodes_counted (at + image_length pages) more (drop (image_length pages) bytes) rest.0 rest.1)

-- what is read as a cut has them
pub read_parts : (E : EndsSeen NodeState) (t : Topology) (at : ℕ) (content : List ℕ) (s : Network NodeState) → cut_in E t at content ≡ Ok s → HasParts E t s
unfolding cut_in
read_parts E t at content s is =
    let a = bind_ok (nodes_in (at + nodes_place) t.pages (drop nodes_place content)) _ s is in
    let b = bind_ok (lines_in (at + lines_place t) t.wires (drop (lines_place t) content)) _ s a.2 in
    let c = bind_ok (ports_in (base_of content) (at + ports_place t) t.ports (drop (ports_place t) content)) _ s b.2 in
    let network = network_of t a.0 b.0 c.0 in
    let d = bind_ok (flights_in E network (at + lines_place t) 0 (line_count t)) _ s c.2 in
    let tokens = lines_read (at + lines_place t) t.wires (drop (lines_place t) content) b.0 b.1 in
    let ports = ports_read (base_of content) (at + ports_place t) t.ports (drop (ports_place t) content) c.0 c.1 in
    let same : network ≡ s = let both = d.2 in cc in
    subst (HasParts E t) same (record {
      wires = refl;
      nodes = nodes_counted (at + nodes_place) t.pages (drop nodes_place content) a.0 a.1;
      lines = tokens.are_lines;
      count = ports.count_is;
      flights = λ line low. flights_found E network (at + lines_place t) 0 (line_count t) d.1 line (omega arith) (omega arith);
    })

module _ (E : EndsSeen NodeState) (t : Topology) (s : Network NodeState) (topology : is_topology t ≡ true) (P : HasParts E t s) where
  shape : HasShape t
  shape = has_shape t topology

  parts_wires : length s.wires ≡ 4 * length s.nodes + length s.ports
  parts_wires = omega (arith, ap length P.wires, shape.lines, P.nodes, P.count)

  parts_lines : length s.lines ≡ length s.wires
  parts_lines = line_of_each t.wires s.lines P.lines ∙ ap length (sym P.wires)

  back_is : (x : ℕ) → back s x ≡ option_map (line_of (node_count t)) (receiver t.wires x)
  back_is x = rw (P.wires, P.nodes) refl

  parts_wired : Wired s
  parts_wired = record {
    both_ways = λ x y b. back_is y ∙ leads_there (node_count t) t.ports t.wires x y (receiver t.wires x) (leads_anywhere t shape x) (sym (back_is x) ∙ b);
    links = λ x i k r.
        let wire : receiver t.wires x ≡ Some (Link i k) = ap (λ wires. receiver wires x) (sym P.wires) ∙ r in
        let found = leads_inside (node_count t) t.ports t.wires x i k (ap (leads_back (node_count t) t.ports t.wires x) (sym wire) ∙ leads_anywhere t shape x) in
        (omega (arith, found.0, P.nodes), found.1);
  }

  empty : (x : ℕ) → has_wire s.wires x ≡ false → on_line s.lines x ≡ []
  empty x shut = unwired_empty t.wires s.lines P.lines x (ap (λ wires. has_wire wires x) (sym P.wires) ∙ shut)

  pub parts_sound : Sound E s
  parts_sound = sound_in_place E s parts_wired (sym parts_lines) (parts_lines ∙ parts_wires) empty (λ x low. P.flights x (omega (arith, low, ap length P.wires, shape.lines)))

  no_markers : (line : ℕ) → markers (on_line s.lines line) ≡ 0
  no_markers = lines_unmarked t.wires s.lines P.lines

  -- a book that begins with it, before its first entry, is one that was opened
  pub parts_open : (M : Machine NodeState) → IsOpened M (fresh s)
  unfolding after
  parts_open M = record {
    idle = refl;
    now = (let plain_is = sym (plain_lines s.lines no_markers) in λ i. Some (record s { lines = plain_is i }));
    unmarked = no_markers;
    lines = parts_lines ∙ parts_wires;
    wired = λ line is. parts_sound.there line is;
    unwired = empty;
  }

-- ## A network that a cut image can hold

module _ (E : EndsSeen NodeState) (t : Topology) (base : ℕ) (s : Network NodeState) (topology : is_topology t ≡ true) (C : IsCut E t base s) where
  pub cut_nodes : length s.nodes ≡ node_count t
  cut_nodes = sym (length-map s.nodes (λ n. page_count n.memory)) ∙ ap length C.pages

  cut_parts : HasParts E t s
  cut_parts = record { wires = C.wires; nodes = cut_nodes; lines = C.lines; count = C.count; flights = C.flights }

  pub cut_wires : length s.wires ≡ 4 * length s.nodes + length s.ports
  cut_wires = parts_wires E t s topology cut_parts

  pub cut_lines : length s.lines ≡ length s.wires
  cut_lines = parts_lines E t s topology cut_parts

  pub cut_sound : Sound E s
  cut_sound = parts_sound E t s topology cut_parts
