-- What is read as a cut is spelt as one.
use Rattle.std.proofs.Common.{◌≡◌, ℕ, zero, suc, ◌+◌, ◌*◌, ◌^◌, ◌<◌, ◌≤◌, Bool, true, false, cond, List, [], ◌∷◌, ◌++◌, length, take, drop, get_or, refl, sym, ap, subst, ◌∙◌, arith, append_assoc, length-drop, length-take, Option, Some, Ok}
use Rattle.std.specs.Prelude.{◌==◌, ◌&&◌, nat_lt, flat_map, sum_by, bytes_eq}
use Rattle.tp_law_device.proofs.Lower.{AllByRecursion, and_parts, and_from, eqb-true, take-append-drop, drop-drop, sum_by-cons, le_bytes_4, le_bytes_8, bytes_eq-Decides, Token, Data, Ack, Form, WireEnd, NUMBER_LIMIT, u8_at, u32_at, u64_at, u32_bytes, u64_bytes, NodeState, page_count, image, node_of, IsNode, Port, Network, EndsSeen, Topology, line_count, image_length, images_length, cut_length, generation_of, flights_in, line_bytes, port_bytes, node_with, tokens_of, tokens_at, is_record, line_with, is_line_of, port_at, is_port_of, port_with, or_damaged, nodes_in, lines_in, ports_in, base_number, cut_bytes, has_record, are_lines, IsCut, front_bytes, base_field, base_of, form_of, has_front, nodes_place, lines_place, ports_place, groups_place, network_of, cut_in, AreBytes, byte_below, are_bytes-take, are_bytes-drop, image-node_of, is_node-node_of, flights_found}
use Rattle.tp_law_device.proofs.Faults.{bind_ok, or_damaged_ok, tested}
use Rattle.tp_law_device.proofs.Forms.{base_below, field_is}
use Rattle.tp_law_device.proofs.Fronts.{u32_front, u64_front, whole_front}
use Rattle.tp_law_device.proofs.SpeltCuts.{pages_of}

-- ## Bytes of a part

-- a number's bytes are those that it is read from
pub u64_bytes-u64_at : (xs : List ℕ) (at : ℕ) → AreBytes xs → at + 8 ≤ length xs → u64_bytes (u64_at xs at) ≡ take 8 (drop at xs)
u64_bytes-u64_at xs at h room =
    let part = drop at xs in
    le_bytes_8 (take 8 part) (u64_at xs at) (omega (arith, length-take 8 part, length-drop at xs)) (byte_below (take 8 part) (are_bytes-take 8 part (are_bytes-drop at xs h)))
    (u64_front 0 8 part (take 8 part) (omega arith) (whole_front 8 part))

u32_bytes-u32_at : (xs : List ℕ) (at : ℕ) → AreBytes xs → at + 4 ≤ length xs → u32_bytes (u32_at xs at) ≡ take 4 (drop at xs)
u32_bytes-u32_at xs at h room =
    let part = drop at xs in
    le_bytes_4 (take 4 part) (u32_at xs at) (omega (arith, length-take 4 part, length-drop at xs)) (byte_below (take 4 part) (are_bytes-take 4 part (are_bytes-drop at xs h)))
    (u32_front 0 4 part (take 4 part) (omega arith) (whole_front 4 part))

pub u64_below : (xs : List ℕ) (at : ℕ) → AreBytes xs → u64_at xs at < 2 ^ 64
u64_below xs at h =
    let b : (i : ℕ) → get_or (drop at xs) i 0 < 256 = byte_below (drop at xs) (are_bytes-drop at xs h) in
    omega (arith, b 0, b 1, b 2, b 3, b 4, b 5, b 6, b 7)

-- bytes before others, one part after the other
parts_join : (front more xs : List ℕ) (n m : ℕ) → take n xs ≡ front → drop n xs ≡ more ++ drop m (drop n xs) → xs ≡ (front ++ more) ++ drop (n + m) xs
parts_join front more xs n m first rest =
    sym (take-append-drop n xs) ∙ ap (λ zs. zs ++ drop n xs) first ∙ ap (λ zs. front ++ zs) (rest ∙ ap (λ zs. more ++ zs) (drop-drop m n xs))
    ∙ sym (append_assoc front more (drop (n + m) xs))

-- ## Nodes

pub record NodesRead (pages : List ℕ) (xs : List ℕ) (nodes : List NodeState) : Type 0 where
  pub pages_are : pages_of nodes ≡ pages
  pub are_nodes : AllByRecursion IsNode nodes
  pub are : xs ≡ flat_map image nodes ++ drop (sum_by image_length pages) xs

pub nodes_read : (at : ℕ) (pages xs : List ℕ) (nodes : List NodeState) → AreBytes xs → nodes_in at pages xs ≡ Ok nodes → NodesRead pages xs nodes
unfolding nodes_in
nodes_read at [] xs nodes h is = let none : [] ≡ nodes = cc in subst (NodesRead [] xs) none (record { pages_are = refl; are_nodes = tt; are = refl })
nodes_read at (pages ∷ more) xs nodes h is =
    let long = image_length pages in
    let first = bind_ok (or_damaged at (node_with pages xs)) _ nodes is in
    let rest = bind_ok (nodes_in (at + long) more (drop long xs)) _ nodes first.2 in
    let n = first.0 in
    let found = tested (λ m. page_count m.memory == pages) (node_of (take long xs)) n (or_damaged_ok at (node_with pages xs) n first.1) in
    let front : take long xs ≡ image n = sym (image-node_of (take long xs) n found.0) in
    let others = nodes_read (at + long) more (drop long xs) rest.0 (are_bytes-drop long xs h) rest.1 in
    let count = eqb-true (page_count n.memory) pages found.1 in
    let behind = others.pages_are in
    let all : n ∷ rest.0 ≡ nodes = let both = rest.2 in cc in
    subst (NodesRead (pages ∷ more) xs) all (record {
      pages_are = λ i. count i ∷ behind i;
      are_nodes = (is_node-node_of (take long xs) n (are_bytes-take long xs h) found.0, others.are_nodes);
      are = parts_join (image n) (flat_map image rest.0) xs long (sum_by image_length more) front others.are
          ∙ ap (λ k. (image n ++ flat_map image rest.0) ++ drop k xs) (sym (sum_by-cons image_length pages more));
    })

-- ## Lines

has_tokens : (count first byte : ℕ) → has_record (tokens_of count first byte) ≡ true
has_tokens count first byte = go (count == 0) (count == 1) (first == 1)
  where
    go : (a b c : Bool) → has_record (cond a [] (cond b (cond c (Data byte ∷ []) (Ack ∷ [])) (cond c (Data byte ∷ Ack ∷ []) (Ack ∷ Data byte ∷ [])))) ≡ true
    go true b c = refl
    go false true true = refl
    go false true false = refl
    go false false true = refl
    go false false false = refl

pub record LinesRead (wires : List (Option WireEnd)) (xs : List ℕ) (lines : List (List Token)) : Type 0 where
  pub are_lines : are_lines wires lines ≡ true
  pub are : xs ≡ flat_map line_bytes lines ++ drop (4 * length wires) xs

pub lines_read : (at : ℕ) (wires : List (Option WireEnd)) (xs : List ℕ) (lines : List (List Token)) → lines_in at wires xs ≡ Ok lines → LinesRead wires xs lines
unfolding lines_in
lines_read at [] xs lines is = let none : [] ≡ lines = cc in subst (LinesRead [] xs) none (record { are_lines = refl; are = refl })
lines_read at (wire ∷ wires) xs lines is =
    let first = bind_ok (or_damaged at (line_with wire xs)) _ lines is in
    let rest = bind_ok (lines_in (at + 4) wires (drop 4 xs)) _ lines first.2 in
    let line = first.0 in
    let found = tested (λ tokens. is_record (take 4 xs) tokens && is_line_of wire tokens) (Some (tokens_at xs)) line (or_damaged_ok at (line_with wire xs) line first.1) in
    let tests = and_parts (is_record (take 4 xs) line) (is_line_of wire line) found.1 in
    let front : take 4 xs ≡ line_bytes line = (bytes_eq-Decides (take 4 xs) (line_bytes line)).0 tests.0 in
    let same : tokens_at xs ≡ line = let both = found.0 in cc in
    let has : has_record line ≡ true = ap has_record (sym same) ∙ has_tokens (u8_at xs 0) (u8_at xs 1) (u8_at xs 3) in
    let others = lines_read (at + 4) wires (drop 4 xs) rest.0 rest.1 in
    let all : line ∷ rest.0 ≡ lines = let both = rest.2 in cc in
    subst (LinesRead (wire ∷ wires) xs) all (record {
      are_lines = and_from (has_record line) (is_line_of wire line && are_lines wires rest.0) has (and_from (is_line_of wire line) (are_lines wires rest.0) tests.1 others.are_lines);
      are = parts_join (line_bytes line) (flat_map line_bytes rest.0) xs 4 (4 * length wires) front others.are
          ∙ ap (λ k. (line_bytes line ++ flat_map line_bytes rest.0) ++ drop k xs) (omega arith);
    })

-- ## Ports

pub record PortsRead (base count : ℕ) (xs : List ℕ) (ports : List Port) : Type 0 where
  pub count_is : length ports ≡ count
  pub are_ports : AllByRecursion (λ port. is_port_of base port ≡ true) ports
  pub are : xs ≡ flat_map port_bytes ports ++ drop (8212 * count) xs

pub ports_read : (base at count : ℕ) (xs : List ℕ) (ports : List Port) → ports_in base at count xs ≡ Ok ports → PortsRead base count xs ports
unfolding ports_in
ports_read base at zero xs ports is = let none : [] ≡ ports = cc in subst (PortsRead base 0 xs) none (record { count_is = refl; are_ports = tt; are = refl })
ports_read base at (suc count) xs ports is =
    let first = bind_ok (or_damaged at (port_with base xs)) _ ports is in
    let rest = bind_ok (ports_in base (at + 8212) count (drop 8212 xs)) _ ports first.2 in
    let port = first.0 in
    let found = tested (λ p. bytes_eq (take 8212 xs) (port_bytes p) && is_port_of base p) (Some (port_at xs)) port (or_damaged_ok at (port_with base xs) port first.1) in
    let tests = and_parts (bytes_eq (take 8212 xs) (port_bytes port)) (is_port_of base port) found.1 in
    let front : take 8212 xs ≡ port_bytes port = (bytes_eq-Decides (take 8212 xs) (port_bytes port)).0 tests.0 in
    let others = ports_read base (at + 8212) count (drop 8212 xs) rest.0 rest.1 in
    let all : port ∷ rest.0 ≡ ports = let both = rest.2 in cc in
    subst (PortsRead base (suc count) xs) all (record {
      count_is = ap suc others.count_is;
      are_ports = (tests.1, others.are_ports);
      are = parts_join (port_bytes port) (flat_map port_bytes rest.0) xs 8212 (8212 * count) front others.are
          ∙ ap (λ k. (port_bytes port ++ flat_map port_bytes rest.0) ++ drop k xs) (omega arith);
    })

-- ## The cut

pub record CutRead (E : EndsSeen NodeState) (t : Topology) (content : List ℕ) (form : Form) (s : Network NodeState) : Type 0 where
  pub cut : IsCut E t (base_of content) s
  pub are : content ≡ front_bytes t (generation_of content) form (base_of content) s ++ drop (groups_place t) content

pub cut_read : (E : EndsSeen NodeState) (t : Topology) (at : ℕ) (content : List ℕ) (form : Form) (s : Network NodeState) → length t.wires ≡ line_count t → AreBytes content → 20 ≤ length content
    → form_of content ≡ Some form → has_front t content ≡ true → cut_in E t at content ≡ Ok s → CutRead E t content form s
unfolding cut_in front_bytes cut_bytes
cut_read E t at content form s lines h room form_is front is =
    let a = bind_ok (nodes_in (at + nodes_place) t.pages (drop nodes_place content)) _ s is in
    let b = bind_ok (lines_in (at + lines_place t) t.wires (drop (lines_place t) content)) _ s a.2 in
    let c = bind_ok (ports_in (base_of content) (at + ports_place t) t.ports (drop (ports_place t) content)) _ s b.2 in
    let network = network_of t a.0 b.0 c.0 in
    let d = bind_ok (flights_in E network (at + lines_place t) 0 (line_count t)) _ s c.2 in
    let nodes = nodes_read (at + nodes_place) t.pages (drop nodes_place content) a.0 (are_bytes-drop nodes_place content h) a.1 in
    let tokens = lines_read (at + lines_place t) t.wires (drop (lines_place t) content) b.0 b.1 in
    let ports = ports_read (base_of content) (at + ports_place t) t.ports (drop (ports_place t) content) c.0 c.1 in
    let same : network ≡ s = let both = d.2 in cc in
    let F = and_parts (u32_at content 8 == cut_length t) (nat_lt (generation_of content) NUMBER_LIMIT) front in
    let field : base_field content ≡ base_number form (base_of content) = field_is (base_field content) form form_is in
    let images = flat_map image a.0 in
    let line_part = flat_map line_bytes b.0 in
    let port_part = flat_map port_bytes c.0 in
    let rest = drop (groups_place t) content in
    let behind_ports : drop (ports_place t) content ≡ port_part ++ rest =
    ports.are ∙ ap (λ zs. port_part ++ zs) (drop-drop (8212 * t.ports) (ports_place t) content ∙ ap (λ k. drop k content) (omega arith)) in
    let behind_lines : drop (lines_place t) content ≡ line_part ++ (port_part ++ rest) =
    tokens.are ∙ ap (λ zs. line_part ++ zs) (drop-drop (4 * length t.wires) (lines_place t) content ∙ ap (λ k. drop k content) (omega arith) ∙ behind_ports) in
    let behind_nodes : drop 20 content ≡ images ++ (line_part ++ (port_part ++ rest)) =
    nodes.are ∙ ap (λ zs. images ++ zs) (drop-drop (images_length t) 20 content ∙ behind_lines) in
    let behind_length : drop 12 content ≡ u64_bytes (base_number form (base_of content)) ++ drop 20 content =
    sym (take-append-drop 8 (drop 12 content)) ∙ ap (λ zs. zs ++ drop 8 (drop 12 content)) (sym (u64_bytes-u64_at content 12 h (omega arith)) ∙ ap u64_bytes field) ∙ ap (λ zs. u64_bytes (base_number form (base_of content)) ++ zs) (drop-drop 8 12 content) in
    let long : u32_bytes (cut_length t) ≡ take 4 (drop 8 content) = ap u32_bytes (sym (eqb-true (u32_at content 8) (cut_length t) F.0)) ∙ u32_bytes-u32_at content 8 h (omega arith) in
    let behind_generation : drop 8 content ≡ u32_bytes (cut_length t) ++ drop 12 content =
    sym (take-append-drop 4 (drop 8 content)) ∙ ap (λ zs. zs ++ drop 4 (drop 8 content)) (sym long) ∙ ap (λ zs. u32_bytes (cut_length t) ++ zs) (drop-drop 4 8 content) in
    let whole : content ≡ u64_bytes (generation_of content) ++ drop 8 content =
    sym (take-append-drop 8 content) ∙ ap (λ zs. zs ++ drop 8 content) (sym (u64_bytes-u64_at content 0 h (omega arith))) in
    let generation = u64_bytes (generation_of content) in
    let size = u32_bytes (cut_length t) in
    let base = u64_bytes (base_number form (base_of content)) in
    let joined : images ++ (line_part ++ (port_part ++ rest)) ≡ (images ++ (line_part ++ port_part)) ++ rest =
    ap (λ zs. images ++ zs) (sym (append_assoc line_part port_part rest)) ∙ sym (append_assoc images (line_part ++ port_part) rest) in
    subst (CutRead E t content form) same (record {
      cut = record {
        wires = refl;
        nodes = nodes.are_nodes;
        pages = nodes.pages_are;
        lines = tokens.are_lines;
        count = ports.count_is;
        ports = ports.are_ports;
        flights = λ line low. flights_found E network (at + lines_place t) 0 (line_count t) d.1 line (omega arith) (omega arith);
        base_fits = base_below (base_field content);
      };
      are = whole ∙ ap (λ zs. generation ++ zs) (behind_generation ∙ ap (λ zs. size ++ zs) (behind_length ∙ ap (λ zs. base ++ zs) (behind_nodes ∙ joined)));
    })
