-- A cut that is spelt is read back.
use Rattle.std.proofs.Common.{◌≡◌, ℕ, zero, suc, ◌+◌, ◌-◌, ◌*◌, ◌/◌, ◌%◌, ◌^◌, ◌<◌, ◌≤◌, true, cond, List, [], ◌∷◌, ◌++◌, length, take, drop, refl, sym, ap, ◌∙◌, arith, append_assoc, length-append, length-drop, Option, Some, None, Ok, Err}
use Rattle.std.specs.Prelude.{◌==◌, ◌&&◌, nat_le, nat_lt, map, flat_map, sum_by, bytes_eq}
use Rattle.tp_law_device.proofs.Lower.{list_all, AllByRecursion, and_parts, and_from, leb-true, lt-ltb, eqb-true, eq-eqb, cond-true, false≢true, take_at, drop_at, drop-drop, length-replicate, sum_by-cons, from_le_bytes-to_le_bytes_2, from_le_bytes-to_le_bytes_4, from_le_bytes-to_le_bytes_8, bytes_eq-Decides, Token, Data, Ack, Form, WireEnd, Damaged, MIN_PAGES, MAX_PAGES, MAX_HELD, NUMBER_LIMIT, ◌>>=◌, u16_at, u32_at, u64_at, zeros, padded, NodeState, page_count, image_head, image, node_at, is_memory, is_node, node_of, Port, Network, back, EndsSeen, Topology, line_count, is_page_count, image_length, images_length, cut_length, generation_of, is_in_one_place, flights_in, line_bytes, port_bytes, only_if, node_with, tokens_at, is_record, line_with, is_line_of, port_at, is_port_of, port_with, or_damaged, nodes_in, lines_in, ports_in, base_number, cut_bytes, has_record, are_lines, front_bytes, base_field, base_of, form_at, form_of, has_front, nodes_place, lines_place, ports_place, groups_place, network_of, cut_in}
use Rattle.std.proofs.lemmas.Option.{cond_some}
use Rattle.tp_law_device.proofs.Forms.{base_back, base_number_below, form_back}
use Rattle.tp_law_device.proofs.Wires.{HasShape}

-- ## Nodes

-- the node's image is read as that node
abbrev pub IsReadBack : NodeState → Type 0
IsReadBack n = node_of (image n) ≡ Some n

-- an image has the bytes of its head and those of its memory
pub image_size : (bytes : List ℕ) (n : NodeState) → node_of bytes ≡ Some n → length bytes ≡ image_length (page_count n.memory)
unfolding node_of is_node node_at
image_size bytes n is =
    let found = cond_some (is_node (node_at bytes) && bytes_eq (take 172 bytes) (image_head (node_at bytes))) (node_at bytes) n is in
    let keeps = and_parts (is_node (node_at bytes)) _ found.0 in
    let memory = and_parts (is_memory (drop 172 bytes)) _ keeps.0 in
    let whole = and_parts (length (drop 172 bytes) == 1024 * page_count (drop 172 bytes)) _ memory.0 in
    let long = eqb-true (length (drop 172 bytes)) (1024 * page_count (drop 172 bytes)) whole.0 in
    let least = leb-true MIN_PAGES (page_count (drop 172 bytes)) (and_parts (nat_le MIN_PAGES (page_count (drop 172 bytes))) (nat_le (page_count (drop 172 bytes)) MAX_PAGES) whole.1).0 in
    let size : length bytes ≡ 172 + 1024 * page_count (drop 172 bytes) = omega (arith, length-drop 172 bytes) in
    size ∙ ap (λ (m : NodeState). image_length (page_count m.memory)) found.1

abbrev pub pages_of : List NodeState → List ℕ
pages_of nodes = map (λ n. page_count n.memory) nodes

pub length-images : (nodes : List NodeState) → AllByRecursion IsReadBack nodes → length (flat_map image nodes) ≡ sum_by image_length (pages_of nodes)
length-images [] h = refl
length-images (n ∷ ns) h =
    omega (arith, length-append (image n) (flat_map image ns), image_size (image n) n h.0, length-images ns h.1, sum_by-cons image_length (page_count n.memory) (pages_of ns))

node_spelt : (n : NodeState) (rest : List ℕ) → IsReadBack n → node_with (page_count n.memory) (image n ++ rest) ≡ Some n
node_spelt n rest h =
    let pages = page_count n.memory in
    ap (λ xs. only_if (λ m. page_count m.memory == pages) (node_of xs)) (take_at (image n) rest (image_length pages) (image_size (image n) n h))
    ∙ ap (only_if (λ m. page_count m.memory == pages)) h
    ∙ cond-true (page_count n.memory == pages) (Some n) None (eq-eqb pages pages refl)

pub nodes_spelt : (at : ℕ) (nodes : List NodeState) (rest : List ℕ) → AllByRecursion IsReadBack nodes → nodes_in at (pages_of nodes) (flat_map image nodes ++ rest) ≡ Ok nodes
unfolding nodes_in
nodes_spelt at [] rest h = refl
nodes_spelt at (n ∷ ns) rest h =
    let pages = page_count n.memory in
    let more = flat_map image ns ++ rest in
    let all : (image n ++ flat_map image ns) ++ rest ≡ image n ++ more = append_assoc (image n) (flat_map image ns) rest in
    let first = node_spelt n more h.0 in
    let others = ap (nodes_in (at + image_length pages) (pages_of ns)) (drop_at (image n) more (image_length pages) (image_size (image n) n h.0)) ∙ nodes_spelt (at + image_length pages) ns rest h.1 in
    ap (nodes_in at (pages ∷ pages_of ns)) all
    ∙ (λ i. or_damaged at (first i) >>= λ node. others i >>= λ nodes. Ok (node ∷ nodes))

-- ## Lines

line_passes : (wire : Option WireEnd) (tokens : List Token) (bytes : List ℕ) → take 4 bytes ≡ line_bytes tokens → tokens_at bytes ≡ tokens → is_line_of wire tokens ≡ true
    → line_with wire bytes ≡ Some tokens
line_passes wire tokens bytes front read keeps =
    let same = (bytes_eq-Decides (line_bytes tokens) (line_bytes tokens)).1 refl in
    (λ i. only_if (λ ts. is_record (front i) ts && is_line_of wire ts) (Some (read i)))
    ∙ cond-true (is_record (line_bytes tokens) tokens && is_line_of wire tokens) (Some tokens) None (and_from (is_record (line_bytes tokens) tokens) (is_line_of wire tokens) same keeps)

line_spelt : (wire : Option WireEnd) (tokens : List Token) (rest : List ℕ) → has_record tokens ≡ true → is_line_of wire tokens ≡ true → line_with wire (line_bytes tokens ++ rest) ≡ Some tokens
line_spelt wire [] rest h keeps = line_passes wire [] (line_bytes [] ++ rest) refl refl keeps
line_spelt wire (Data byte ∷ []) rest h keeps = line_passes wire (Data byte ∷ []) (line_bytes (Data byte ∷ []) ++ rest) refl refl keeps
line_spelt wire (Ack ∷ []) rest h keeps = line_passes wire (Ack ∷ []) (line_bytes (Ack ∷ []) ++ rest) refl refl keeps
line_spelt wire (Data byte ∷ Ack ∷ []) rest h keeps = line_passes wire (Data byte ∷ Ack ∷ []) (line_bytes (Data byte ∷ Ack ∷ []) ++ rest) refl refl keeps
line_spelt wire (Ack ∷ Data byte ∷ []) rest h keeps = line_passes wire (Ack ∷ Data byte ∷ []) (line_bytes (Ack ∷ Data byte ∷ []) ++ rest) refl refl keeps
line_spelt wire tokens rest h keeps = absurd (false≢true h)

length-line_bytes : (tokens : List Token) → has_record tokens ≡ true → length (line_bytes tokens) ≡ 4
length-line_bytes [] h = refl
length-line_bytes (Data byte ∷ []) h = refl
length-line_bytes (Ack ∷ []) h = refl
length-line_bytes (Data byte ∷ Ack ∷ []) h = refl
length-line_bytes (Ack ∷ Data byte ∷ []) h = refl
length-line_bytes tokens h = absurd (false≢true h)

record IsLine (wire : Option WireEnd) (wires : List (Option WireEnd)) (line : List Token) (lines : List (List Token)) : Type 0 where
  has : has_record line ≡ true
  fits : is_line_of wire line ≡ true
  rest : are_lines wires lines ≡ true

line_parts : (wire : Option WireEnd) (wires : List (Option WireEnd)) (line : List Token) (lines : List (List Token)) → are_lines (wire ∷ wires) (line ∷ lines) ≡ true → IsLine wire wires line lines
line_parts wire wires line lines h =
    let a = and_parts (has_record line) (is_line_of wire line && are_lines wires lines) h in
    let b = and_parts (is_line_of wire line) (are_lines wires lines) a.1 in
    record { has = a.0; fits = b.0; rest = b.1 }

pub length-lines : (wires : List (Option WireEnd)) (lines : List (List Token)) → are_lines wires lines ≡ true → length (flat_map line_bytes lines) ≡ 4 * length wires
length-lines [] [] h = refl
length-lines [] (line ∷ lines) h = absurd (false≢true h)
length-lines (wire ∷ wires) [] h = absurd (false≢true h)
length-lines (wire ∷ wires) (line ∷ lines) h =
    let parts = line_parts wire wires line lines h in
    omega (arith, length-append (line_bytes line) (flat_map line_bytes lines), length-line_bytes line parts.has, length-lines wires lines parts.rest)

pub lines_spelt : (at : ℕ) (wires : List (Option WireEnd)) (lines : List (List Token)) (rest : List ℕ) → are_lines wires lines ≡ true → lines_in at wires (flat_map line_bytes lines ++ rest) ≡ Ok lines
unfolding lines_in
lines_spelt at [] [] rest h = refl
lines_spelt at [] (line ∷ lines) rest h = absurd (false≢true h)
lines_spelt at (wire ∷ wires) [] rest h = absurd (false≢true h)
lines_spelt at (wire ∷ wires) (line ∷ lines) rest h =
    let parts = line_parts wire wires line lines h in
    let more = flat_map line_bytes lines ++ rest in
    let all : (line_bytes line ++ flat_map line_bytes lines) ++ rest ≡ line_bytes line ++ more = append_assoc (line_bytes line) (flat_map line_bytes lines) rest in
    let first = line_spelt wire line more parts.has parts.fits in
    let others = ap (lines_in (at + 4) wires) (drop_at (line_bytes line) more 4 (length-line_bytes line parts.has)) ∙ lines_spelt (at + 4) wires lines rest parts.rest in
    ap (lines_in at (wire ∷ wires)) all
    ∙ (λ i. or_damaged at (first i) >>= λ line. others i >>= λ lines. Ok (line ∷ lines))

-- ## Ports

-- what a port of a cut of `base` entries has
record IsPort (base : ℕ) (port : Port) : Type 0 where
  pending : length port.pending ≤ 4096
  outputs : length port.outputs ≤ 4096
  inside : port.in_base ≤ base
  outside : port.out_base ≤ base

port_parts : (base : ℕ) (port : Port) → is_port_of base port ≡ true → IsPort base port
port_parts base port h =
    let a = and_parts (nat_le (length port.pending) MAX_HELD && nat_le (length port.outputs) MAX_HELD) _ h in
    let b = and_parts (nat_le (length port.pending) MAX_HELD) (nat_le (length port.outputs) MAX_HELD) a.0 in
    let c = and_parts (nat_le port.in_base base) (nat_le (port.out_base + length port.outputs) base) a.1 in
    let out = leb-true (port.out_base + length port.outputs) base c.1 in
    record {
      pending = leb-true (length port.pending) MAX_HELD b.0;
      outputs = leb-true (length port.outputs) MAX_HELD b.1;
      inside = leb-true port.in_base base c.0;
      outside = omega arith;
    }

length-padded : (n : ℕ) (xs : List ℕ) → length xs ≤ n → length (padded n xs) ≡ n
length-padded n xs le = omega (arith, length-append xs (zeros (n - length xs)), length-replicate {A = ℕ} (n - length xs) 0)

pub length-port_bytes : (base : ℕ) (port : Port) → is_port_of base port ≡ true → length (port_bytes port) ≡ 8212
length-port_bytes base port h =
    let P = port_parts base port h in
    omega (arith, length-append (padded MAX_HELD port.pending) (padded MAX_HELD port.outputs), length-padded MAX_HELD port.pending P.pending, length-padded MAX_HELD port.outputs P.outputs)

-- a padded field, read back by its count
padded_back : (n : ℕ) (xs rest : List ℕ) → take (length xs) (padded n xs ++ rest) ≡ xs
padded_back n xs rest = ap (take (length xs)) (append_assoc xs (zeros (n - length xs)) rest) ∙ take_at xs (zeros (n - length xs) ++ rest) (length xs) refl

port_at-port_bytes : (base : ℕ) (port : Port) (rest : List ℕ) → is_port_of base port ≡ true → base < NUMBER_LIMIT → port_at (port_bytes port ++ rest) ≡ port
port_at-port_bytes base port rest h low =
    let P = port_parts base port h in
    let bytes = port_bytes port ++ rest in
    let first = padded MAX_HELD port.pending in
    let second = padded MAX_HELD port.outputs in
    let a : u64_at bytes 0 ≡ port.in_base = from_le_bytes-to_le_bytes_8 port.in_base (omega (arith, P.inside)) in
    let b : u64_at bytes 8 ≡ port.out_base = from_le_bytes-to_le_bytes_8 port.out_base (omega (arith, P.outside)) in
    let c : u16_at bytes 16 ≡ length port.pending = from_le_bytes-to_le_bytes_2 (length port.pending) (omega (arith, P.pending)) in
    let d : u16_at bytes 18 ≡ length port.outputs = from_le_bytes-to_le_bytes_2 (length port.outputs) (omega (arith, P.outputs)) in
    let behind : drop 20 bytes ≡ first ++ (second ++ rest) = append_assoc first second rest in
    let pending : take (u16_at bytes 16) (drop 20 bytes) ≡ port.pending =
    ap (λ k. take k (drop 20 bytes)) c ∙ ap (take (length port.pending)) behind ∙ padded_back MAX_HELD port.pending (second ++ rest) in
    let last : drop 4116 bytes ≡ second ++ rest = sym (drop-drop 4096 20 bytes) ∙ ap (drop 4096) behind ∙ drop_at first (second ++ rest) 4096 (length-padded MAX_HELD port.pending P.pending) in
    let outputs : take (u16_at bytes 18) (drop 4116 bytes) ≡ port.outputs =
    ap (λ k. take k (drop 4116 bytes)) d ∙ ap (take (length port.outputs)) last ∙ padded_back MAX_HELD port.outputs rest in
    λ i. record { pending = pending i; in_base = a i; outputs = outputs i; out_base = b i }

port_spelt : (base : ℕ) (port : Port) (rest : List ℕ) → is_port_of base port ≡ true → base < NUMBER_LIMIT → port_with base (port_bytes port ++ rest) ≡ Some port
port_spelt base port rest h low =
    let front : take 8212 (port_bytes port ++ rest) ≡ port_bytes port = take_at (port_bytes port) rest 8212 (length-port_bytes base port h) in
    let read = port_at-port_bytes base port rest h low in
    let same = (bytes_eq-Decides (port_bytes port) (port_bytes port)).1 refl in
    (λ i. only_if (λ p. bytes_eq (front i) (port_bytes p) && is_port_of base p) (Some (read i)))
    ∙ cond-true (bytes_eq (port_bytes port) (port_bytes port) && is_port_of base port) (Some port) None (and_from (bytes_eq (port_bytes port) (port_bytes port)) (is_port_of base port) same h)

pub length-ports : (base : ℕ) (ports : List Port) → AllByRecursion (λ port. is_port_of base port ≡ true) ports → length (flat_map port_bytes ports) ≡ 8212 * length ports
length-ports base [] h = refl
length-ports base (port ∷ ports) h = omega (arith, length-append (port_bytes port) (flat_map port_bytes ports), length-port_bytes base port h.0, length-ports base ports h.1)

pub ports_spelt : (base at : ℕ) (ports : List Port) (rest : List ℕ) → AllByRecursion (λ port. is_port_of base port ≡ true) ports → base < NUMBER_LIMIT
    → ports_in base at (length ports) (flat_map port_bytes ports ++ rest) ≡ Ok ports
unfolding ports_in
ports_spelt base at [] rest h low = refl
ports_spelt base at (port ∷ ports) rest h low =
    let more = flat_map port_bytes ports ++ rest in
    let first = port_spelt base port more h.0 low in
    let others = ap (ports_in base (at + 8212) (length ports)) (drop_at (port_bytes port) more 8212 (length-port_bytes base port h.0)) ∙ ports_spelt base (at + 8212) ports rest h.1 low in
    ap (ports_in base at (suc (length ports))) (append_assoc (port_bytes port) (flat_map port_bytes ports) rest)
    ∙ (λ i. or_damaged at (first i) >>= λ port. others i >>= λ ports. Ok (port ∷ ports))

-- ## Flights

pub flights_hold : (E : EndsSeen NodeState) (s : Network NodeState) (at line count : ℕ) → ((k : ℕ) → line ≤ k → k < line + count → is_in_one_place E s k (back s k) ≡ true)
    → flights_in E s at line count ≡ Ok tt
unfolding flights_in
flights_hold E s at line zero each = refl
flights_hold E s at line (suc count) each =
    let here = each line (omega arith) (omega arith) in
    (λ i. cond (here i) (flights_in E s (at + 4) (line + 1) count) (Err (Damaged at))) ∙ flights_hold E s (at + 4) (line + 1) count (λ k low high. each k (omega arith) (omega arith))

-- ## The cut

-- a network that is read back of a cut image, as that of a cut of `base` entries
pub record ReadsBack (E : EndsSeen NodeState) (t : Topology) (base : ℕ) (s : Network NodeState) : Type 0 where
  pub wires : s.wires ≡ t.wires
  pub nodes : AllByRecursion IsReadBack s.nodes
  pub pages : pages_of s.nodes ≡ t.pages
  pub lines : are_lines t.wires s.lines ≡ true
  pub count : length s.ports ≡ t.ports
  pub ports : AllByRecursion (λ port. is_port_of base port ≡ true) s.ports
  pub flights : (line : ℕ) → line < line_count t → is_in_one_place E s line (back s line) ≡ true
  pub base_fits : base < NUMBER_LIMIT

images_most : (pages : List ℕ) → list_all is_page_count pages ≡ true → sum_by image_length pages ≤ image_length MAX_PAGES * length pages
images_most [] h = omega arith
images_most (n ∷ ns) h =
    let both = and_parts (is_page_count n) (list_all is_page_count ns) h in
    let most = leb-true n MAX_PAGES (and_parts (nat_le MIN_PAGES n) (nat_le n MAX_PAGES) both.0).1 in
    omega (arith, sum_by-cons image_length n ns, images_most ns both.1)

pub cut_fits : (t : Topology) → HasShape t → cut_length t < 2 ^ 32
cut_fits t L = omega (arith, images_most t.pages L.pages, L.few_nodes, L.few_ports)

-- A content that begins with the fields and the cut image.
module _ (E : EndsSeen NodeState) (t : Topology) (L : HasShape t) (generation : ℕ) (form : Form) (base : ℕ) (s : Network NodeState) (C : ReadsBack E t base s) (content more : List ℕ)
    (is : content ≡ front_bytes t generation form base s ++ more) where
  abbrev images : List ℕ
  images = flat_map image s.nodes

  abbrev lines : List ℕ
  lines = flat_map line_bytes s.lines

  abbrev ports : List ℕ
  ports = flat_map port_bytes s.ports

  pub front_generation : generation < NUMBER_LIMIT → generation_of content ≡ generation
  unfolding front_bytes cut_bytes
  front_generation low = ap generation_of is ∙ from_le_bytes-to_le_bytes_8 generation (omega arith)

  front_field : base_field content ≡ base_number form base
  unfolding front_bytes cut_bytes
  front_field = ap base_field is ∙ from_le_bytes-to_le_bytes_8 (base_number form base) (base_number_below form base C.base_fits)

  pub front_base : base_of content ≡ base
  front_base = ap (λ n. n % NUMBER_LIMIT) front_field ∙ base_back form base C.base_fits

  pub front_form : form_of content ≡ Some form
  front_form = ap (λ n. form_at (n / NUMBER_LIMIT)) front_field ∙ form_back form base C.base_fits

  front_length : u32_at content 8 ≡ cut_length t
  unfolding front_bytes cut_bytes
  front_length = ap (λ xs. u32_at xs 8) is ∙ from_le_bytes-to_le_bytes_4 (cut_length t) (cut_fits t L)

  behind_base : drop 20 content ≡ images ++ (lines ++ (ports ++ more))
  unfolding front_bytes cut_bytes
  behind_base = ap (drop 20) is ∙ append_assoc images (lines ++ ports) more ∙ ap (λ xs. images ++ xs) (append_assoc lines ports more)

  behind_images : drop (lines_place t) content ≡ lines ++ (ports ++ more)
  behind_images =
      sym (drop-drop (images_length t) 20 content) ∙ ap (drop (images_length t)) behind_base
      ∙ drop_at images (lines ++ (ports ++ more)) (images_length t) (length-images s.nodes C.nodes ∙ ap (sum_by image_length) C.pages)

  behind_lines : drop (ports_place t) content ≡ ports ++ more
  behind_lines =
      sym (drop-drop (4 * line_count t) (lines_place t) content) ∙ ap (drop (4 * line_count t)) behind_images
      ∙ drop_at lines (ports ++ more) (4 * line_count t) (length-lines t.wires s.lines C.lines ∙ ap (λ k. 4 * k) L.lines)

  pub behind_ports : drop (groups_place t) content ≡ more
  behind_ports =
      ap (λ place. drop place content) (omega arith)
      ∙ sym (drop-drop (8212 * t.ports) (ports_place t) content) ∙ ap (drop (8212 * t.ports)) behind_lines
      ∙ drop_at ports more (8212 * t.ports) (length-ports base s.ports C.ports ∙ ap (λ k. 8212 * k) C.count)

  pub front_is : generation < NUMBER_LIMIT → has_front t content ≡ true
  front_is low =
      let size = front_length in
      let age = front_generation low in
      and_from (u32_at content 8 == cut_length t) (nat_lt (generation_of content) NUMBER_LIMIT) (eq-eqb (u32_at content 8) (cut_length t) size)
      (lt-ltb (generation_of content) NUMBER_LIMIT (omega arith))

  pub cut_spelt : (at : ℕ) → cut_in E t at content ≡ Ok s
  unfolding cut_in
  cut_spelt at =
      let wires = C.wires in
      let a : nodes_in (at + nodes_place) t.pages (drop nodes_place content) ≡ Ok s.nodes =
      ap (nodes_in (at + nodes_place) t.pages) behind_base ∙ ap (λ pages. nodes_in (at + nodes_place) pages (images ++ (lines ++ (ports ++ more)))) (sym C.pages)
      ∙ nodes_spelt (at + nodes_place) s.nodes (lines ++ (ports ++ more)) C.nodes in
      let b : lines_in (at + lines_place t) t.wires (drop (lines_place t) content) ≡ Ok s.lines =
      ap (lines_in (at + lines_place t) t.wires) behind_images ∙ lines_spelt (at + lines_place t) t.wires s.lines (ports ++ more) C.lines in
      let c : ports_in (base_of content) (at + ports_place t) t.ports (drop (ports_place t) content) ≡ Ok s.ports =
      ap (λ start. ports_in start (at + ports_place t) t.ports (drop (ports_place t) content)) front_base ∙ ap (ports_in base (at + ports_place t) t.ports) behind_lines
      ∙ ap (λ count. ports_in base (at + ports_place t) count (ports ++ more)) (sym C.count) ∙ ports_spelt base (at + ports_place t) s.ports more C.ports C.base_fits in
      let given = sym wires in
      let same : network_of t s.nodes s.lines s.ports ≡ s = λ i. record { wires = given i; nodes = s.nodes; ports = s.ports; lines = s.lines } in
      let d : flights_in E (network_of t s.nodes s.lines s.ports) (at + lines_place t) 0 (line_count t) ≡ Ok tt =
      ap (λ network. flights_in E network (at + lines_place t) 0 (line_count t)) same
      ∙ flights_hold E s (at + lines_place t) 0 (line_count t) (λ line low high. C.flights line (omega arith)) in
      (λ i. a i >>= λ nodes. lines_in (at + lines_place t) t.wires (drop (lines_place t) content) >>= λ lines. ports_in (base_of content) (at + ports_place t) t.ports (drop (ports_place t) content) >>= λ ports. flights_in E (network_of t nodes lines ports) (at + lines_place t) 0 (line_count t) >>= λ sound. Ok (network_of t nodes lines ports))
      ∙ (λ i. b i >>= λ lines. ports_in (base_of content) (at + ports_place t) t.ports (drop (ports_place t) content) >>= λ ports. flights_in E (network_of t s.nodes lines ports) (at + lines_place t) 0 (line_count t) >>= λ sound. Ok (network_of t s.nodes lines ports))
      ∙ (λ i. c i >>= λ ports. flights_in E (network_of t s.nodes s.lines ports) (at + lines_place t) 0 (line_count t) >>= λ sound. Ok (network_of t s.nodes s.lines ports))
      ∙ (λ i. d i >>= λ sound. Ok (network_of t s.nodes s.lines s.ports))
      ∙ (λ i. Ok (same i))
