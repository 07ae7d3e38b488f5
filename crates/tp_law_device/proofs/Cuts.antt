-- A cut image is read of its own bytes alone.
use Rattle.std.proofs.Common.{◌≡◌, ℕ, zero, suc, ◌+◌, ◌*◌, ◌%◌, ◌^◌, ◌<◌, Bool, true, false, List, [], ◌∷◌, length, take, drop, refl, sym, ap, ◌∙◌, arith, Option, Some, Ok}
use Rattle.std.specs.Prelude.{◌==◌, ◌&&◌, nat_le, bytes_eq, sum_by}
use Rattle.tp_law_device.proofs.Lower.{and_parts, leb-true, sum_by-cons, from_le_bytes-to_le_bytes_2, bytes_eq-Decides, WireEnd, MAX_HELD, NUMBER_LIMIT, ◌>>=◌, u16_at, NodeState, page_count, node_of, Port, Network, EndsSeen, Topology, line_count, image_length, flights_in, only_if, tokens_of, is_record, is_line_of, line_with, port_at, port_bytes, is_port_of, port_with, or_damaged, nodes_in, lines_in, ports_in, base_field, base_of, nodes_place, lines_place, ports_place, groups_place, network_of, cut_in}
use Rattle.tp_law_device.proofs.Faults.{bind_ok, or_damaged_ok}
use Rattle.tp_law_device.proofs.Fronts.{SameFront, front_shorter, front_part, front_get, u16_front, u64_front, whole_front}

-- ## Nodes

pub nodes_same : (at : ℕ) (pages : List ℕ) (xs ys : List ℕ) → SameFront (sum_by image_length pages) xs ys → nodes_in at pages xs ≡ nodes_in at pages ys
unfolding nodes_in
nodes_same at [] xs ys h = refl
nodes_same at (pages ∷ more) xs ys h =
    let long = image_length pages in
    let all : sum_by image_length (pages ∷ more) ≡ long + sum_by image_length more = sum_by-cons image_length pages more in
    let here : take long xs ≡ take long ys = let front = front_shorter long (sum_by image_length (pages ∷ more)) xs ys (omega arith) h in front.same in
    let rest = nodes_same (at + long) more (drop long xs) (drop long ys) (front_part long (sum_by image_length more) (sum_by image_length (pages ∷ more)) xs ys (omega arith) h) in
    λ i. or_damaged at (only_if (λ n. page_count n.memory == pages) (node_of (here i))) >>= λ node. rest i >>= λ nodes. Ok (node ∷ nodes)

-- ## Lines

pub line_same : (wire : Option WireEnd) (xs ys : List ℕ) → SameFront 4 xs ys → line_with wire xs ≡ line_with wire ys
line_same wire xs ys h =
    let a = front_get 4 xs ys h 0 (omega arith) in
    let b = front_get 4 xs ys h 1 (omega arith) in
    let c = front_get 4 xs ys h 3 (omega arith) in
    let all = h.same in
    λ i. only_if (λ tokens. is_record (all i) tokens && is_line_of wire tokens) (Some (tokens_of (a i) (b i) (c i)))

pub lines_same : (at : ℕ) (wires : List (Option WireEnd)) (xs ys : List ℕ) → SameFront (4 * length wires) xs ys → lines_in at wires xs ≡ lines_in at wires ys
unfolding lines_in
lines_same at [] xs ys h = refl
lines_same at (wire ∷ wires) xs ys h =
    let here = line_same wire xs ys (front_shorter 4 (4 * suc (length wires)) xs ys (omega arith) h) in
    let rest = lines_same (at + 4) wires (drop 4 xs) (drop 4 ys) (front_part 4 (4 * length wires) (4 * suc (length wires)) xs ys (omega arith) h) in
    λ i. or_damaged at (here i) >>= λ line. rest i >>= λ lines. Ok (line ∷ lines)

-- ## Ports

-- the counts of a port's bytes, as they are read of its record
pub pending_count : (p : Port) → length p.pending < 2 ^ 16 → u16_at (port_bytes p) 16 ≡ length p.pending
pending_count p fits = from_le_bytes-to_le_bytes_2 (length p.pending) fits

pub outputs_count : (p : Port) → length p.outputs < 2 ^ 16 → u16_at (port_bytes p) 18 ≡ length p.outputs
outputs_count p fits = from_le_bytes-to_le_bytes_2 (length p.outputs) fits

-- what is read of a port's record, by its fields
abbrev port_of : ℕ → List ℕ → ℕ → List ℕ → Port
port_of in_base pending out_base outputs = record { pending = pending; in_base = in_base; outputs = outputs; out_base = out_base }

-- a port that has its record at the front is read alike wherever that record is
port_read_same : (base : ℕ) (xs ys : List ℕ) → SameFront 8212 xs ys → take 8212 xs ≡ port_bytes (port_at xs) → is_port_of base (port_at xs) ≡ true → port_at ys ≡ port_at xs
port_read_same base xs ys h record_is keeps =
    let p = port_at xs in
    let sizes = and_parts (nat_le (length p.pending) MAX_HELD) (nat_le (length p.outputs) MAX_HELD) (and_parts (nat_le (length p.pending) MAX_HELD && nat_le (length p.outputs) MAX_HELD) _ keeps).0 in
    let first = leb-true (length p.pending) MAX_HELD sizes.0 in
    let second = leb-true (length p.outputs) MAX_HELD sizes.1 in
    let many : u16_at xs 16 ≡ length p.pending =
    u16_front 16 8212 xs (take 8212 xs) (omega arith) (whole_front 8212 xs) ∙ ap (λ zs. u16_at zs 16) record_is ∙ pending_count p (omega arith) in
    let more : u16_at xs 18 ≡ length p.outputs =
    u16_front 18 8212 xs (take 8212 xs) (omega arith) (whole_front 8212 xs) ∙ ap (λ zs. u16_at zs 18) record_is ∙ outputs_count p (omega arith) in
    let pending = front_part 20 (u16_at xs 16) 8212 xs ys (omega arith) h in
    let outputs = front_part 4116 (u16_at xs 18) 8212 xs ys (omega arith) h in
    let a = u64_front 0 8212 xs ys (omega arith) h in
    let b = u64_front 8 8212 xs ys (omega arith) h in
    let c = u16_front 16 8212 xs ys (omega arith) h in
    let d = u16_front 18 8212 xs ys (omega arith) h in
    let front : take (u16_at ys 16) (drop 20 ys) ≡ take (u16_at xs 16) (drop 20 xs) = ap (λ k. take k (drop 20 ys)) (sym c) ∙ sym pending.same in
    let back : take (u16_at ys 18) (drop 4116 ys) ≡ take (u16_at xs 18) (drop 4116 xs) = ap (λ k. take k (drop 4116 ys)) (sym d) ∙ sym outputs.same in
    let e = sym a in
    let f = sym b in
    λ i. port_of (e i) (front i) (f i) (back i)

port_test : (test : Bool) (read port : Port) → only_if (λ p. test) (Some read) ≡ Some port → (test ≡ true) × (read ≡ port)
port_test true read port e = (refl, cc)
port_test false read port e = cc

port_same : (base : ℕ) (xs ys : List ℕ) (port : Port) → SameFront 8212 xs ys → port_with base xs ≡ Some port → port_with base ys ≡ Some port
port_same base xs ys port h is =
    let p = port_at xs in
    let found = port_test (bytes_eq (take 8212 xs) (port_bytes p) && is_port_of base p) p port is in
    let tests = and_parts (bytes_eq (take 8212 xs) (port_bytes p)) (is_port_of base p) found.0 in
    let read = port_read_same base xs ys h ((bytes_eq-Decides (take 8212 xs) (port_bytes p)).0 tests.0) tests.1 in
    let all = sym h.same in
    (λ i. only_if (λ q. bytes_eq (all i) (port_bytes q) && is_port_of base q) (Some (read i))) ∙ is

ports_same : (base at count : ℕ) (xs ys : List ℕ) (ports : List Port) → SameFront (8212 * count) xs ys → ports_in base at count xs ≡ Ok ports → ports_in base at count ys ≡ Ok ports
unfolding ports_in
ports_same base at zero xs ys ports h is = is
ports_same base at (suc count) xs ys ports h is =
    let first = bind_ok (or_damaged at (port_with base xs)) (λ port. ports_in base (at + 8212) count (drop 8212 xs) >>= λ ports. Ok (port ∷ ports)) ports is in
    let rest = bind_ok (ports_in base (at + 8212) count (drop 8212 xs)) (λ ports. Ok (first.0 ∷ ports)) ports first.2 in
    let here = port_same base xs ys first.0 (front_shorter 8212 (8212 * suc count) xs ys (omega arith) h) (or_damaged_ok at (port_with base xs) first.0 first.1) in
    let behind = ports_same base (at + 8212) count (drop 8212 xs) (drop 8212 ys) rest.0 (front_part 8212 (8212 * count) (8212 * suc count) xs ys (omega arith) h) rest.1 in
    (λ i. or_damaged at (here i) >>= λ port. ports_in base (at + 8212) count (drop 8212 ys) >>= λ ports. Ok (port ∷ ports))
    ∙ (λ i. behind i >>= λ ports. Ok (first.0 ∷ ports))
    ∙ rest.2

-- ## The cut

-- The cut is read alike in contents that agree before the groups.
pub cut_same : (E : EndsSeen NodeState) (t : Topology) (at : ℕ) (xs ys : List ℕ) (s : Network NodeState) → length t.wires ≡ line_count t
    → SameFront (groups_place t) xs ys → cut_in E t at xs ≡ Ok s → cut_in E t at ys ≡ Ok s
unfolding cut_in
cut_same E t at xs ys s lines h is =
    let images = sum_by image_length t.pages in
    let field : base_field ys ≡ base_field xs = sym (u64_front 12 (groups_place t) xs ys (omega arith) h) in
    let base : base_of ys ≡ base_of xs = ap (λ n. n % NUMBER_LIMIT) field in
    let n = bind_ok (nodes_in (at + nodes_place) t.pages (drop nodes_place xs)) _ s is in
    let l = bind_ok (lines_in (at + lines_place t) t.wires (drop (lines_place t) xs)) _ s n.2 in
    let p = bind_ok (ports_in (base_of xs) (at + ports_place t) t.ports (drop (ports_place t) xs)) _ s l.2 in
    let same_nodes = sym (nodes_same (at + nodes_place) t.pages (drop nodes_place xs) (drop nodes_place ys) (front_part nodes_place images (groups_place t) xs ys (omega arith) h)) ∙ n.1 in
    let same_lines = sym (lines_same (at + lines_place t) t.wires (drop (lines_place t) xs) (drop (lines_place t) ys) (front_part (lines_place t) (4 * length t.wires) (groups_place t) xs ys (omega arith) h)) ∙ l.1 in
    let same_ports = ports_same (base_of xs) (at + ports_place t) t.ports (drop (ports_place t) xs) (drop (ports_place t) ys) p.0 (front_part (ports_place t) (8212 * t.ports) (groups_place t) xs ys (omega arith) h) p.1 in
    (λ i. same_nodes i >>= λ nodes. lines_in (at + lines_place t) t.wires (drop (lines_place t) ys) >>= λ lines. ports_in (base_of ys) (at + ports_place t) t.ports (drop (ports_place t) ys) >>= λ ports. flights_in E (network_of t nodes lines ports) (at + lines_place t) 0 (line_count t) >>= λ sound. Ok (network_of t nodes lines ports))
    ∙ (λ i. same_lines i >>= λ lines. ports_in (base i) (at + ports_place t) t.ports (drop (ports_place t) ys) >>= λ ports. flights_in E (network_of t n.0 lines ports) (at + lines_place t) 0 (line_count t) >>= λ sound. Ok (network_of t n.0 lines ports))
    ∙ (λ i. same_ports i >>= λ ports. flights_in E (network_of t n.0 l.0 ports) (at + lines_place t) 0 (line_count t) >>= λ sound. Ok (network_of t n.0 l.0 ports))
    ∙ p.2
