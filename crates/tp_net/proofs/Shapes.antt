-- What the lines of a text declare is a topology, as far as it goes.
use Rattle.std.proofs.Common.{◌≡◌, ℕ, zero, suc, ◌+◌, ◌-◌, ◌*◌, ◌/◌, ◌%◌, ◌<◌, ◌≤◌, Bool, true, false, cond, List, [], ◌∷◌, ◌++◌, length, get_or, map, refl, sym, ap, subst, ◌∙◌, arith, Option, Some, None, Result, Ok, Err}
use Rattle.std.specs.Prelude.{◌&&◌, ◌||◌, ◌==◌, not, nat_lt, nat_le, bytes_eq, codes, IfOk}
use Rattle.tp_net.proofs.Lower.{list_all, slice_split, range_with_len, option_map, digits_value, and_parts, and_from, or_parts, not-false, eq-eqb, ltb-true, ltb-false, lt-ltb, leb-true, leb-false, le-leb, cond-true, cond-false, false≢true, le-ltb, eqb-false, length_push, length-map, map-append, length-map-range_with_len, get_or-map-range_with_len, position-Some, WireEnd, Link, AtPort, NetFault, Syntax, TwoWires, UnknownNode, TooMany, MAX_NODES, MAX_PORTS, ◌>>=◌, receiver, line_of, is_end, is_page_count, is_topology, is_line, joins_link, leads_back, all_lead_back, end_of, words, has_space_around, is_skipped, is_digit, is_name, is_pages, is_link_digit, named_parts, named_end, Said, node_named, port_named, is_known, end_named, same_end, are_ports, end_has_wire, after_node, after_port, wire_joined, after_ends, after_wire, after_words, after_line, read_lines, other_end, topology_of, finished, nothing_said}
use Rattle.tp_net.proofs.Wired.{Apart, Joined, apart_push, joined_more, joined_push, other_end-back, other_end-there}

-- the numbers are within their limits, and the wires lead from ends that exist to others, none of them twice
pub record Good (said : Said) : Type 0 where
  pub nodes : length said.nodes ≤ MAX_NODES
  pub ports : length said.ports ≤ MAX_PORTS
  pub pages : list_all is_page_count (map (λ node. node.1) said.nodes) ≡ true
  pub apart : Apart said.wires
  pub joined : Joined (length said.nodes) (length said.ports) said.wires

pub Good-nothing : Good nothing_said
Good-nothing = record { nodes = omega arith; ports = omega arith; pages = refl; apart = tt; joined = tt }

-- ## Steps that may fail

err_ok : {A E : Type 0} (e : E) (x : A) → ◌≡◌ {A = Result A E} (Err e) (Ok x) → ⊥
err_ok e x h = cc

same_Ok : {A E : Type 0} (x y : A) → ◌≡◌ {A = Result A E} (Ok x) (Ok y) → x ≡ y
same_Ok x y h = cc

not_refused : {A E : Type 0} (b : Bool) (e : E) (r : Result A E) (x : A) → cond b (Err e) r ≡ Ok x → (b ≡ false) × (r ≡ Ok x)
not_refused true e r x h = absurd (err_ok e x h)
not_refused false e r x h = (refl, h)

granted : {A E : Type 0} (b : Bool) (e : E) (r : Result A E) (x : A) → cond b r (Err e) ≡ Ok x → (b ≡ true) × (r ≡ Ok x)
granted true e r x h = (refl, h)
granted false e r x h = absurd (err_ok e x h)

-- ## A node and a port

all_push : {X : Type 0} (p : X → Bool) (x : X) (xs : List X) → list_all p xs ≡ true → p x ≡ true → list_all p (xs ++ x ∷ []) ≡ true
all_push p x [] all one = and_from (p x) true one refl
all_push p x (y ∷ ys) all one =
    let parts = and_parts (p y) (list_all p ys) all in and_from (p y) (list_all p (ys ++ x ∷ [])) parts.0 (all_push p x ys parts.1 one)

node_good : (said : Said) (number : ℕ) (name pages : List ℕ) (after : Said) → after_node said number name pages ≡ Ok after → Good said → Good after
node_good said number name pages after h good =
    let grown : Said = record said { nodes = said.nodes ++ (name, digits_value 10 pages) ∷ [] } in
    let known = not_refused (not (is_name name && is_pages pages) || is_known said name) (Syntax number) (cond (nat_le MAX_NODES (length said.nodes)) (Err TooMany) (Ok grown)) after h in
    let few = not_refused (nat_le MAX_NODES (length said.nodes)) TooMany (Ok grown) after known.1 in
    let below = leb-false MAX_NODES (length said.nodes) few.0 in
    let spelt = and_parts (is_name name) (is_pages pages) (not-false (is_name name && is_pages pages) (or_parts (not (is_name name && is_pages pages)) (is_known said name) known.0).0) in
    let count = and_parts (not (get_or pages 0 0 == 48)) (is_page_count (digits_value 10 pages)) (and_parts (list_all is_digit pages) (not (get_or pages 0 0 == 48) && is_page_count (digits_value 10 pages)) spelt.1).1 in
    let more : length grown.nodes ≡ length said.nodes + 1 = length_push said.nodes (name, digits_value 10 pages) in
    subst Good (same_Ok grown after few.1)
    (record {
      nodes = omega arith;
      ports = good.ports;
      pages = subst (λ (ps : List ℕ). list_all is_page_count ps ≡ true) (sym (map-append (λ (node : List ℕ × ℕ). node.1) said.nodes ((name, digits_value 10 pages) ∷ [])))
          (all_push is_page_count (digits_value 10 pages) (map (λ node. node.1) said.nodes) good.pages count.1);
      apart = good.apart;
      joined = joined_more (length said.nodes) (length said.ports) (length grown.nodes) (length grown.ports) said.wires (omega arith) (omega arith) good.joined;
    })

port_good : (said : Said) (number : ℕ) (name : List ℕ) (after : Said) → after_port said number name ≡ Ok after → Good said → Good after
port_good said number name after h good =
    let grown : Said = record said { ports = said.ports ++ name ∷ [] } in
    let known = not_refused (not (is_name name) || is_known said name) (Syntax number) (cond (nat_le MAX_PORTS (length said.ports)) (Err TooMany) (Ok grown)) after h in
    let few = not_refused (nat_le MAX_PORTS (length said.ports)) TooMany (Ok grown) after known.1 in
    let below = leb-false MAX_PORTS (length said.ports) few.0 in
    let more : length grown.ports ≡ length said.ports + 1 = length_push said.ports name in
    subst Good (same_Ok grown after few.1)
    (record {
      nodes = good.nodes;
      ports = omega arith;
      pages = good.pages;
      apart = good.apart;
      joined = joined_more (length said.nodes) (length said.ports) (length grown.nodes) (length grown.ports) said.wires (omega arith) (omega arith) good.joined;
    })

-- ## A wire

-- an end that is named is there
abbrev IsThere : Said → Option WireEnd → Type 0
IsThere said None = Unit {0}
IsThere said (Some end) = is_end (length said.nodes) (length said.ports) end ≡ true

-- the number of a link, if one is named
abbrev HasLink : Option (List ℕ × Option ℕ) → Type 0
HasLink None = Unit {0}
HasLink (Some (name, None)) = Unit {0}
HasLink (Some (name, Some k)) = k < 4

bare_name : (name : List ℕ) (b : Bool) → HasLink (cond b (Some (name, None)) None)
bare_name name true = tt
bare_name name false = tt

digit_name : (name : List ℕ) (digit : ℕ) (a b : Bool) → is_link_digit digit ≡ b → HasLink (cond (a && b) (Some (name, Some (digit - 48))) None)
digit_name name digit true true h =
    let parts = and_parts (nat_le 48 digit) (nat_le digit 51) h in
    let low = leb-true 48 digit parts.0 in
    let high = leb-true digit 51 parts.1 in omega arith
digit_name name digit true false h = tt
digit_name name digit false b h = tt

parts_link : (parts : List (List ℕ)) → HasLink (named_parts parts)
parts_link [] = tt
parts_link (name ∷ []) = bare_name name (is_name name)
parts_link (name ∷ [] ∷ []) = tt
parts_link (name ∷ (digit ∷ []) ∷ []) = digit_name name digit (is_name name) (is_link_digit digit) refl
parts_link (name ∷ (digit ∷ other ∷ more) ∷ []) = tt
parts_link (name ∷ [] ∷ third ∷ more) = tt
parts_link (name ∷ (digit ∷ []) ∷ third ∷ more) = tt
parts_link (name ∷ (digit ∷ other ∷ rest) ∷ third ∷ more) = tt

link_there : (said : Said) (name : List ℕ) (k : ℕ) (o : Option ℕ) → node_named said name ≡ o → k < 4 → IsThere said (option_map (λ i. Link i k) o)
link_there said name k None h small = tt
link_there said name k (Some i) h small =
    let at = position-Some (λ (node : List ℕ × ℕ). bytes_eq name node.0) said.nodes i ([], 0) h in
    and_from (nat_lt i (length said.nodes)) (nat_lt k 4) (lt-ltb i (length said.nodes) at.0) (lt-ltb k 4 small)

port_there : (said : Said) (name : List ℕ) (o : Option ℕ) → port_named said name ≡ o → IsThere said (option_map AtPort o)
port_there said name None h = tt
port_there said name (Some p) h =
    let at = position-Some (λ port. bytes_eq name port) said.ports p [] h in lt-ltb p (length said.ports) at.0

end_there : (said : Said) (end : List ℕ × Option ℕ) → HasLink (Some end) → IsThere said (end_named said end)
end_there said (name, None) h = port_there said name (port_named said name) refl
end_there said (name, Some k) h = link_there said name k (node_named said name) refl h

join_good : (said : Said) (number : ℕ) (first second : Option WireEnd) (after : Said) → IsThere said first → IsThere said second
    → wire_joined said number first second ≡ Ok after → Good said → Good after
join_good said number None second after one two h good = absurd (err_ok (Syntax number) after h)
join_good said number (Some first) None after one two h good = absurd (err_ok (Syntax number) after h)
join_good said number (Some first) (Some second) after one two h good =
    let grown : Said = record said { wires = said.wires ++ (first, second) ∷ [] } in
    let taken = same_end first second || (end_has_wire said first || end_has_wire said second) in
    let kinds = not_refused (are_ports first second) (Syntax number) (cond taken (Err TwoWires) (Ok grown)) after h in
    let free = not_refused taken TwoWires (Ok grown) after kinds.1 in
    let parts = or_parts (same_end first second) (end_has_wire said first || end_has_wire said second) free.0 in
    let ends = or_parts (end_has_wire said first) (end_has_wire said second) parts.1 in
    subst Good (same_Ok grown after free.1)
    (record {
      nodes = good.nodes;
      ports = good.ports;
      pages = good.pages;
      apart = apart_push first second said.wires good.apart parts.0 ends.0 ends.1;
      joined = joined_push (length said.nodes) (length said.ports) first second said.wires good.joined one two kinds.0;
    })

wire_good : (said : Said) (number : ℕ) (first second : Option (List ℕ × Option ℕ)) (after : Said) → HasLink first → HasLink second
    → after_ends said number first second ≡ Ok after → Good said → Good after
wire_good said number None second after one two h good = absurd (err_ok (Syntax number) after h)
wire_good said number (Some first) None after one two h good = absurd (err_ok (Syntax number) after h)
wire_good said number (Some first) (Some second) after one two h good =
    let known = granted (is_known said first.0 && is_known said second.0) UnknownNode (wire_joined said number (end_named said first) (end_named said second)) after h in
    join_good said number (end_named said first) (end_named said second) after (end_there said first one) (end_there said second two) known.1 good

-- ## A line, and all lines

pair_good : (said : Said) (number : ℕ) (kind name : List ℕ) (after : Said) → after_words said number (kind ∷ name ∷ []) ≡ Ok after → Good said → Good after
pair_good said number kind name after h good =
    let is = granted (bytes_eq kind (codes "port")) (Syntax number) (after_port said number name) after h in
    port_good said number name after is.1 good

triple_from : (said : Said) (number : ℕ) (first second : List ℕ) (after : Said) (node wire : Bool)
    → cond node (after_node said number first second) (cond wire (after_wire said number first second) (Err (Syntax number))) ≡ Ok after → Good said → Good after
triple_from said number first second after true wire h good = node_good said number first second after h good
triple_from said number first second after false wire h good =
    let is = granted wire (Syntax number) (after_wire said number first second) after h in
    let parts : List ℕ → List (List ℕ) = λ word. slice_split (λ byte. byte == 46) word in
    wire_good said number (named_end first) (named_end second) after (parts_link (parts first)) (parts_link (parts second)) is.1 good

words_good : (said : Said) (number : ℕ) (ws : List (List ℕ)) (after : Said) → after_words said number ws ≡ Ok after → Good said → Good after
words_good said number [] after h good = absurd (err_ok (Syntax number) after h)
words_good said number (a ∷ []) after h good = absurd (err_ok (Syntax number) after h)
words_good said number (a ∷ b ∷ []) after h good = pair_good said number a b after h good
words_good said number (a ∷ b ∷ c ∷ []) after h good = triple_from said number b c after (bytes_eq a (codes "node")) (bytes_eq a (codes "wire")) h good
words_good said number (a ∷ b ∷ c ∷ d ∷ more) after h good = absurd (err_ok (Syntax number) after h)

line_from : (said : Said) (number : ℕ) (line : List ℕ) (after : Said) (skipped spaced : Bool)
    → cond skipped (Ok said) (cond spaced (Err (Syntax number)) (after_words said number (words line))) ≡ Ok after → Good said → Good after
line_from said number line after true spaced h good = subst Good (same_Ok said after h) good
line_from said number line after false spaced h good =
    words_good said number (words line) after (not_refused spaced (Syntax number) (after_words said number (words line)) after h).1 good

line_good : (said : Said) (number : ℕ) (line : List ℕ) (after : Said) → after_line said number line ≡ Ok after → Good said → Good after
unfolding after_line
line_good said number line after h good = line_from said number line after (is_skipped line) (has_space_around line) h good

lines_from : (number : ℕ) (rest : List (List ℕ)) (r : Result Said NetFault) (end : Said) → (r >>= (λ after. read_lines after (number + 1) rest)) ≡ Ok end
    → (after : Said) × (r ≡ Ok after) × (read_lines after (number + 1) rest ≡ Ok end)
lines_from number rest (Ok after) end h = (after, refl, h)
lines_from number rest (Err fault) end h = absurd (err_ok fault end h)

pub lines_good : (said : Said) (number : ℕ) (ls : List (List ℕ)) (end : Said) → read_lines said number ls ≡ Ok end → Good said → Good end
unfolding read_lines
lines_good said number [] end h good = subst Good (same_Ok said end h) good
lines_good said number (line ∷ rest) end h good =
    let step = lines_from number rest (after_line said number line) end h in
    lines_good step.0 (number + 1) rest end step.2 (line_good said number line step.0 step.1 good)

-- ## The topology of what was declared

line_from_end : (N line : ℕ) (b : Bool) → nat_lt line (4 * N) ≡ b → line_of N (cond b (Link (line / 4) (line % 4)) (AtPort (line - 4 * N))) ≡ line
line_from_end N line true h = omega arith
line_from_end N line false h = let above = ltb-false line (4 * N) h in omega arith

line_of-end_of : (N line : ℕ) → line_of N (end_of N line) ≡ line
line_of-end_of N line = line_from_end N line (nat_lt line (4 * N)) refl

end_of-line_of : (N H : ℕ) (end : WireEnd) → is_end N H end ≡ true → end_of N (line_of N end) ≡ end
end_of-line_of N H (Link i k) h =
    let parts = and_parts (nat_lt i N) (nat_lt k 4) h in
    let node = ltb-true i N parts.0 in
    let link = ltb-true k 4 parts.1 in
    let below : 4 * i + k < 4 * N = omega arith in
    let quotient : (4 * i + k) / 4 ≡ i = omega arith in
    let rest : (4 * i + k) % 4 ≡ k = omega arith in
    cond-true (nat_lt (4 * i + k) (4 * N)) (Link ((4 * i + k) / 4) ((4 * i + k) % 4)) (AtPort (4 * i + k - 4 * N)) (lt-ltb (4 * i + k) (4 * N) below)
    ∙ ap (λ n. Link n ((4 * i + k) % 4)) quotient ∙ ap (λ n. Link i n) rest
end_of-line_of N H (AtPort p) h =
    let minus : 4 * N + p - 4 * N ≡ p = omega arith in
    cond-false (nat_lt (4 * N + p) (4 * N)) (Link ((4 * N + p) / 4) ((4 * N + p) % 4)) (AtPort (4 * N + p - 4 * N)) (le-ltb (4 * N + p) (4 * N) (omega arith))
    ∙ ap (λ n. AtPort n) minus

line_of-below : (N H : ℕ) (end : WireEnd) → is_end N H end ≡ true → line_of N end < 4 * N + H
line_of-below N H (Link i k) h =
    let parts = and_parts (nat_lt i N) (nat_lt k 4) h in
    let node = ltb-true i N parts.0 in
    let link = ltb-true k 4 parts.1 in omega arith
line_of-below N H (AtPort p) h = let below = ltb-true p H h in omega arith

-- not from a port to a port
joins_from : (N line : ℕ) (other : WireEnd) (b : Bool) → nat_lt line (4 * N) ≡ b → are_ports (cond b (Link (line / 4) (line % 4)) (AtPort (line - 4 * N))) other ≡ false
    → joins_link N line other ≡ true
joins_from N line (Link i k) b below h = refl
joins_from N line (AtPort p) true below h = below
joins_from N line (AtPort p) false below h = absurd (false≢true (sym h))

back_from_other : (N H line : ℕ) (ws : List (WireEnd × WireEnd)) (o : Option WireEnd) → Apart ws → Joined N H ws → other_end (end_of N line) ws ≡ o
    → leads_back N H (map (λ l. other_end (end_of N l) ws) (range_with_len 0 (4 * N + H))) line o ≡ true
back_from_other N H line ws None apart wire_joined h = refl
back_from_other N H line ws (Some other) apart wire_joined h =
    let all = map (λ l. other_end (end_of N l) ws) (range_with_len 0 (4 * N + H)) in
    let there = other_end-there N H (end_of N line) other ws wire_joined h in
    let back : receiver all (line_of N other) ≡ Some (end_of N line) =
    get_or-map-range_with_len (λ l. other_end (end_of N l) ws) 0 (4 * N + H) (line_of N other) (line_of N other) None (line_of-below N H other there.0) (omega arith)
    ∙ ap (λ end. other_end end ws) (end_of-line_of N H other there.0)
    ∙ other_end-back (end_of N line) other ws apart h in
    and_from (is_end N H other && joins_link N line other) (is_line line (option_map (line_of N) (receiver all (line_of N other))))
    (and_from (is_end N H other) (joins_link N line other) there.0 (joins_from N line other (nat_lt line (4 * N)) refl there.1))
    (ap (λ end. is_line line (option_map (line_of N) end)) back ∙ eq-eqb (line_of N (end_of N line)) line (line_of-end_of N line))

all_back : (N H line count : ℕ) (ws : List (WireEnd × WireEnd)) → Apart ws → Joined N H ws
    → all_lead_back N H (map (λ l. other_end (end_of N l) ws) (range_with_len 0 (4 * N + H))) line (map (λ l. other_end (end_of N l) ws) (range_with_len line count)) ≡ true
unfolding all_lead_back
all_back N H line zero ws apart wire_joined = refl
all_back N H line (suc count) ws apart wire_joined =
    let all = map (λ l. other_end (end_of N l) ws) (range_with_len 0 (4 * N + H)) in
    and_from (leads_back N H all line (other_end (end_of N line) ws)) (all_lead_back N H all (line + 1) (map (λ l. other_end (end_of N l) ws) (range_with_len (line + 1) count)))
    (back_from_other N H line ws (other_end (end_of N line) ws) apart wire_joined refl) (all_back N H (line + 1) count ws apart wire_joined)

shape_from : (pages : List ℕ) (ports : ℕ) (wires : List (Option WireEnd)) (N : ℕ) → length pages ≡ N → 1 ≤ N → N ≤ MAX_NODES → 1 ≤ ports → ports ≤ MAX_PORTS
    → list_all is_page_count pages ≡ true → length wires ≡ 4 * N + ports → all_lead_back N ports wires 0 wires ≡ true
    → is_topology (record { pages = pages; ports = ports; wires = wires }) ≡ true
unfolding is_topology
shape_from pages ports wires N count some few any not_many good lines_there back =
    and_from (nat_le 1 (length pages) && nat_le (length pages) MAX_NODES) ((nat_le 1 ports && nat_le ports MAX_PORTS)
    && (list_all is_page_count pages && (length wires == 4 * length pages + ports && all_lead_back (length pages) ports wires 0 wires)))
    (and_from (nat_le 1 (length pages)) (nat_le (length pages) MAX_NODES) (le-leb 1 (length pages) (omega arith)) (le-leb (length pages) MAX_NODES (omega arith)))
    (and_from (nat_le 1 ports && nat_le ports MAX_PORTS) (list_all is_page_count pages && (length wires == 4 * length pages + ports && all_lead_back (length pages) ports wires 0 wires))
    (and_from (nat_le 1 ports) (nat_le ports MAX_PORTS) (le-leb 1 ports any) (le-leb ports MAX_PORTS not_many))
    (and_from (list_all is_page_count pages) (length wires == 4 * length pages + ports && all_lead_back (length pages) ports wires 0 wires) good
    (and_from (length wires == 4 * length pages + ports) (all_lead_back (length pages) ports wires 0 wires)
    (eq-eqb (length wires) (4 * length pages + ports) (lines_there ∙ ap (λ n. 4 * n + ports) (sym count)))
    (subst (λ n. all_lead_back n ports wires 0 wires ≡ true) (sym count) back))))

shape_said : (said : Said) → Good said → 1 ≤ length said.nodes → 1 ≤ length said.ports → is_topology (topology_of said) ≡ true
shape_said said good some any =
    let N = length said.nodes in
    let H = length said.ports in
    let wires = map (λ line. other_end (end_of N line) said.wires) (range_with_len 0 (4 * N + H)) in
    shape_from (map (λ node. node.1) said.nodes) H wires N (length-map said.nodes (λ node. node.1)) some good.nodes any good.ports good.pages
    (length-map-range_with_len (λ line. other_end (end_of N line) said.wires) 0 (4 * N + H)) (all_back N H 0 (4 * N + H) said.wires good.apart good.joined)

none_below : (n : ℕ) → (n == 0) ≡ false → 1 ≤ n
none_below n h = let some = eqb-false n 0 h in omega arith

finish_from : (said : Said) (b : Bool) → (length said.nodes == 0 || length said.ports == 0) ≡ b → Good said
    → IfOk (cond b (Err (Syntax 0)) (Ok (topology_of said))) (λ t. is_topology t ≡ true)
finish_from said true h good = tt
finish_from said false h good =
    let parts = or_parts (length said.nodes == 0) (length said.ports == 0) h in
    shape_said said good (none_below (length said.nodes) parts.0) (none_below (length said.ports) parts.1)

-- what lines declare is a topology, if it has a node and a port
pub shape_of_lines : (ls : List (List ℕ)) (said : Said) → read_lines nothing_said 1 ls ≡ Ok said → IfOk (finished said) (λ t. is_topology t ≡ true)
shape_of_lines ls said h =
    finish_from said (length said.nodes == 0 || length said.ports == 0) refl (lines_good nothing_said 1 ls said h Good-nothing)
