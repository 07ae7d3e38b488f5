-- The records of a cut, one kind after the other.
use Rattle.std.proofs.Common.{◌≡◌, ℕ, zero, suc, ◌+◌, ◌-◌, ◌*◌, ◌≤◌, List, length, take, drop, refl, sym, ap, ◌∙◌, arith, subst, Bool, Option, Ok, Err}
use Rattle.std.specs.Prelude.{Result, sum_by}
use Rattle.tp_recover.proofs.Lower.{drop-take, drop-drop, take-take, TwoAreas, Token, OpenFault, WireEnd, PORT_BYTES, nodes_in, lines_in, ports_in, port_with, or_damaged, area_start, content_of, Moment, flights_in, cut_length, image_length, Network, Port, NodeState, base_of, cut_in, lines_place, nodes_place, ports_place, ◌>>=◌, EndsSeen, Topology, line_count, front_shorter, whole_front, nodes_same, Places, port_with-take}
use Rattle.tp_recover.specs.declared.unopened.Unopened.{Unopened}
use Rattle.tp_recover.specs.Cuts.{records_at, three, wired}
use Rattle.tp_recover.specs.Reading.{ReadAnswer}
use Rattle.tp_recover.proofs.Passing.{passed}
use Rattle.tp_recover.proofs.Records.{lines_in-take, with_first}

-- ## Where a reading breaks off

pub first_error : {A B C D Y : Type 0} (seen_then : Y → D) (a : Result A OpenFault) (b : Result B OpenFault) (c : Result C OpenFault) (f : A → B → C → D) (error : Unopened) (answer : Result Y Unopened)
    → ReadAnswer (λ (x : A). x) a (Err error) → answer ≡ Err error → ReadAnswer seen_then (three a b c f) answer
first_error {A} seen_then a b c f error answer read told = passed (λ (x : A). x) seen_then a (λ x. b >>= (λ y. c >>= (λ z. Ok (f x y z)))) error answer read told

pub second_error : {A B C D Y : Type 0} (seen_then : Y → D) (a : Result A OpenFault) (x : A) (b then : Result B OpenFault) (c : Result C OpenFault) (f : A → B → C → D) (error : Unopened) (answer : Result Y Unopened)
    → a ≡ Ok x → then ≡ b → ReadAnswer (λ (x : B). x) then (Err error) → answer ≡ Err error → ReadAnswer seen_then (three a b c f) answer
second_error {A} {B} seen_then a x b then c f error answer is same read told =
    rw is (passed (λ (x : B). x) seen_then b (λ y. c >>= (λ z. Ok (f x y z))) error answer (subst (λ r. ReadAnswer (λ (x : B). x) r (Err error)) same read) told)

pub third_error : {A B C D Y : Type 0} (seen_then : Y → D) (a : Result A OpenFault) (x : A) (b : Result B OpenFault) (y : B) (c then : Result C OpenFault) (f : A → B → C → D) (error : Unopened) (answer : Result Y Unopened)
    → a ≡ Ok x → b ≡ Ok y → then ≡ c → ReadAnswer (λ (x : C). x) then (Err error) → answer ≡ Err error → ReadAnswer seen_then (three a b c f) answer
third_error {A} {B} {C} seen_then a x b y c then f error answer is then_is same read told =
    rw (is, then_is) (passed (λ (x : C). x) seen_then c (λ z. Ok (f x y z)) error answer (subst (λ r. ReadAnswer (λ (x : C). x) r (Err error)) same read) told)

pub all_read : {A B C D : Type 0} (a : Result A OpenFault) (x : A) (b : Result B OpenFault) (y : B) (c : Result C OpenFault) (z : C) (f : A → B → C → D)
    → a ≡ Ok x → b ≡ Ok y → c ≡ Ok z → three a b c f ≡ Ok (f x y z)
all_read a x b y c z f is then_is last_is = rw (is, then_is, last_is) refl

-- ## At another moment

pub lines_then : (at : ℕ) (wires : List (Option WireEnd)) (old now : Moment) → now ≡ old → lines_in at wires (drop at now.bytes) ≡ lines_in at wires (drop at old.bytes)
lines_then at wires old now is = ap (λ m. lines_in at wires (drop at m.bytes)) is

pub ports_then : (base at count : ℕ) (old now : Moment) → now ≡ old → ports_in base at count (drop at now.bytes) ≡ ports_in base at count (drop at old.bytes)
ports_then base at count old now is = ap (λ m. ports_in base at count (drop at m.bytes)) is

-- ## In a content

nodes_in-take : (at m : ℕ) (pages bytes : List ℕ) → sum_by image_length pages ≤ m → nodes_in at pages (take m bytes) ≡ nodes_in at pages bytes
nodes_in-take at m pages bytes le = sym (nodes_same at pages bytes (take m bytes) (front_shorter (sum_by image_length pages) m bytes (take m bytes) le (whole_front m bytes)))

ports_in-take : (base at count m : ℕ) (bytes : List ℕ) → PORT_BYTES * count ≤ m → ports_in base at count (take m bytes) ≡ ports_in base at count bytes
unfolding ports_in
ports_in-take base at zero m bytes le = refl
ports_in-take base at (suc count) m bytes le =
    let whole : m ≡ PORT_BYTES + (m - PORT_BYTES) = omega arith in
    let one : port_with base (take m bytes) ≡ port_with base bytes =
    sym (port_with-take base (take m bytes)) ∙ ap (port_with base) (take-take PORT_BYTES m bytes (omega arith)) ∙ port_with-take base bytes in
    let rest : drop PORT_BYTES (take m bytes) ≡ take (m - PORT_BYTES) (drop PORT_BYTES bytes) = ap (λ k. drop PORT_BYTES (take k bytes)) whole ∙ drop-take PORT_BYTES (m - PORT_BYTES) bytes in
    ap (λ o. or_damaged at o >>= (λ port. with_first port (ports_in base (at + PORT_BYTES) count (drop PORT_BYTES (take m bytes))))) one
    ∙ ap (λ ys. or_damaged at (port_with base bytes) >>= (λ port. with_first port (ports_in base (at + PORT_BYTES) count ys))) rest
    ∙ ap (λ given. or_damaged at (port_with base bytes) >>= (λ port. with_first port given)) (ports_in-take base (at + PORT_BYTES) count (m - PORT_BYTES) (drop PORT_BYTES bytes) (omega arith))

-- what comes after a place of a content
behind_place : (k m start there : ℕ) (xs : List ℕ) → k ≤ m → there ≡ start + k → drop k (take m (drop start xs)) ≡ take (m - k) (drop there xs)
behind_place k m start there xs le is =
    let whole : m ≡ k + (m - k) = omega arith in
    ap (λ n. drop k (take n (drop start xs))) whole ∙ drop-take k (m - k) (drop start xs) ∙ ap (take (m - k)) (drop-drop k start xs ∙ ap (λ n. drop n xs) (sym is))

three_then : {A B C D F : Type 0} (a : Result A OpenFault) (b : Result B OpenFault) (c : Result C OpenFault) (f : A → B → C → D) (g : D → Result F OpenFault)
    → (a >>= (λ x. b >>= (λ y. c >>= (λ z. g (f x y z))))) ≡ (three a b c f >>= g)
three_then (Ok x) (Ok y) (Ok z) f g = refl
three_then (Ok x) (Ok y) (Err fault) f g = refl
three_then (Ok x) (Err fault) c f g = refl
three_then (Err fault) b c f g = refl

-- the test of a network, once its records were read
abbrev pub tested : EndsSeen NodeState → ℕ → ℕ → Network NodeState → Result (Network NodeState) OpenFault
tested E at count s = flights_in E s at 0 count >>= (λ sound. Ok s)

abbrev whole_cut : EndsSeen NodeState → ℕ → ℕ → List (Option WireEnd) → Result (List NodeState) OpenFault → Result (List (List Token)) OpenFault → Result (List Port) OpenFault → Result (Network NodeState) OpenFault
whole_cut E at count wires nodes lines ports = nodes >>= (λ x. lines >>= (λ y. ports >>= (λ z. tested E at count (wired wires x y z))))

-- the records of a content, by their places on the device
pub cut_in-records : (E : EndsSeen NodeState) (t : Topology) (areas : TwoAreas) (second : Bool) (base ports : ℕ) (pages : List ℕ) (wires : List (Option WireEnd)) (places : Places) (xs : List ℕ)
    → cut_length t + 46 ≤ areas.length → length t.wires ≡ line_count t → pages ≡ t.pages → wires ≡ t.wires → ports ≡ t.ports
    → base ≡ base_of (content_of areas second xs)
    → places.nodes ≡ area_start areas second + 1 + nodes_place → places.lines ≡ area_start areas second + 1 + lines_place t → places.ports ≡ area_start areas second + 1 + ports_place t
    → cut_in E t (area_start areas second + 1) (content_of areas second xs) ≡ (records_at pages wires ports base places xs >>= tested E places.lines (line_count t))
unfolding cut_in
cut_in-records E t areas second base ports pages wires places xs room lines p w h b at_nodes at_lines at_ports =
    let start = area_start areas second + 1 in
    let content = content_of areas second xs in
    let count = line_count t in
    let some_nodes = nodes_in places.nodes pages (drop places.nodes xs) in
    let some_lines = lines_in places.lines wires (drop places.lines xs) in
    let some_ports = ports_in base places.ports ports (drop places.ports xs) in
    let nodes_are : nodes_in (start + nodes_place) t.pages (drop nodes_place content) ≡ some_nodes =
    ap (nodes_in (start + nodes_place) t.pages) (behind_place nodes_place (areas.length - 1) start places.nodes xs (omega arith) at_nodes)
    ∙ nodes_in-take (start + nodes_place) (areas.length - 1 - nodes_place) t.pages (drop places.nodes xs) (omega arith)
    ∙ ap (λ n. nodes_in n t.pages (drop places.nodes xs)) (sym at_nodes) ∙ ap (λ ps. nodes_in places.nodes ps (drop places.nodes xs)) (sym p) in
    let lines_are : lines_in (start + lines_place t) t.wires (drop (lines_place t) content) ≡ some_lines =
    ap (lines_in (start + lines_place t) t.wires) (behind_place (lines_place t) (areas.length - 1) start places.lines xs (omega arith) at_lines)
    ∙ lines_in-take (start + lines_place t) (areas.length - 1 - lines_place t) t.wires (drop places.lines xs) (omega arith)
    ∙ ap (λ n. lines_in n t.wires (drop places.lines xs)) (sym at_lines) ∙ ap (λ ws. lines_in places.lines ws (drop places.lines xs)) (sym w) in
    let ports_are : ports_in (base_of content) (start + ports_place t) t.ports (drop (ports_place t) content) ≡ some_ports =
    ap (ports_in (base_of content) (start + ports_place t) t.ports) (behind_place (ports_place t) (areas.length - 1) start places.ports xs (omega arith) at_ports)
    ∙ ports_in-take (base_of content) (start + ports_place t) t.ports (areas.length - 1 - ports_place t) (drop places.ports xs) (omega arith)
    ∙ ap (λ n. ports_in (base_of content) n t.ports (drop places.ports xs)) (sym at_ports) ∙ ap (λ n. ports_in (base_of content) places.ports n (drop places.ports xs)) (sym h)
    ∙ ap (λ n. ports_in n places.ports ports (drop places.ports xs)) (sym b) in
    ap (λ a. whole_cut E (start + lines_place t) count t.wires a (lines_in (start + lines_place t) t.wires (drop (lines_place t) content)) (ports_in (base_of content) (start + ports_place t) t.ports (drop (ports_place t) content))) nodes_are
    ∙ ap (λ a. whole_cut E (start + lines_place t) count t.wires some_nodes a (ports_in (base_of content) (start + ports_place t) t.ports (drop (ports_place t) content))) lines_are
    ∙ ap (λ a. whole_cut E (start + lines_place t) count t.wires some_nodes some_lines a) ports_are
    ∙ ap (λ n. whole_cut E n count t.wires some_nodes some_lines some_ports) (sym at_lines)
    ∙ ap (λ ws. whole_cut E places.lines count ws some_nodes some_lines some_ports) (sym w)
    ∙ three_then some_nodes some_lines some_ports (wired wires) (tested E places.lines count)

-- ## The test of what was read

pub cut_ok : (E : EndsSeen NodeState) (at count : ℕ) (s : Network NodeState) (given records : Result (Network NodeState) OpenFault)
    → given ≡ (records >>= tested E at count) → records ≡ Ok s → (sound : Unit {0}) → flights_in E s at 0 count ≡ Ok sound → given ≡ Ok s
cut_ok E at count s given records is read sound told = is ∙ ap (λ r. r >>= tested E at count) read ∙ ap (λ r. r >>= (λ u. Ok s)) told

pub cut_fault : (E : EndsSeen NodeState) (at count : ℕ) (s : Network NodeState) (given records : Result (Network NodeState) OpenFault) (fault : OpenFault)
    → given ≡ (records >>= tested E at count) → records ≡ Ok s → flights_in E s at 0 count ≡ Err fault → given ≡ Err fault
cut_fault E at count s given records fault is read found = is ∙ ap (λ r. r >>= tested E at count) read ∙ ap (λ r. r >>= (λ u. Ok s)) found

pub cut_error : {Y : Type 0} (seen_then : Y → Network NodeState) (E : EndsSeen NodeState) (at count : ℕ) (given records : Result (Network NodeState) OpenFault) (error : Unopened) (answer : Result Y Unopened)
    → given ≡ (records >>= tested E at count) → ReadAnswer (λ (s : Network NodeState). s) records (Err error) → answer ≡ Err error → ReadAnswer seen_then given answer
cut_error seen_then E at count given records error answer is read told =
    subst (λ g. ReadAnswer seen_then g answer) (sym is) (passed (λ (s : Network NodeState). s) seen_then records (tested E at count) error answer read told)
