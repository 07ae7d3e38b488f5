-- Names in the order in which they were first seen.
use Rattle.std.proofs.Common.{◌≡◌, ℕ, suc, ◌+◌, ◌≤◌, Bool, true, false, cond, List, [], ◌∷◌, ◌++◌, length, map, refl, sym, ap, ◌∙◌, arith, Option, Some, None, is_some}
use Rattle.std.specs.Prelude.{◌||◌, nat_lt, not, position, bytes_eq}
use Rattle.tp_net.proofs.Lower.{Bor, prefix_len, position_or_len, list_any, keys_of, or_parts, true≢false, cond-false, length-map, map-append, map-map, insert_entry, insert_key, WireEnd, Said, node_named, port_named, is_known}
use Rattle.tp_net.proofs.Cuts.{none_passes}

prefix_len-map : {X Y : Type 0} (p : Y → Bool) (f : X → Y) (xs : List X) → prefix_len p (map f xs) ≡ prefix_len (λ x. p (f x)) xs
prefix_len-map p f [] = refl
prefix_len-map p f (x ∷ xs) = ap (λ n. cond (p (f x)) (1 + n) 0) (prefix_len-map p f xs)

place_of : ℕ → ℕ → Option ℕ
place_of n len = cond (nat_lt n len) (Some n) None

-- the first place of what passes, in a list and in another made of it
pub position-map : {X Y : Type 0} (p : Y → Bool) (f : X → Y) (xs : List X) → position p (map f xs) ≡ position (λ x. p (f x)) xs
unfolding place_of
position-map p f xs =
    ap (λ n. place_of n (length (map f xs))) (prefix_len-map (λ y. not (p y)) f xs) ∙ ap (λ n. place_of (prefix_len (λ x. not (p (f x))) xs) n) (length-map xs f)

-- by its key, and by what is kept of the entry
pub position-keys : (name : List ℕ) (entries : List (Bor (List ℕ) × ℕ))
    → position (λ key. bytes_eq name key.now) (keys_of entries) ≡ position {X = List ℕ × ℕ} (λ node. bytes_eq name node.0) (map (λ e. (e.0.now, e.1)) entries)
position-keys name entries =
    position-map (λ (key : Bor (List ℕ)). bytes_eq name key.now) (λ (e : Bor (List ℕ) × ℕ). e.0) entries
    ∙ sym (position-map (λ (node : List ℕ × ℕ). bytes_eq name node.0) (λ (e : Bor (List ℕ) × ℕ). (e.0.now, e.1)) entries)

-- ## A new name comes last

last_from : {K V : Type 0} (eq : K → K → Bool) (k : K) (v : V) (e : K × V) (es : List (K × V)) (b : Bool) → suc (length es) ≤ cond (not b) (1 + position_or_len (λ x. eq k x.0) es) 0
    → (length es ≤ position_or_len (λ x. eq k x.0) es → insert_entry eq es k v ≡ es ++ (k, v) ∷ [])
    → cond b ((e.0, v) ∷ es) (e ∷ insert_entry eq es k v) ≡ (e ∷ es) ++ (k, v) ∷ []
last_from eq k v e es true le more = absurd (omega arith)
last_from eq k v e es false le more = ap (λ xs. e ∷ xs) (more (omega arith))

insert_entry-last : {K V : Type 0} (eq : K → K → Bool) (k : K) (v : V) (es : List (K × V)) → length es ≤ position_or_len (λ x. eq k x.0) es
    → insert_entry eq es k v ≡ es ++ (k, v) ∷ []
insert_entry-last eq k v [] le = refl
insert_entry-last eq k v (e ∷ es) le = last_from eq k v e es (eq k e.0) le (insert_entry-last eq k v es)

none_from : {X : Type 0} (p : X → Bool) (x : X) (xs : List X) (b : Bool) → suc (length xs) ≤ cond (not b) (1 + position_or_len p xs) 0
    → (length xs ≤ position_or_len p xs → list_any p xs ≡ false) → (b || list_any p xs) ≡ false
none_from p x xs true le more = absurd (omega arith)
none_from p x xs false le more = more (omega arith)

list_any-none : {X : Type 0} (p : X → Bool) (xs : List X) → length xs ≤ position_or_len p xs → list_any p xs ≡ false
list_any-none p [] le = refl
list_any-none p (x ∷ xs) le = none_from p x xs (p x) le (list_any-none p xs)

-- keys that are texts are equal if their bytes are
abbrev same_text : Bor (List ℕ) → Bor (List ℕ) → Bool
same_text first second = bytes_eq first.now second.now

none_found : {X : Type 0} (o : Option X) → is_some o ≡ false → o ≡ None
none_found None h = refl
none_found (Some x) h = absurd (true≢false h)

-- neither a node nor a port has this name
not_node : (said : Said) (name : List ℕ) → is_known said name ≡ false → node_named said name ≡ None
not_node said name h = none_found (node_named said name) (or_parts (is_some (node_named said name)) (is_some (port_named said name)) h).0

not_port : (said : Said) (name : List ℕ) → is_known said name ≡ false → port_named said name ≡ None
not_port said name h = none_found (port_named said name) (or_parts (is_some (node_named said name)) (is_some (port_named said name)) h).1

node_last : (said : Said) (entries : List (Bor (List ℕ) × ℕ)) (name : Bor (List ℕ)) (pages : ℕ) → map (λ e. (e.0.now, e.1)) entries ≡ said.nodes
    → is_known said name.now ≡ false → insert_entry same_text entries name pages ≡ entries ++ (name, pages) ∷ []
node_last said entries name pages are unknown =
    let at : position (λ (e : Bor (List ℕ) × ℕ). bytes_eq name.now e.0.now) entries ≡ None =
    sym (position-map (λ (node : List ℕ × ℕ). bytes_eq name.now node.0) (λ (e : Bor (List ℕ) × ℕ). (e.0.now, e.1)) entries)
    ∙ ap (position (λ (node : List ℕ × ℕ). bytes_eq name.now node.0)) are ∙ not_node said name.now unknown in
    insert_entry-last same_text name pages entries (none_passes (λ (e : Bor (List ℕ) × ℕ). bytes_eq name.now e.0.now) entries at)

port_last : (said : Said) (keys : List (Bor (List ℕ))) (name : Bor (List ℕ)) → map (λ key. key.now) keys ≡ said.ports
    → is_known said name.now ≡ false → insert_key same_text keys name ≡ keys ++ name ∷ []
port_last said keys name are unknown =
    let at : position (λ (key : Bor (List ℕ)). bytes_eq name.now key.now) keys ≡ None =
    sym (position-map (λ (port : List ℕ). bytes_eq name.now port) (λ (key : Bor (List ℕ)). key.now) keys)
    ∙ ap (position (λ (port : List ℕ). bytes_eq name.now port)) are ∙ not_port said name.now unknown in
    let absent = list_any-none (λ (key : Bor (List ℕ)). bytes_eq name.now key.now) keys (none_passes (λ (key : Bor (List ℕ)). bytes_eq name.now key.now) keys at) in
    cond-false (list_any (same_text name) keys) keys (keys ++ name ∷ []) absent

-- ## What is kept after it

pub node_kept : (said : Said) (before after : List (Bor (List ℕ) × ℕ)) (ports : List (List ℕ)) (wires : List (WireEnd × WireEnd)) (name : Bor (List ℕ)) (pages : ℕ)
    → record { nodes = map (λ e. (e.0.now, e.1)) before; ports = ports; wires = wires } ≡ said → is_known said name.now ≡ false
    → after ≡ insert_entry same_text before name pages
    → record { nodes = map (λ e. (e.0.now, e.1)) after; ports = ports; wires = wires } ≡ record said { nodes = said.nodes ++ (name.now, pages) ∷ [] }
node_kept said before after ports wires name pages view unknown added =
    let f : Bor (List ℕ) × ℕ → List ℕ × ℕ = λ e. (e.0.now, e.1) in
    let kept : List (List ℕ × ℕ) → Said = λ ns. record { nodes = ns; ports = ports; wires = wires } in
    let last : after ≡ before ++ (name, pages) ∷ [] = added ∙ node_last said before name pages (ap (λ (s : Said). s.nodes) view) unknown in
    ap (λ es. kept (map f es)) last ∙ ap kept (map-append f before ((name, pages) ∷ []))
    ∙ ap (λ (s : Said). record s { nodes = s.nodes ++ (name.now, pages) ∷ [] }) view

pub port_kept : (said : Said) (before after : List (Bor (List ℕ))) (nodes : List (List ℕ × ℕ)) (wires : List (WireEnd × WireEnd)) (name : Bor (List ℕ))
    → record { nodes = nodes; ports = map (λ key. key.now) before; wires = wires } ≡ said → is_known said name.now ≡ false
    → after ≡ insert_key same_text before name
    → record { nodes = nodes; ports = map (λ key. key.now) after; wires = wires } ≡ record said { ports = said.ports ++ name.now ∷ [] }
port_kept said before after nodes wires name view unknown added =
    let f : Bor (List ℕ) → List ℕ = λ key. key.now in
    let kept : List (List ℕ) → Said = λ ns. record { nodes = nodes; ports = ns; wires = wires } in
    let last : after ≡ before ++ name ∷ [] = added ∙ port_last said before name (ap (λ (s : Said). s.ports) view) unknown in
    ap (λ ks. kept (map f ks)) last ∙ ap kept (map-append f before (name ∷ []))
    ∙ ap (λ (s : Said). record s { ports = s.ports ++ name.now ∷ [] }) view

-- names are kept in their order
pub names_kept : (entries : List (Bor (List ℕ) × ℕ)) → map (λ name. name.now) (keys_of entries) ≡ map {A = List ℕ × ℕ} (λ node. node.0) (map (λ e. (e.0.now, e.1)) entries)
names_kept entries =
    map-map (λ (name : Bor (List ℕ)). name.now) (λ (e : Bor (List ℕ) × ℕ). e.0) entries
    ∙ sym (map-map (λ (node : List ℕ × ℕ). node.0) (λ (e : Bor (List ℕ) × ℕ). (e.0.now, e.1)) entries)
