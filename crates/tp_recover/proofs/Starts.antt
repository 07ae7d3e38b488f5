-- What was read of an area before its groups can be replayed from.
use Rattle.std.proofs.Common.{◌≡◌, ℕ, zero, suc, ◌<◌, ◌≤◌, List, [], ◌∷◌, length, map, get_or, sym, ap, subst, ◌∙◌, arith, true, Option, Some, None, slice_get, Bool, ◌+◌, Ok, Err, Vec}
use Rattle.std.specs.Prelude.{All, ◌&&◌, Result, vec_len}
use Rattle.tp_recover.proofs.Lower.{Global, and_parts, false≢true, Token, Data, Ack, Marker, MAX_HELD, WireEnd, Topology, ◌>>=◌, area_start, content_of, Moment, Head, t414_ends, base_of, cut_in, front_in, is_line_of, has_record, are_lines, PortParts, port_made, PortValue, opened_port, NodeContents, network_flat, opened_ports, CutFront, cut_front, front_given, bind_ok}
use Rattle.tp_recover.specs.declared.area.cut.Cut.{Cut}
use Rattle.tp_recover.specs.declared.area.start.Start.{Start}
use Rattle.tp_recover.specs.declared.unopened.Unopened.{Unopened}
use Rattle.tp_recover.specs.Cuts.{network_of_cut}
use Rattle.tp_recover.specs.Nodes.{AreAllThawed}
use Rattle.tp_recover.specs.Reading.{ReadAnswer}
use Rattle.tp_recover.specs.Starts.{read_as, read_in, read_of}
use Rattle.tp_recover.proofs.HeldPorts.{EachPort, IsHeld}
use Rattle.tp_recover.proofs.Passing.{passed}
use Rattle.tp_recover.proofs.ReplayedCuts.{parts_held}

-- ## Room

record_few : (tokens : List Token) → has_record tokens ≡ true → length tokens ≤ 3
record_few [] h = omega arith
record_few (t ∷ []) h = omega arith
record_few (t ∷ u ∷ []) h = omega arith
record_few (Data byte ∷ Data other ∷ x ∷ more) h = absurd (false≢true h)
record_few (Data byte ∷ Ack ∷ x ∷ more) h = absurd (false≢true h)
record_few (Data byte ∷ Marker ∷ x ∷ more) h = absurd (false≢true h)
record_few (Ack ∷ Data byte ∷ x ∷ more) h = absurd (false≢true h)
record_few (Ack ∷ Ack ∷ x ∷ more) h = absurd (false≢true h)
record_few (Ack ∷ Marker ∷ x ∷ more) h = absurd (false≢true h)
record_few (Marker ∷ u ∷ x ∷ more) h = absurd (false≢true h)

line_few : (wires : List (Option WireEnd)) (lines : List (Vec Token Global)) → are_lines wires (map (λ line. line.items) lines) ≡ true → (k : ℕ) (d : Vec Token Global) → k < length lines
    → length (get_or lines k d).items ≤ 3
line_few wires [] h k d low = absurd (omega (arith, low))
line_few [] (line ∷ lines) h k d low = absurd (false≢true h)
line_few (wire ∷ wires) (line ∷ lines) h zero d low =
    record_few line.items (and_parts (has_record line.items) (is_line_of wire line.items && are_lines wires (map (λ l. l.items) lines)) h).0
line_few (wire ∷ wires) (line ∷ lines) h (suc k) d low =
    let first = and_parts (has_record line.items) (is_line_of wire line.items && are_lines wires (map (λ l. l.items) lines)) h in
    let rest = and_parts (is_line_of wire line.items) (are_lines wires (map (λ l. l.items) lines)) first.1 in
    line_few wires lines rest.1 k d (omega (arith, low))

-- No line of a cut that was read has more tokens than a line has room for.
pub lines_few : (wires : List (Option WireEnd)) (lines : List (Vec Token Global)) → are_lines wires (map (λ line. line.items) lines) ≡ true → All (λ line. vec_len line ≤ 3) lines
lines_few wires lines h k d low = omega (arith, line_few wires lines h k d low, (get_or lines k d).ok.0)

pub pending_few : (parts : List PortParts) → EachPort IsHeld (map port_made parts) → All (λ port. vec_len port.pending ≤ MAX_HELD) parts
pending_few parts held k d below = let part = parts_held parts held k d below in omega (arith, part.pending, (get_or parts k d).pending.ok.0)

pub outputs_few : (parts : List PortParts) → EachPort IsHeld (map port_made parts) → All (λ port. vec_len port.outputs ≤ MAX_HELD) parts
outputs_few parts held k d below = let part = parts_held parts held k d below in omega (arith, part.outputs, (get_or parts k d).outputs.ok.0)

-- ## The network

pub thawed_at : (nodes : List NodeContents) → AreAllThawed nodes → (i : ℕ) (node : NodeContents) → slice_get nodes i ≡ Some node → node.frozen ≡ None
thawed_at [] all i node at = cc
thawed_at (first ∷ nodes) all zero node at = let same : first ≡ node = cc in subst (λ n. n.frozen ≡ None) same all.0
thawed_at (first ∷ nodes) all (suc i) node at = thawed_at nodes all.1 i node at

-- The network that is made of a cut is the cut's.
pub network_again : (cut : Cut) (wires these : List (Option WireEnd)) (lines : List (List Token)) (ports : List PortValue) → these ≡ wires → lines ≡ map (λ line. line.items) cut.lines.items
    → ports ≡ map (λ port. opened_port (port_made port)) cut.ports.items → network_flat these cut.nodes.items lines ports ≡ network_of_cut wires cut
network_again cut wires these lines ports w l p =
    let q : map (λ (v : PortValue). v.port) ports ≡ map port_made cut.ports.items = ap (map (λ (v : PortValue). v.port)) p ∙ opened_ports cut.ports.items in
    λ i. record { wires = w i; nodes = map (λ node. node.live) cut.nodes.items; ports = q i; lines = l i }

-- ## A cut that can't be read

-- the fields that are given have the base of the content
given_base : (t : Topology) (at : ℕ) (content : List ℕ) (front : CutFront) → front_given t at content ≡ Ok front → front.base ≡ base_of content
given_base t at content front is =
    let found = bind_ok (front_in t at content) (λ form. Ok (cut_front content form)) front is in
    let same : cut_front content found.0 ≡ front = let last = found.2 in cc in
    ap (λ (f : CutFront). f.base) (sym same)

-- Why a cut isn't read, after fields that are, is why nothing is.
pub cut_unread : (head : Head) (second : Bool) (now old : Moment) (front : CutFront) (error : Unopened) (answer : Result Start Unopened) → now ≡ old
    → front_given head.topology (area_start head.areas second) (content_of head.areas second old.bytes) ≡ Ok front
    → (front.base ≡ base_of (content_of head.areas second now.bytes)
    → ReadAnswer (network_of_cut head.topology.wires) (cut_in t414_ends head.topology (area_start head.areas second + 1) (content_of head.areas second now.bytes)) (Err error))
    → answer ≡ Err error → ReadAnswer read_of (read_in head second (content_of head.areas second old.bytes)) answer
cut_unread head second now old front error answer same given read told =
    let content = content_of head.areas second old.bytes in
    let cut = cut_in t414_ends head.topology (area_start head.areas second + 1) content in
    let unread : ReadAnswer (network_of_cut head.topology.wires) cut (Err error) =
    subst
    (λ (m : Moment).
    front.base ≡ base_of (content_of head.areas second m.bytes)
    → ReadAnswer (network_of_cut head.topology.wires) (cut_in t414_ends head.topology (area_start head.areas second + 1) (content_of head.areas second m.bytes)) (Err error))
    same read (given_base head.topology (area_start head.areas second) content front given) in
    subst (λ front_is. ReadAnswer read_of (front_is >>= (λ front. cut >>= (λ cut. Ok (read_as front cut)))) answer) (sym given)
    (passed (network_of_cut head.topology.wires) read_of cut (λ cut. Ok (read_as front cut)) error answer unread told)
