-- A book at its start keeps what every book keeps.
use Rattle.std.proofs.Common.{◌≡◌, ℕ, zero, suc, ◌+◌, ◌≤◌, false, cond, List, [], ◌∷◌, length, map, replicate, refl, sym, ap, subst, ◌∙◌, arith, Some, None, slice_get}
use Rattle.std.specs.Prelude.{vec_len, count_by}
use Rattle.tp_book.proofs.Lower.{length-map, length-replicate, sum_by-cons, Entry, Turns, NodeState, t414_ends, Token, node_at, Network, Port, on_line, AreOf, AreNumbered, after, Sound, plain, markers, plain_network}
use Rattle.tp_book.specs.Book.{agreed}
use Rattle.tp_book.specs.Kept.{BookKeeps, AreInRange}
use Rattle.tp_book.specs.Counted.{IsCounted}
use Rattle.tp_book.specs.declared.journal.Journal.TheInside.{Inside}
use Rattle.tp_book.specs.declared.parts.NetParts.{NetParts}
use Rattle.tp_book.specs.Parts.{network_made}
use Rattle.tp_book.specs.PortParts.{port_made}
use Rattle.tp_book.specs.Inside.{state_inside, value_of, IsJournal}
use Rattle.tp_book.specs.Bare.{without_trace}
use Rattle.tp_book.specs.Start.{IsFresh, IsNetwork, first_book}
use Rattle.tp_book.specs.Ports.{fresh_value}
use Rattle.tp_book.specs.Kept.{IsRising}

pub map-replicate : {A B : Type 0} (f : A → B) (n : ℕ) (x : A) → map f (replicate n x) ≡ replicate n (f x)
map-replicate f zero x = refl
map-replicate f (suc n) x = ap (λ ys. f x ∷ ys) (map-replicate f n x)

pub on_empty : (n x : ℕ) → on_line (replicate n []) x ≡ []
on_empty zero x = refl
on_empty (suc n) zero = refl
on_empty (suc n) (suc x) = on_empty n x

pub first_kept : (s : Network NodeState) → IsFresh s → BookKeeps (first_book s None).state
unfolding after agreed
first_kept s F =
    let same : plain_network s ≡ s = ap (λ lines. record s { lines = lines }) (ap (map plain) F.lines ∙ map-replicate plain (length s.wires) [] ∙ sym F.lines) in
    record {
      history = ap Some (sym same);
      sound = subst (Sound t414_ends) (sym same) F.sound;
      marked = λ line. subst (λ n. n ≤ 1) (sym (ap (λ lines. markers (on_line lines line)) F.lines ∙ ap markers (on_empty (length s.wires) line))) (omega arith);
    }

-- ## The fields

pub none_reserved : (n : ℕ) → count_by (λ run. run) (replicate n false) ≡ 0
none_reserved zero = refl
none_reserved (suc n) = sum_by-cons (λ run. cond run 1 0) false (replicate n false) ∙ omega (arith, none_reserved n)

fresh_counted : (next n p : ℕ) (port : Port) → slice_get (replicate n fresh_value.port) p ≡ Some port → IsCounted next port
fresh_counted next zero p port e = cc
fresh_counted next (suc n) zero port e =
    let same : fresh_value.port ≡ port = cc in
    subst (IsCounted next) same (record { inputs = omega arith; outputs = omega arith })
fresh_counted next (suc n) (suc p) port e = fresh_counted next n p port e

fresh_rising : (next n p : ℕ) (ns : List ℕ) → slice_get (replicate n fresh_value.marks) p ≡ Some ns → IsRising 0 next ns
fresh_rising next zero p ns e = cc
fresh_rising next (suc n) zero ns e =
    let same : fresh_value.marks ≡ ns = cc in
    subst (IsRising 0 next) same (omega arith)
fresh_rising next (suc n) (suc p) ns e = fresh_rising next n p ns e

module _ (b : Inside) (parts : NetParts) (start : b.start.network ≡ network_made parts) (F : IsFresh (network_made parts)) (N : IsNetwork (network_made parts)) (wires : b.wires.items ≡ parts.wires.items)
    (lines : b.lines ≡ replicate (vec_len parts.wires) []) (ports : b.ports.items ≡ replicate (vec_len parts.ports) fresh_value)
    (runs : b.runs.items ≡ replicate (vec_len parts.images) false) (entries : b.entries.items ≡ []) where
  abbrev s : Network NodeState
  s = network_made parts

  abbrev fields : Inside
  fields = record b { base = 0; reserved = 0; ready = None; broken = false; form = Turns }

  port_count : vec_len parts.ports ≡ length s.ports
  port_count = parts.ports.ok.0 ∙ sym (length-map parts.ports.items port_made)

  node_count : vec_len parts.images ≡ length s.nodes
  node_count = parts.images.ok.0 ∙ sym (length-map parts.images.items (λ image. node_at image.items))

  these_ports : map (λ p. p.port) b.ports.items ≡ s.ports
  these_ports = ap (map (λ p. p.port)) ports ∙ map-replicate (λ p. p.port) (vec_len parts.ports) fresh_value ∙ ap (λ n. replicate n fresh_value.port) port_count ∙ sym F.ports

  these_lines : b.lines ≡ s.lines
  these_lines = lines ∙ ap (λ n. replicate n []) parts.wires.ok.0 ∙ sym F.lines

  these_runs : vec_len b.runs ≡ length s.nodes
  these_runs = b.runs.ok.0 ∙ ap length runs ∙ length-replicate (vec_len parts.images) false ∙ node_count

  no_entries : vec_len b.entries ≡ 0
  no_entries = b.entries.ok.0 ∙ ap length entries

  first_state : state_inside fields ≡ (first_book s None).state
  first_state =
      ap (λ given. record (state_inside fields) { start = given }) start
      ∙ ap (λ given. record (state_inside fields) { start = s; entries = map (λ (e : Entry × ℕ). e.0) given }) entries
      ∙ ap (λ given. record (state_inside fields) { start = s; entries = []; ports = given }) these_ports
      ∙ ap (λ given. record (state_inside fields) { start = s; entries = []; ports = s.ports; lines = given }) these_lines

  pub first_fields : IsJournal fields
  first_fields = record {
    keeps = subst BookKeeps (sym first_state) (first_kept s F);
    shaped = record {
      count = ap (λ given. length given.nodes) start ∙ sym these_runs;
      wires = omega (arith, ap (λ given. length given.wires) start, N.wires, these_runs, ap length these_ports);
      lines = omega (arith, N.wires, these_runs, ap length these_ports, ap length these_lines, ap length F.lines, length-replicate {A = List Token} (length s.wires) []);
      few_nodes = omega (arith, these_runs, N.few_nodes);
      few_ports = omega (arith, ap length these_ports, N.few_ports);
    };
    wires = wires ∙ ap (λ given. given.wires) (sym start);
    reserved = sym (ap (count_by (λ run. run)) runs ∙ none_reserved (vec_len parts.images));
    space = omega (arith, no_entries);
    numbers = omega (arith, no_entries);
    counted = λ p port at. fresh_counted (0 + vec_len b.entries) (length s.ports) p port (ap (λ given. slice_get given p) (sym (these_ports ∙ F.ports)) ∙ at);
    numbered = subst (λ given. AreNumbered 0 0 (map (λ (e : Entry × ℕ). e.1) given)) (sym entries) tt;
    ranged = subst (λ given. AreInRange (map (λ (e : Entry × ℕ). e.0) given)) (sym entries) tt;
    of_form = subst (AreOf Turns) (sym entries) tt;
    rising = λ p ns at. fresh_rising (0 + vec_len b.entries) (vec_len parts.ports) p ns (ap (λ given. slice_get given p) (sym (ap (map (λ q. q.marks)) ports ∙ map-replicate (λ q. q.marks) (vec_len parts.ports) fresh_value)) ∙ at);
  }

  pub first_value : value_of fields ≡ without_trace (first_book s b.room)
  first_value =
      ap (λ given. record (value_of fields) { state = given }) first_state
      ∙ ap (λ given. record (value_of fields) { state = (first_book s None).state; numbers = map (λ (e : Entry × ℕ). e.1) given }) entries
      ∙ ap (λ given. record (value_of fields) { state = (first_book s None).state; numbers = []; runs = given }) (runs ∙ ap (λ n. replicate n false) node_count)
      ∙ ap (λ given. record (value_of fields) { state = (first_book s None).state; numbers = []; runs = replicate (length s.nodes) false; marks = given })
      (ap (map (λ p. p.marks)) ports ∙ map-replicate (λ p. p.marks) (vec_len parts.ports) fresh_value ∙ ap (λ n. replicate n []) port_count)
