-- A book of an opened device keeps what every book keeps.
use Rattle.std.proofs.Common.{◌≡◌, ℕ, ◌+◌, ◌<◌, ◌≤◌, false, inl, inr, List, [], ◌∷◌, length, map, get_or, replicate, refl, sym, ap, subst, ◌∙◌, arith, Some, None, slice_get, zero, suc}
use Rattle.std.specs.Prelude.{vec_len, count_by, Vec}
use Rattle.tp_book.proofs.Lower.{option_map, Global, slice_get-map, slice_get-get_or, get_or_from_slice_get, cases_Bool, length-map, length-replicate, Entry, NodeState, t414, t414_ends, Token, node_at, Network, on_line, AreOf, AreNumbered, after, Sound, is_marker, plain, markers, plain_network, BookState, live, SameShape, after_shape, sound_small, length-kinds, on_line-plain, has_four_links, Port}
use Rattle.tp_book.specs.declared.ports.port_parts.PortParts.{PortParts}
use Rattle.tp_book.proofs.OpenedPorts.{opened_ports}
use Rattle.tp_book.specs.declared.state.NetState.{NetState}
use Rattle.tp_book.specs.declared.journal.Journal.TheInside.{Inside}
use Rattle.tp_book.specs.Book.{agreed, nodes_in}
use Rattle.tp_book.specs.Kept.{BookKeeps, AreInRange}
use Rattle.tp_book.specs.Counted.{AreCounted}
use Rattle.tp_book.specs.PortParts.{port_made}
use Rattle.tp_book.specs.Ports.{opened_port}
use Rattle.tp_book.specs.Inside.{state_inside, value_of, IsJournal}
use Rattle.tp_book.specs.Bare.{without_trace}
use Rattle.tp_book.specs.Opened.{cut_of, now_of, kept_entries, numbers_of, IsWellOpen, book_form, opened_book}
use Rattle.tp_book.proofs.Formed.{opened_form}
use Rattle.tp_book.proofs.Fresh.{none_reserved}
use Rattle.tp_book.specs.Kept.{IsRising}
use Rattle.tp_book.proofs.Rising.{rising_zeros}

-- without Markers there is none
pub markers-plain : (ts : List Token) → markers (plain ts) ≡ 0
markers-plain [] = refl
markers-plain (t ∷ ts) = elim (cases_Bool (is_marker t)) [
  | inl y ↦ rw y (markers-plain ts)
  | inr n ↦ rw (n, n) (markers-plain ts)
]

-- A book whose entries lead to a sound network without Markers keeps what every book keeps.
pub opened_kept : (b : BookState NodeState) (s : Network NodeState) → after t414 b.start b.entries ≡ Some s → b.ports ≡ s.ports → b.lines ≡ s.lines → map plain s.lines ≡ s.lines
    → Sound t414_ends s → BookKeeps b
unfolding agreed
opened_kept b s history ports lines unmarked sound =
    let shape = after_shape t414 has_four_links b.start s b.entries history in
    let nodes : agreed b ≡ s.nodes = ap nodes_in history in
    let same : plain_network (live b (agreed b)) ≡ s =
    ap (λ given. record { wires = given; nodes = agreed b; ports = b.ports; lines = map plain b.lines }) (sym shape.wires)
    ∙ ap (λ given. record { wires = s.wires; nodes = given; ports = b.ports; lines = map plain b.lines }) nodes
    ∙ ap (λ given. record { wires = s.wires; nodes = s.nodes; ports = given; lines = map plain b.lines }) ports
    ∙ ap (λ given. record { wires = s.wires; nodes = s.nodes; ports = s.ports; lines = given }) (ap (map plain) lines ∙ unmarked) in
    record {
      history = history ∙ ap Some (sym same);
      sound = subst (Sound t414_ends) (sym same) sound;
      marked = λ line.
          subst (λ n. n ≤ 1)
          (sym (ap (λ given. markers (on_line given line)) (lines ∙ sym unmarked) ∙ ap markers (on_line-plain s.lines line) ∙ markers-plain (on_line s.lines line)))
          (omega arith);
    }

-- no line has more than three tokens
pub line_few : (s : NetState) → IsWellOpen s → (line : ℕ) → length (on_line (now_of s).lines line) ≤ 3
line_few s O line =
    let small = sound_small O.sound line in
    let none : markers (on_line (now_of s).lines line) ≡ 0 = ap (λ given. markers (on_line given line)) (sym O.unmarked) ∙ ap markers (on_line-plain (now_of s).lines line) ∙ markers-plain (on_line (now_of s).lines line) in
    omega (arith, length-kinds (on_line (now_of s).lines line), none, small.0, small.1)

-- as the vectors of its lines
pub vec_few : (s : NetState) → IsWellOpen s → (k : ℕ) (d : Vec Token Global) → k < length s.net.lines.items → vec_len (get_or s.net.lines.items k d) ≤ 3
vec_few s O k d below =
    let there = slice_get-map (λ line. line.items) s.net.lines.items k ∙ ap (option_map (λ line. line.items)) (slice_get-get_or s.net.lines.items k d below) in
    let on = get_or_from_slice_get (map (λ line. line.items) s.net.lines.items) k (get_or s.net.lines.items k d).items [] there in
    omega (arith, line_few s O k, ap length on, (get_or s.net.lines.items k d).ok.0)

-- the marks of what the ports of an opened state hold
opened_marks : (parts : List PortParts) → map (λ p. p.marks) (map (λ port. opened_port (port_made port)) parts) ≡ map (λ port. (opened_port port).marks) (map port_made parts)
opened_marks [] = refl
opened_marks (p ∷ ps) = ap (λ more. (opened_port (port_made p)).marks ∷ more) (opened_marks ps)

opened_rising : (next : ℕ) (ports : List Port) (p : ℕ) (ns : List ℕ) → slice_get (map (λ port. (opened_port port).marks) ports) p ≡ Some ns → IsRising 0 next ns
opened_rising next [] p ns e = cc
opened_rising next (q ∷ qs) zero ns e =
    let same : (opened_port q).marks ≡ ns = cc in
    subst (IsRising 0 next) same (rising_zeros (length q.outputs) next)
opened_rising next (q ∷ qs) (suc p) ns e = opened_rising next qs p ns e

module _ (b : Inside) (s : NetState) (O : IsWellOpen s) (cut : b.start.network ≡ cut_of s) (wires : b.wires.items ≡ s.net.wires.items)
    (lines : b.lines ≡ map (λ line. line.items) s.net.lines.items) (ports : b.ports.items ≡ map (λ port. opened_port (port_made port)) s.net.ports.items)
    (runs : b.runs.items ≡ replicate (vec_len s.net.images) false) (entries : b.entries.items ≡ s.kept.items) (base : b.base ≡ s.base)
    (form : b.form ≡ book_form b.room s.form) where
  abbrev fields : Inside
  fields = record b { reserved = 0; ready = None; broken = false }

  shape : SameShape (cut_of s) (now_of s)
  shape = after_shape t414 has_four_links (cut_of s) (now_of s) (kept_entries s) O.history

  starts : (state_inside b).start ≡ cut_of s
  starts = cut

  these_entries : (state_inside b).entries ≡ kept_entries s
  these_entries = ap (map (λ (e : Entry × ℕ). e.0)) entries

  these_ports : (state_inside b).ports ≡ (now_of s).ports
  these_ports = ap (map (λ p. p.port)) ports ∙ opened_ports s.net.ports.items

  these_marks : map (λ p. p.marks) b.ports.items ≡ map (λ port. (opened_port port).marks) (now_of s).ports
  these_marks = ap (map (λ p. p.marks)) ports ∙ opened_marks s.net.ports.items

  node_count : vec_len s.net.images ≡ length (now_of s).nodes
  node_count = s.net.images.ok.0 ∙ sym (length-map s.net.images.items (λ image. node_at image.items))

  these_runs : vec_len b.runs ≡ length (now_of s).nodes
  these_runs = b.runs.ok.0 ∙ ap length runs ∙ length-replicate (vec_len s.net.images) false ∙ node_count

  entry_count : vec_len b.entries ≡ vec_len s.kept
  entry_count = b.entries.ok.0 ∙ ap length entries ∙ sym s.kept.ok.0

  leads : after t414 (state_inside b).start (state_inside b).entries ≡ Some (now_of s)
  leads = ap (λ given. after t414 given (state_inside b).entries) starts ∙ ap (after t414 (cut_of s)) these_entries ∙ O.history

  pub opened_fields : IsJournal fields
  opened_fields = record {
    keeps = opened_kept (state_inside fields) (now_of s) leads these_ports lines O.unmarked O.sound;
    shaped = record {
      count = ap (λ given. length given.nodes) starts ∙ sym shape.nodes ∙ sym these_runs;
      wires = omega (arith, ap (λ given. length given.wires) starts, ap length shape.wires, O.shaped.wires, these_runs, ap length these_ports);
      lines = omega (arith, ap length lines, O.lines, O.shaped.wires, these_runs, ap length these_ports);
      few_nodes = omega (arith, these_runs, O.shaped.few_nodes);
      few_ports = omega (arith, ap length these_ports, O.shaped.few_ports);
    };
    wires = wires ∙ shape.wires ∙ ap (λ given. given.wires) (sym starts);
    reserved = sym (ap (count_by (λ run. run)) runs ∙ none_reserved (vec_len s.net.images));
    space = omega (arith, b.entries.ok.1);
    numbers = omega (arith, entry_count, base, O.next, O.few);
    counted = subst (λ given. AreCounted (b.base + vec_len b.entries) given) (sym these_ports)
        (subst (λ n. AreCounted n (now_of s).ports) (omega (arith, entry_count, base, O.next)) O.counted);
    numbered = subst (λ given. AreNumbered 0 given (map (λ (e : Entry × ℕ). e.1) b.entries.items)) (sym base) (subst (λ given. AreNumbered 0 s.base (map (λ (e : Entry × ℕ). e.1) given)) (sym entries) O.numbered);
    ranged = subst AreInRange (sym these_entries) O.ranged;
    of_form = subst (λ given. AreOf given b.entries.items) (sym form) (subst (AreOf (book_form b.room s.form)) (sym entries) (opened_form b.room s.form s.kept.items O.of_form));
    rising = λ p ns at. opened_rising (b.base + vec_len b.entries) (now_of s).ports p ns (ap (λ given. slice_get given p) (sym these_marks) ∙ at);
  }

  pub opened_value : value_of fields ≡ without_trace (opened_book s b.room)
  opened_value =
      ap (λ given. record (value_of fields) { state = record (state_inside fields) { start = given } }) starts
      ∙ ap (λ given. record (value_of fields) { state = record (state_inside fields) { start = cut_of s; entries = given } }) these_entries
      ∙ ap (λ given. record (value_of fields) { state = record (state_inside fields) { start = cut_of s; entries = kept_entries s; ports = given } }) these_ports
      ∙ ap (λ given. record (value_of fields) { state = record (opened_book s b.room).state { lines = given } }) lines
      ∙ ap (λ given. record (value_of fields) { state = (opened_book s b.room).state; numbers = map (λ (e : Entry × ℕ). e.1) given }) entries
      ∙ ap (λ given. record (value_of fields) { state = (opened_book s b.room).state; numbers = numbers_of s; base = given }) base
      ∙ ap (λ given. record (value_of fields) { state = (opened_book s b.room).state; numbers = numbers_of s; base = s.base; form = given }) form
      ∙ ap (λ given. without_trace (record (opened_book s b.room) { runs = given; marks = map (λ p. p.marks) b.ports.items })) (runs ∙ ap (λ n. replicate n false) node_count)
      ∙ ap (λ given. without_trace (record (opened_book s b.room) { marks = given })) these_marks
