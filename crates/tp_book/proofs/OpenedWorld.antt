-- The marked network of a book of an opened device.
use Rattle.std.proofs.Common.{◌≡◌, ℕ, List, [], map, get_or, refl, sym, ap, subst, ◌∙◌, arith, Option, Some, None}
use Rattle.tp_book.proofs.Lower.{Entry, NodeState, t414, Network, on_line, markers, MarkedNetwork, live, IsFirst, Opened, book_of, after_shape, on_line-plain, has_four_links}
use Rattle.tp_book.specs.declared.state.NetState.{NetState}
use Rattle.tp_book.specs.Book.{agreed, nodes_in, world_of}
use Rattle.tp_book.specs.Opened.{cut_of, now_of, kept_entries, IsWellOpen, opened_book}
use Rattle.tp_book.proofs.Opened.{markers-plain}
use Rattle.tp_book.proofs.Stood.{no_back}

-- a book that begins with entries after a cut
abbrev begun : Network NodeState → List Entry → Network NodeState → MarkedNetwork NodeState
begun cut entries now = record { start = cut; entries = entries; live = now; snapshot = None; frozen = [] }

opened_world : (s : NetState) (room : Option ℕ) → IsWellOpen s → world_of (opened_book s room) ≡ begun (cut_of s) (kept_entries s) (now_of s)
unfolding agreed
opened_world s room O =
    let shape = after_shape t414 has_four_links (cut_of s) (now_of s) (kept_entries s) O.history in
    let now = now_of s in
    let b = (opened_book s room).state in
    let nodes : agreed b ≡ now.nodes = ap nodes_in O.history in
    let same : live b (agreed b) ≡ now =
    ap (λ given. record { wires = given; nodes = agreed b; ports = now.ports; lines = now.lines }) (sym shape.wires)
    ∙ ap (λ given. record { wires = now.wires; nodes = given; ports = now.ports; lines = now.lines }) nodes in
    ap (begun (cut_of s) (kept_entries s)) same

now_begins : (s : NetState) → IsWellOpen s → IsFirst t414 (begun (cut_of s) (kept_entries s) (now_of s))
now_begins s O = record {
  idle = refl;
  now = O.history ∙ ap (λ given. Some (record (now_of s) { lines = given })) (sym O.unmarked);
  unmarked = λ line. ap (λ given. markers (on_line given line)) (sym O.unmarked) ∙ ap markers (on_line-plain (now_of s).lines line) ∙ markers-plain (on_line (now_of s).lines line);
  lines = omega (arith, O.lines, O.shaped.wires);
  wired = λ line wire. O.sound.there line wire;
  unwired = λ line none. (O.sound.none line (no_back (get_or (now_of s).wires line None) _ none)).0;
}

pub opened_begins : (s : NetState) (room : Option ℕ) → IsWellOpen s → IsFirst t414 (world_of (opened_book s room))
opened_begins s room O = subst (λ w. IsFirst t414 w) (sym (opened_world s room O)) (now_begins s O)

pub opened_is_run : (s : NetState) (room : Option ℕ) (o : Opened) → IsWellOpen s → cut_of s ≡ o.cut → kept_entries s ≡ map (λ e. e.0) o.kept → now_of s ≡ o.now → world_of (opened_book s room) ≡ book_of o
opened_is_run s room o O cut kept now = opened_world s room O ∙ (λ i. begun (cut i) (kept i) (now i))
