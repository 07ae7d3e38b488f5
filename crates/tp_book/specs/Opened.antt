-- A book of an opened device.
use Rattle.std.specs.Prelude.{[], ◌≡◌, ◌<◌, ◌≤◌, ℕ, ◌+◌, false, List, All, length, map, replicate, vec_len, Option, Some, None}
use Rattle.tp_book.specs.Lower.{Entry, Form, Turns, MAX_HELD, NUMBER_LIMIT, NodeState, AreOf, node_of, t414, t414_ends, Network, AreNumbered, after, Sound, plain}
use Rattle.tp_book.specs.declared.state.NetState.{NetState}
use Rattle.tp_book.specs.Parts.{network_made}
use Rattle.tp_book.specs.Ports.{opened_port}
use Rattle.tp_book.specs.Counted.{AreCounted}
use Rattle.tp_book.specs.Start.{IsNetwork}
use Rattle.tp_book.specs.Kept.{AreInRange}
use Rattle.tp_book.specs.Book.{BookValue}

-- the kept cut's network, and the network after the kept entries
abbrev pub cut_of : NetState → Network NodeState
cut_of s = s.cut.network

abbrev pub now_of : NetState → Network NodeState
now_of s = network_made s.net

-- the kept entries, and their numbers
abbrev pub kept_entries : NetState → List Entry
kept_entries s = map (λ (e : Entry × ℕ). e.0) s.kept.items

abbrev pub numbers_of : NetState → List ℕ
numbers_of s = map (λ (e : Entry × ℕ). e.1) s.kept.items

-- What opening leaves. The kept entries are in the range of their bytes, and the area's form may hold them. They lead from the kept cut's
-- network to the one that is there, which is sound and has no Markers under way. Each node's image spells it. Each port holds what it has
-- room for, and has counted at most as much as there are entries. The number of the next entry and the generation are in their ranges.
pub record IsWellOpen (s : NetState) : Type 0 where
  pub history : after t414 (cut_of s) (kept_entries s) ≡ Some (now_of s)
  pub sound : Sound t414_ends (now_of s)
  pub shaped : IsNetwork (now_of s)
  pub lines : length (now_of s).lines ≡ length (now_of s).wires
  pub unmarked : map plain (now_of s).lines ≡ (now_of s).lines
  pub ranged : AreInRange (kept_entries s)
  pub of_form : AreOf s.form s.kept.items
  pub numbered : AreNumbered 0 s.base (numbers_of s)
  pub next : s.next ≡ s.base + vec_len s.kept
  pub few : s.next < NUMBER_LIMIT
  pub age : s.generation < NUMBER_LIMIT
  pub counted : AreCounted s.next (now_of s).ports
  pub pending : All (λ port. vec_len port.pending ≤ MAX_HELD) s.net.ports.items
  pub outputs : All (λ port. vec_len port.outputs ≤ MAX_HELD) s.net.ports.items
  pub origin : Sound t414_ends (cut_of s)
  pub images : map (λ image. node_of image.items) s.net.images.items ≡ map (λ node. Some node) (now_of s).nodes

-- the form of a book: that of the area on its device; without a device it may hold every entry
abbrev pub book_form : Option ℕ → Form → Form
book_form None form = Turns
book_form (Some most) form = form

-- The book of an opened device, whose groups may fill `room` bytes: nothing is reserved, and every mark shows what the ports hold.
abbrev pub opened_book : NetState → Option ℕ → BookValue
opened_book s room = record {
  state = record { start = cut_of s; entries = kept_entries s; ports = (now_of s).ports; lines = (now_of s).lines; snapshot = None };
  numbers = numbers_of s;
  base = s.base;
  runs = replicate (length (now_of s).nodes) false;
  ready = None;
  broken = false;
  room = room;
  marks = map (λ port. (opened_port port).marks) (now_of s).ports;
  frozen = [];
  history = [];
  generation = s.generation;
  floor = vec_len s.kept;
  form = book_form room s.form;
}
