-- What the host does to a book: bytes that it hands in, outputs that it confirms, and what it is shown.
use Rattle.std.specs.Prelude.{◌≡◌, ◌<◌, ◌≤◌, ℕ, ◌+◌, ◌-◌, ◌*◌, ◌==◌, nat_lt, nat_le, if◌then◌else◌, List, [], ◌∷◌, ◌++◌, length, map, set, drop, take, get_or, Option, Some, None, count_by}
use Rattle.tp_book.specs.Lower.{range_with_len, Token, Data, HostIn, Confirm, MAX_HELD, NodeState, Port, has_wire, sent, BookState}
use Rattle.tp_book.specs.declared.refusal.Refusal.{Refusal}
use Rattle.tp_book.specs.declared.refusal.Refusal.TheVariants.{StoreBroken, PortFull}
use Rattle.tp_book.specs.Ports.{fresh_value}
use Rattle.tp_book.specs.Book.{BookValue, next_in_book, count_of_nodes}
use Rattle.tp_book.specs.Calls.{with_journalled, marks_of}
use Rattle.tp_book.specs.Sends.{sends_on}
use Rattle.tp_book.specs.Refusals.{else_if, entry_refusal}

-- a port of the book; if there is none, one at which nothing has happened
abbrev pub port_in : BookValue → ℕ → Port
port_in b p = get_or b.state.ports p fresh_value.port

-- how many bytes a port has accepted
abbrev pub accepted_of : Port → ℕ
accepted_of port = port.in_base + length port.pending

-- how many bytes it still has room for
abbrev pub room_of : Port → ℕ
room_of port = MAX_HELD - length port.pending

-- ## Bytes handed in

-- what goes out at once: the first byte, if none is pending before it
abbrev pub first_out : List ℕ → List ℕ → Option Token
first_out [] [] = None
first_out [] (x ∷ xs) = Some (Data x)
first_out (y ∷ ys) bytes = None

-- a journal, ports and lines after bytes were handed to a port that sends on this line: an entry for each byte
abbrev pub with_input : BookState NodeState → ℕ → ℕ → Port → List ℕ → BookState NodeState
with_input b line p port bytes =
    record b {
      entries = b.entries ++ map (HostIn p) bytes;
      ports = set b.ports p (record port { pending = port.pending ++ bytes });
      lines = sent (has_wire b.start.wires) b.lines (sends_on line (first_out port.pending bytes));
    }

-- the book after bytes were handed to a port
abbrev pub after_inputs : BookValue → ℕ → List ℕ → BookValue
after_inputs b p bytes =
    record b {
      state = with_input b.state (4 * count_of_nodes b + p) p (port_in b p) bytes;
      numbers = b.numbers ++ range_with_len (next_in_book b) (length bytes);
      history = b.history ++ map (HostIn p) bytes;
    }

-- why `count` bytes can't be handed in, if there are some
abbrev pub some_input_refusal : BookValue → ℕ → ℕ → Option Refusal
some_input_refusal b p count =
    entry_refusal b count (else_if (else_if None b.broken StoreBroken) (nat_lt (room_of (port_in b p)) count) PortFull)

-- no bytes can always be handed in
abbrev pub input_refusal : BookValue → ℕ → ℕ → Option Refusal
input_refusal b p count = if count == 0 then None else some_input_refusal b p count

-- ## Outputs confirmed

-- a port whose outputs are confirmed up to this position
abbrev pub confirmed_port : Port → ℕ → Port
confirmed_port port upto = record port { outputs = drop (upto - port.out_base) port.outputs; out_base = upto }

-- the book after a port's outputs were confirmed up to a position above what was confirmed
abbrev pub with_confirmed : BookValue → ℕ → ℕ → BookValue
with_confirmed b p upto =
    record (with_journalled b (Confirm p upto) (set b.state.ports p (confirmed_port (port_in b p) upto)) []) {
      marks = set b.marks p (drop (upto - (port_in b p).out_base) (marks_of b p));
    }

-- if the position was confirmed before, nothing is done
abbrev pub after_confirm : BookValue → ℕ → ℕ → BookValue
after_confirm b p upto = if nat_le upto (port_in b p).out_base then b else with_confirmed b p upto

-- why outputs can't be confirmed up to a position
abbrev pub confirm_refusal : BookValue → ℕ → ℕ → Option Refusal
confirm_refusal b p upto =
    if nat_le upto (port_in b p).out_base then None else entry_refusal b 1 (else_if None b.broken StoreBroken)

-- ## Outputs shown

-- how many of a port's outputs a mark shows: those whose own marks are at most this one
abbrev pub shown_of : BookValue → ℕ → ℕ → ℕ
shown_of b p mark = count_by (λ least. nat_le least mark) (marks_of b p)

-- up to which position a mark shows a port's outputs
abbrev pub shown_upto_of : BookValue → ℕ → ℕ → ℕ
shown_upto_of b p mark = (port_in b p).out_base + shown_of b p mark

-- the outputs from a position on that a mark shows
abbrev pub shown_from : BookValue → ℕ → ℕ → ℕ → List ℕ
shown_from b p mark from = drop (from - (port_in b p).out_base) (take (shown_of b p mark) (port_in b p).outputs)

-- A mark shows exactly the outputs before a position. There is a mark for each output. The given mark is at least those of the outputs
-- before the position, and less than those of the others.
pub record ShowsUpto (b : BookValue) (p mark upto : ℕ) : Type 0 where
  pub each : length (marks_of b p) ≡ length (port_in b p).outputs
  pub within : upto ≤ (port_in b p).out_base + length (port_in b p).outputs
  pub shown : (k : ℕ) → (port_in b p).out_base + k < upto → get_or (marks_of b p) k 0 ≤ mark
  pub hidden : (k : ℕ) → k < length (port_in b p).outputs → upto ≤ (port_in b p).out_base + k → mark < get_or (marks_of b p) k 0
