-- What the acts of a snapshot do to a book.
use Rattle.std.specs.Prelude.{ℕ, Bool, ◌&&◌, List, length, set, drop, replicate, Option, Some, None, is_some, slice_get}
use Rattle.tp_book.specs.Lower.{option_map, Token, has_wire, process_at, receiver, on_line, sent, process, made, before, has_marker, unmarked, first_snapshot, with_count, with_closed, closed_over, host_markers, node_markers, is_full_for_snapshot}
use Rattle.tp_book.specs.Needs.{has_recorded_in}
use Rattle.tp_book.specs.declared.refusal.Refusal.{Refusal}
use Rattle.tp_book.specs.declared.refusal.Refusal.TheVariants.{JournalFull, StoreBroken, SnapshotRunning}
use Rattle.tp_book.specs.Book.{BookValue, agreed}
use Rattle.tp_book.specs.Refusals.{else_if}

-- a book with other lines
abbrev pub with_lines : BookValue → List (List Token) → BookValue
with_lines b lines = record b { state = record b.state { lines = lines } }

-- the book after a snapshot began: the host recorded its ports and sent its Markers
abbrev pub after_begin : BookValue → BookValue
after_begin b = record b {
  state = record b.state {
    lines = sent (has_wire b.state.start.wires) b.state.lines (host_markers (length b.state.start.nodes) (length b.state.ports));
    snapshot = Some (first_snapshot (length b.state.start.nodes) (length b.state.lines) (made (process b.state.start.wires (length b.state.start.nodes)) (length b.state.start.nodes) b.state.entries) b.state.ports (length b.state.entries));
  };
  frozen = replicate (length b.state.start.nodes) None;
}

-- the book after a node recorded: its image is frozen, and it sent its Markers
abbrev pub after_record : BookValue → ℕ → BookValue
after_record b node = record b {
  state = record b.state {
    lines = sent (has_wire b.state.start.wires) b.state.lines (node_markers node);
    snapshot = option_map (λ snap. with_count snap node (made (process b.state.start.wires (length b.state.start.nodes)) node b.state.entries)) b.state.snapshot;
  };
  frozen = set b.frozen node (slice_get (agreed b.state) node);
}

-- the book after the Marker at the front of a line was taken
abbrev pub after_close : BookValue → ℕ → BookValue
after_close b line = record b {
  state = record b.state {
    lines = set b.state.lines line (drop 1 (on_line b.state.lines line));
    snapshot = option_map (λ snap. with_closed snap line) b.state.snapshot;
  };
}

-- the book after the Marker of a line was taken, also from after other tokens
abbrev pub after_close_over : BookValue → ℕ → BookValue
after_close_over b line = record b {
  state = record b.state {
    lines = set b.state.lines line (unmarked (on_line b.state.lines line));
    snapshot = option_map (λ snap. closed_over snap line (before (on_line b.state.lines line))) b.state.snapshot;
  };
}

-- the process that receives a line
abbrev pub taker_of : BookValue → ℕ → ℕ
taker_of b line = process_at (length b.state.start.nodes) (receiver b.state.start.wires line)

-- a Marker is on the line, and its receiver has recorded
abbrev pub is_closable : BookValue → ℕ → Bool
is_closable b line = has_marker (on_line b.state.lines line) && has_recorded_in b.state.snapshot (taker_of b line)

-- why no snapshot can begin
abbrev pub begin_refusal : BookValue → Option Refusal
begin_refusal b = else_if (else_if (else_if None (is_some b.state.snapshot) SnapshotRunning) b.broken StoreBroken) (is_full_for_snapshot b.generation) JournalFull
