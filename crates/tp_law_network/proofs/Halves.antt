-- The node's half and the book's half of an act are the act.
use Rattle.std.proofs.Common.{◌≡◌, ℕ, ◌<◌, true, false, cond, not, List, [], ◌∷◌, ◌++◌, length, set, drop, replicate, refl, sym, ap, ◌∙◌, arith, append-nil, Option, Some, None, slice_get}
use Rattle.std.specs.Prelude.{◌&&◌}
use Rattle.tp_law_network.proofs.Lower.{option_map, lt-ltb, set-get_or, slice_get_within, Token, Marker, Entry, ◌>>=◌, Machine, Network, Port, OfNode, OfHost, own, put, receiver, has_wire, process_at, on_line, is_first, taken, sent, process, takes, does, next, made, before, has_marker, unmarked, Snapshot, has_recorded, taker, closed_over, collected, journalled, first_snapshot, host_markers, WholeCut, all_some, whole, Begin, Record, Journal, Close, Trim, begin, record_node, close_line, trim, happens, BookState, live, marked, whole_in, without, with_half, with_begin, with_record, with_close, with_close_over, with_trim}
use Rattle.tp_law_network.proofs.Lines.{first_is, without_taken}
use Rattle.tp_law_network.proofs.Local.{Step, next_from, own-node, own-host, process_same, takes_same}

module _ {Node : Type 0} (M : Machine Node) (b : BookState Node) (nodes : List Node) (frozen : List (Option Node)) (as_many : length nodes ≡ length b.start.nodes) where
  process_live : (e : Entry) → process (live b nodes).wires (length (live b nodes).nodes) e ≡ process b.start.wires (length b.start.nodes) e
  process_live e = process_same b.start (live b nodes) refl as_many e

  -- ## Entries

  -- an entry that leads from the network of the book and its nodes to another one
  joined : (e : Entry) (t : Network Node) → next M (live b nodes) e ≡ Some t
      → happens M (marked b nodes frozen) (Journal e)
      ≡ Some (record { start = b.start; entries = b.entries ++ e ∷ []; live = t; snapshot = option_map (collected (process b.start.wires (length b.start.nodes) e) (takes b.start.wires (length b.start.nodes) e)) b.snapshot; frozen = frozen })
  unfolding happens
  joined e t h = ap (λ given. given >>= λ after. Some (journalled (marked b nodes frozen) e after)) h
      ∙ ap (λ ms. Some (record { start = b.start; entries = b.entries ++ e ∷ []; live = t; snapshot = option_map (collected (process b.start.wires (length b.start.nodes) e) ms) b.snapshot; frozen = frozen })) (takes_same b.start (live b nodes) refl as_many e)

  -- An entry of a node: the node did its half, and the book does the rest.
  pub node_joins : (e : Entry) (n after : Node) (sends : List (ℕ × Token)) (out : List (List Token))
      → slice_get nodes (process b.start.wires (length b.start.nodes) e) ≡ Some n → taken b.lines (takes b.start.wires (length b.start.nodes) e) ≡ Some out
      → does M b.start.wires (length nodes) e (OfNode n) ≡ Some (OfNode after, sends)
      → happens M (marked b nodes frozen) (Journal e) ≡ Some (marked (with_half b e b.ports sends) (set nodes (process b.start.wires (length b.start.nodes) e) after) frozen)
  unfolding put
  node_joins e n after sends out at takes_out change = joined e (live (with_half b e b.ports sends) (set nodes (process b.start.wires (length b.start.nodes) e) after)) (next_from M (live b nodes) e _ S)
    where
      S : Step M (live b nodes) e (live (with_half b e b.ports sends) (set nodes (process b.start.wires (length b.start.nodes) e) after))
      S = record {
        out = without b.lines (takes b.start.wires (length b.start.nodes) e);
        takes_out = ap (λ ms. taken b.lines ms) (takes_same b.start (live b nodes) refl as_many e) ∙ takes_out ∙ ap Some (sym (without_taken b.lines (takes b.start.wires (length b.start.nodes) e) out takes_out));
        was = OfNode n;
        own_was = ap (own (live b nodes)) (process_live e)
            ∙ own-node (live b nodes) (process b.start.wires (length b.start.nodes) e) (λ h. let below = slice_get_within nodes (process b.start.wires (length b.start.nodes) e) n at in omega arith)
            ∙ ap (option_map OfNode) at;
        now = OfNode after;
        sends = sends;
        change = change;
        makes = ap (λ p. put (record (live b nodes) { lines = sent (has_wire b.start.wires) (without b.lines (takes b.start.wires (length b.start.nodes) e)) sends }) p (OfNode after)) (process_live e);
      }

  -- An entry of the host.
  pub host_joins : (e : Entry) (ports : List Port) (sends : List (ℕ × Token)) (out : List (List Token))
      → process b.start.wires (length b.start.nodes) e ≡ length nodes → taken b.lines (takes b.start.wires (length b.start.nodes) e) ≡ Some out
      → does M b.start.wires (length nodes) e (OfHost b.ports) ≡ Some (OfHost ports, sends)
      → happens M (marked b nodes frozen) (Journal e) ≡ Some (marked (with_half b e ports sends) nodes frozen)
  unfolding put
  host_joins e ports sends out host takes_out change = joined e (live (with_half b e ports sends) nodes) (next_from M (live b nodes) e _ S)
    where
      S : Step M (live b nodes) e (live (with_half b e ports sends) nodes)
      S = record {
        out = without b.lines (takes b.start.wires (length b.start.nodes) e);
        takes_out = ap (λ ms. taken b.lines ms) (takes_same b.start (live b nodes) refl as_many e) ∙ takes_out ∙ ap Some (sym (without_taken b.lines (takes b.start.wires (length b.start.nodes) e) out takes_out));
        was = OfHost b.ports;
        own_was = ap (own (live b nodes)) (process_live e ∙ host) ∙ own-host (live b nodes);
        now = OfHost ports;
        sends = sends;
        change = change;
        makes = refl;
      }

  -- ## The other acts

  -- the cut that the book finds whole is the network's
  pub whole_joins : whole (marked b nodes frozen) ≡ whole_in b
  unfolding whole
  whole_joins = refl

  -- A snapshot begins, and no node is frozen yet.
  pub begin_joins : b.snapshot ≡ None → happens M (marked b nodes frozen) Begin ≡ Some (marked (with_begin b) nodes (replicate (length nodes) None))
  unfolding happens
  begin_joins idle = ap (begin (marked b nodes frozen)) idle ∙ ap (λ N. Some (marked (record b {
    lines = sent (has_wire b.start.wires) b.lines (host_markers N (length b.ports));
    snapshot = Some (first_snapshot N (length b.lines) (made (process b.start.wires (length b.start.nodes)) N b.entries) b.ports (length b.entries));
  }) nodes (replicate (length nodes) None))) as_many

  -- A node records: its image is frozen under its lock, and the book does the rest.
  pub record_joins : (snap : Snapshot) (i : ℕ) → b.snapshot ≡ Some snap → i < length nodes → has_recorded snap i ≡ false
      → happens M (marked b nodes frozen) (Record i) ≡ Some (marked (with_record b snap i) nodes (set frozen i (slice_get nodes i)))
  unfolding happens
  record_joins snap i runs below new =
      ap (λ given. record_node (marked b nodes frozen) given i) runs
      ∙ ap (λ c. cond (c && not (has_recorded snap i)) (Some (marked (with_record b snap i) nodes (set frozen i (slice_get nodes i)))) None) (lt-ltb i (length nodes) below)
      ∙ ap (λ c. cond (not c) (Some (marked (with_record b snap i) nodes (set frozen i (slice_get nodes i)))) None) new

  -- A line's Marker is taken.
  pub close_over_joins : (snap : Snapshot) (line : ℕ) → b.snapshot ≡ Some snap → has_marker (on_line b.lines line) ≡ true → has_recorded snap (taker b.start line) ≡ true
      → happens M (marked b nodes frozen) (Close line) ≡ Some (marked (with_close_over b snap line) nodes frozen)
  unfolding happens
  close_over_joins snap line runs marker has =
      ap (λ given. close_line (marked b nodes frozen) given line) runs
      ∙ ap (λ c. cond (c && has_recorded snap (taker (live b nodes) line)) (Some (marked (with_close_over b snap line) nodes frozen)) None) marker
      ∙ ap (λ c. cond c (Some (marked (with_close_over b snap line) nodes frozen)) None) (ap (λ N. has_recorded snap (process_at N (receiver b.start.wires line))) as_many ∙ has)

  -- nothing is before a Marker at the front
  over_front : (snap : Snapshot) (line : ℕ) → is_first (on_line b.lines line) Marker ≡ true → with_close_over b snap line ≡ with_close b snap line
  over_front snap line front =
      let first = first_is (on_line b.lines line) Marker front in
      ap (λ ts. record b { lines = set b.lines line ts; snapshot = Some (closed_over snap line (before (on_line b.lines line))) }) (ap unmarked first)
      ∙ ap (λ ts. record b { lines = set b.lines line (drop 1 (on_line b.lines line)); snapshot = Some (closed_over snap line ts) }) (ap before first)
      ∙ ap (λ ls. record b { lines = set b.lines line (drop 1 (on_line b.lines line)); snapshot = Some (record snap { lines = ls; closed = set snap.closed line true }) })
      (ap (λ ts. set snap.lines line ts) (append-nil (on_line snap.lines line)) ∙ set-get_or snap.lines line [])

  -- The Marker at the front of a line is taken.
  pub close_joins : (snap : Snapshot) (line : ℕ) → b.snapshot ≡ Some snap → is_first (on_line b.lines line) Marker ≡ true → has_recorded snap (taker b.start line) ≡ true
      → happens M (marked b nodes frozen) (Close line) ≡ Some (marked (with_close b snap line) nodes frozen)
  close_joins snap line runs front has =
      close_over_joins snap line runs (ap has_marker (first_is (on_line b.lines line) Marker front)) has
      ∙ ap (λ c. Some (marked c nodes frozen)) (over_front snap line front)

  -- The book is trimmed to its whole cut with the frozen nodes.
  pub trim_joins : (cut : WholeCut) (images : List Node) → whole_in b ≡ Some cut → all_some frozen ≡ Some images
      → happens M (marked b nodes frozen) Trim ≡ Some (marked (with_trim b cut images) nodes [])
  unfolding happens
  trim_joins cut images is there =
      ap (λ given. trim (marked b nodes frozen) given (all_some frozen)) (whole_joins ∙ is)
      ∙ ap (λ given. trim (marked b nodes frozen) (Some cut) given) there
