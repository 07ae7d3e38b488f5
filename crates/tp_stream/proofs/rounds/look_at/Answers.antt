use Rattle.std.proofs.Common.{◌≡◌, ℕ, Bool, false, sym, ap, ◌∙◌}
use Rattle.tp_stream.proofs.Lower.{has_recorded_in, BookValue, count_of_nodes}
use Rattle.tp_stream.proofs.rounds.look_at.Goals as goal

-- the host hasn't recorded in the book that was seen
seen_still : (seen one other : BookValue) (nodes : ℕ) (running : Bool) → one ≡ seen → other ≡ seen → nodes ≡ count_of_nodes other
    → running ≡ has_recorded_in one.state.snapshot nodes → running ≡ false → has_recorded_in seen.state.snapshot (count_of_nodes seen) ≡ false
seen_still seen one other nodes running first second many is still =
    ap (has_recorded_in seen.state.snapshot) (sym (many ∙ ap count_of_nodes second)) ∙ sym (ap (λ (b : BookValue). has_recorded_in b.state.snapshot nodes) first) ∙ sym is ∙ still

pub returns-clause-still : goal.returns-clause-still
returns-clause-still g c still = record {
  seen = c.args.held.now.book;
  nodes = c.known.ensures.nodes;
  ports = c.known.ensures.ports;
  still =
      seen_still c.args.held.now.book c.book-2.result.now c.book-3.result.now c.nodes.result c.recorded.result c.book-2.ensures c.book-3.ensures c.nodes.ensures
      c.recorded.ensures still;
}
