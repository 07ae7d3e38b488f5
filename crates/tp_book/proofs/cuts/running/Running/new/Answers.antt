use Rattle.std.proofs.Common.{ℕ, ◌+◌, true, length, set, map, ap, ◌∙◌, arith, length-set}
use Rattle.tp_book.proofs.Lower.{WholeCut, length-replicate}
use Rattle.tp_book.proofs.Counts.{first_is}
use Rattle.tp_book.proofs.cuts.running.Running.new.Goals as goal

pub returns : goal.returns
returns c =
    first_is c.args.nodes c.args.lines c.args.hosts c.args.size (map (λ p. p.port) c.args.ports.now) c.put_count.new.self c.in_ok-recorded.recorded.items c.in_ok-closed.closed.items
    (c.put_count.ensures ∙ ap {A = WholeCut} (λ cut. record cut { counts = set cut.counts c.args.nodes c.args.hosts }) c.in_ok-cut.ensures)
    (c.in_ok-recorded.ensures.items_if_clones_equal (λ y e. cc)) (c.in_ok-closed.ensures.items_if_clones_equal (λ y e. cc))

pub put_count-requires : goal.put_count-requires
put_count-requires c = omega (arith, ap (λ (cut : WholeCut). length cut.counts) c.in_ok-cut.ensures, length-replicate {A = ℕ} (c.args.nodes + 1) 0)

pub invariant_of-result : goal.invariant_of-result
invariant_of-result c =
    omega (
      arith,
      length-set c.in_ok-recorded.recorded.items c.args.nodes true,
      c.in_ok-recorded.recorded.ok.0,
      c.in_ok-recorded.ensures.len,
      ap (λ (cut : WholeCut). length cut.counts) c.put_count.ensures,
      length-set c.in_ok-cut.cut.counts c.args.nodes c.args.hosts,
      ap (λ (cut : WholeCut). length cut.counts) c.in_ok-cut.ensures,
      length-replicate {A = ℕ} (c.args.nodes + 1) 0,
    )
