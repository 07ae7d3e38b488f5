use Rattle.std.proofs.Common.{ap, arith}
use Rattle.tp_book.specs.Running.{snapshot_of}
use Rattle.tp_book.proofs.Counts.{length-counts, counts-set}
use Rattle.tp_book.proofs.cuts.running.Running.record.Goals as goal

pub put_count-requires : goal.put_count-requires
put_count-requires c =
    let below = rw (← c.self.view_is) at c.requires in
    omega (arith, below, length-counts c.self.inside.recorded.items c.self.inside.cut.counts c.self.invariant, c.self.invariant)

pub index_mut-requires : goal.index_mut-requires
index_mut-requires c =
    let below = rw (← c.self.view_is) at c.requires in
    omega (arith, below, length-counts c.self.inside.recorded.items c.self.inside.cut.counts c.self.invariant, c.self.inside.recorded.ok.0)

pub returns : goal.returns
returns c =
    rw (c.put_count.ensures, ← c.self.view_is)
    (ap (λ given. record (snapshot_of c.self.inside) { counts = given }) (counts-set c.self.inside.recorded.items c.self.inside.cut.counts c.args.process c.args.count c.self.invariant))
