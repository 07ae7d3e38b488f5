use Rattle.std.proofs.Common.{◌<◌, false, length, refl, sym, ◌∙◌, arith}
use Rattle.std.proofs.lemmas.Option.{slice_get_read, get_or_from_slice_get}
use Rattle.tp_book.proofs.Counts.{length-counts, recorded-counts}
use Rattle.tp_book.proofs.cuts.running.Running.has_recorded.Goals as goal

pub index-requires : goal.index-requires
index-requires c =
    let below = rw (← c.self.view_is) at c.requires in
    omega (arith, below, length-counts c.self.inside.recorded.items c.self.inside.cut.counts c.self.invariant, c.self.inside.recorded.ok.0)

pub returns : goal.returns
returns c =
    let below = rw (← c.self.view_is) at c.requires in
    let within : c.args.process < length c.self.inside.recorded.items = omega (arith, below, length-counts c.self.inside.recorded.items c.self.inside.cut.counts c.self.invariant) in
    let at = slice_get_read c.self.inside.recorded.items (length c.self.inside.recorded.items) c.args.process c.index.result.now refl within c.index.ensures in
    rw (← c.self.view_is)
    (sym (get_or_from_slice_get c.self.inside.recorded.items c.args.process c.index.result.now false at)
    ∙ sym (recorded-counts c.self.inside.recorded.items c.self.inside.cut.counts c.args.process c.self.invariant within))
