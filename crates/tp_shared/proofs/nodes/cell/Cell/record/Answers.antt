use Rattle.std.proofs.Common.{◌≡◌, ◌+◌, ◌*◌, ◌/◌, ◌<◌, length, refl, sym, ap, subst, ◌∙◌, arith}
use Rattle.std.proofs.lemmas.Option.{slice_get_read}
use Rattle.tp_shared.proofs.Placing.{celled_after}
use Rattle.tp_shared.specs.declared.nodes.cells.TheConstants.{CELLS}
use Rattle.tp_shared.proofs.nodes.cell.Cell.record.Goals as goal

pub index_mut-place-requires : goal.index_mut-place-requires
index_mut-place-requires g c =
    let same : CELLS * (c.args.number / CELLS) + g.row.I ≡ c.args.number = omega (arith, c.requires.here) in
    let below : CELLS * (c.args.number / CELLS) + g.row.I < length g.J.Naming.start.nodes = subst (λ n. n < length g.J.Naming.start.nodes) (sym same) c.requires.there in
    let inside = c.self.invariant.all (c.args.number / CELLS) below in
    omega (arith, inside)

pub record_of-requires-clause-named : goal.record_of-requires-clause-named
record_of-requires-clause-named g c =
    let same : CELLS * (c.args.number / CELLS) + g.row.I ≡ c.args.number = omega (arith, c.requires.here) in
    let below : CELLS * (c.args.number / CELLS) + g.row.I < length g.J.Naming.start.nodes = subst (λ n. n < length g.J.Naming.start.nodes) (sym same) c.requires.there in
    let at = slice_get_read c.self.inside.places.items (length c.self.inside.places.items) (c.args.number / CELLS) c.index_mut-place.result.now refl (c.self.invariant.all (c.args.number / CELLS) below) c.index_mut-place.ensures.value in
    (c.self.invariant.each (c.args.number / CELLS) c.index_mut-place.result.now at).named ∙ ap g.J.Naming.node same

pub record_of-requires-clause-shows : goal.record_of-requires-clause-shows
record_of-requires-clause-shows g c =
    let same : CELLS * (c.args.number / CELLS) + g.row.I ≡ c.args.number = omega (arith, c.requires.here) in
    let below : CELLS * (c.args.number / CELLS) + g.row.I < length g.J.Naming.start.nodes = subst (λ n. n < length g.J.Naming.start.nodes) (sym same) c.requires.there in
    let at = slice_get_read c.self.inside.places.items (length c.self.inside.places.items) (c.args.number / CELLS) c.index_mut-place.result.now refl (c.self.invariant.all (c.args.number / CELLS) below) c.index_mut-place.ensures.value in
    (c.self.invariant.each (c.args.number / CELLS) c.index_mut-place.result.now at).shows

pub invariant_of-self : goal.invariant_of-self
invariant_of-self g c =
    let same : CELLS * (c.args.number / CELLS) + g.row.I ≡ c.args.number = omega (arith, c.requires.here) in
    let below : CELLS * (c.args.number / CELLS) + g.row.I < length g.J.Naming.start.nodes = subst (λ n. n < length g.J.Naming.start.nodes) (sym same) c.requires.there in
    let at = slice_get_read c.self.inside.places.items (length c.self.inside.places.items) (c.args.number / CELLS) c.index_mut-place.result.now refl (c.self.invariant.all (c.args.number / CELLS) below) c.index_mut-place.ensures.value in
    let was = c.self.invariant.each (c.args.number / CELLS) c.index_mut-place.result.now at in
    celled_after g.row.I g.J.Naming.node (length g.J.Naming.start.nodes) c.self.inside.places.items (c.args.number / CELLS) c.index_mut-place.result.now c.record_of.new.place c.self.invariant at
    (record { there = below; named = c.record_of.ensures.named ∙ was.named; shows = c.record_of.ensures.shows })
