use Rattle.std.proofs.Common.{◌≡◌, ◌+◌, ◌*◌, ◌/◌, ◌<◌, Some, length, slice_get, sym, subst, ap, ◌∙◌, arith, refl}
use Rattle.std.specs.Prelude.{IfSome}
use Rattle.tp_shared.proofs.Lower.{slice_get_read, standing}
use Rattle.tp_shared.specs.declared.nodes.cells.TheConstants.{CELLS}
use Rattle.tp_shared.proofs.nodes.cell.Cell.standing.Goals as goal

pub index-requires : goal.index-requires
index-requires g c =
    let same : CELLS * (c.args.number / CELLS) + g.row.I ≡ c.args.number = omega (arith, c.requires.here) in
    let below : CELLS * (c.args.number / CELLS) + g.row.I < length g.J.Naming.start.nodes = subst (λ n. n < length g.J.Naming.start.nodes) (sym same) c.requires.there in
    let inside = c.self.invariant.all (c.args.number / CELLS) below in
    omega (arith, inside)

pub returns : goal.returns
returns g c =
    let same : CELLS * (c.args.number / CELLS) + g.row.I ≡ c.args.number = omega (arith, c.requires.here) in
    let below : CELLS * (c.args.number / CELLS) + g.row.I < length g.J.Naming.start.nodes = subst (λ n. n < length g.J.Naming.start.nodes) (sym same) c.requires.there in
    let read = slice_get_read c.self.inside.places.items (length c.self.inside.places.items) (c.args.number / CELLS) c.index.result.now refl (c.self.invariant.all (c.args.number / CELLS) below) c.index.ensures in
    let at : slice_get c.args.self.now (c.args.number / CELLS) ≡ Some c.index.result.now = ap (λ places. slice_get places (c.args.number / CELLS)) (sym c.self.view_is) ∙ read in
    subst (λ found. IfSome found (λ place. c.standing.result ≡ standing place.node.live)) (sym at) c.standing.ensures
