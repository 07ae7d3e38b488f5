use Rattle.std.proofs.Common.{◌≡◌, ◌+◌, ◌*◌, ◌/◌, ◌<◌, Bool, Option, length, refl, sym, ap, subst, ◌∙◌, arith}
use Rattle.std.specs.Prelude.{◌&&◌, nat_lt}
use Rattle.tp_shared.proofs.Lower.{slice_get_read, PAGE_BYTES, NodeState}
use Rattle.tp_shared.specs.Frozen.{has_page_in, keeps_pages}
use Rattle.tp_shared.proofs.Placing.{celled_after}
use Rattle.tp_shared.specs.declared.nodes.cells.TheConstants.{CELLS}
use Rattle.tp_shared.proofs.nodes.cell.Cell.frozen_pages.Goals as goal

pub index_mut-place-requires : goal.index_mut-place-requires
index_mut-place-requires g c =
    let same : CELLS * (c.args.number / CELLS) + g.row.I ≡ c.args.number = omega (arith, c.requires.here) in
    let below : CELLS * (c.args.number / CELLS) + g.row.I < length g.J.Naming.start.nodes = subst (λ n. n < length g.J.Naming.start.nodes) (sym same) c.requires.there in
    let inside = c.self.invariant.all (c.args.number / CELLS) below in
    omega (arith, inside)

pub pages_of-requires-clause-named : goal.pages_of-requires-clause-named
pages_of-requires-clause-named g c =
    let same : CELLS * (c.args.number / CELLS) + g.row.I ≡ c.args.number = omega (arith, c.requires.here) in
    let below : CELLS * (c.args.number / CELLS) + g.row.I < length g.J.Naming.start.nodes = subst (λ n. n < length g.J.Naming.start.nodes) (sym same) c.requires.there in
    let at = slice_get_read c.self.inside.places.items (length c.self.inside.places.items) (c.args.number / CELLS) c.index_mut-place.result.now refl (c.self.invariant.all (c.args.number / CELLS) below) c.index_mut-place.ensures.value in
    (c.self.invariant.each (c.args.number / CELLS) c.index_mut-place.result.now at).named ∙ ap g.J.Naming.node same

pub pages_of-requires-clause-shows : goal.pages_of-requires-clause-shows
pages_of-requires-clause-shows g c =
    let same : CELLS * (c.args.number / CELLS) + g.row.I ≡ c.args.number = omega (arith, c.requires.here) in
    let below : CELLS * (c.args.number / CELLS) + g.row.I < length g.J.Naming.start.nodes = subst (λ n. n < length g.J.Naming.start.nodes) (sym same) c.requires.there in
    let at = slice_get_read c.self.inside.places.items (length c.self.inside.places.items) (c.args.number / CELLS) c.index_mut-place.result.now refl (c.self.invariant.all (c.args.number / CELLS) below) c.index_mut-place.ensures.value in
    (c.self.invariant.each (c.args.number / CELLS) c.index_mut-place.result.now at).shows

pub returns-clause-kept : goal.returns-clause-kept
returns-clause-kept g c k low =
    let E = c.pages_of.ensures in
    let told = c.pages_of.new.key.value in
    let live = c.index_mut-place.result.now.node.live in
    E.answer k low ∙ ap (λ (kept : Bool). kept && nat_lt (PAGE_BYTES * (c.args.first + k)) (length live.memory)) (sym E.kept)
    ∙ ap (λ (found : Option NodeState). keeps_pages told.frozen c.args.number && has_page_in found (c.args.first + k)) (sym E.there)

pub invariant_of-self : goal.invariant_of-self
invariant_of-self g c =
    let same : CELLS * (c.args.number / CELLS) + g.row.I ≡ c.args.number = omega (arith, c.requires.here) in
    let below : CELLS * (c.args.number / CELLS) + g.row.I < length g.J.Naming.start.nodes = subst (λ n. n < length g.J.Naming.start.nodes) (sym same) c.requires.there in
    let at = slice_get_read c.self.inside.places.items (length c.self.inside.places.items) (c.args.number / CELLS) c.index_mut-place.result.now refl (c.self.invariant.all (c.args.number / CELLS) below) c.index_mut-place.ensures.value in
    let was = c.self.invariant.each (c.args.number / CELLS) c.index_mut-place.result.now at in
    celled_after g.row.I g.J.Naming.node (length g.J.Naming.start.nodes) c.self.inside.places.items (c.args.number / CELLS) c.index_mut-place.result.now c.pages_of.new.place c.self.invariant at
    (record { there = below; named = c.pages_of.ensures.named ∙ was.named; shows = c.pages_of.ensures.shows })
