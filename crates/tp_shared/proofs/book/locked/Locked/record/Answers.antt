use Rattle.std.proofs.Common.{◌<◌, ◌≡◌, ◌∙◌, List, [], length, ap, sym, subst, arith, Some}
use Rattle.std.specs.Prelude.{is_some}
use Rattle.tp_shared.proofs.Lower.{length-set, Entry, is_asked, world_of, Done, IsNodeOf, moment_of, Records}
use Rattle.tp_shared.specs.Agreement.{Agreement, at_rest}
use Rattle.tp_shared.specs.Frozen.{frozen_in}
use Rattle.tp_shared.specs.Holds.{IsBookOf}
use Rattle.tp_shared.specs.declared.nodes.seal.NodeSeal.{NodeSeal}
use Rattle.tp_shared.proofs.Gone.{gone_set, recorded_as}
use Rattle.tp_shared.proofs.Sealing.{node_of_seal, reserved_after, rest_seal, sealed_after}
use Rattle.tp_shared.proofs.Thawing.{thaws_set, thawed_at, thawed_recorded}
use Rattle.tp_shared.proofs.Keeping.{seal_at, acted_still}
use Rattle.tp_shared.proofs.book.locked.Locked.record.Goals as goal

pub agree-requires : goal.agree-requires
agree-requires g c =
    let inv = c.self.invariant in
    let here = c.index_mut-here.result.now in
    let at = seal_at inv c.args.number here c.requires.there c.index_mut-here.ensures.value in
    let S = inv.sealed c.args.number here at in
    S.named ∙ sym c.requires.named

pub turn-requires : goal.turn-requires
turn-requires g c =
    let inv = c.self.invariant in
    let here = c.index_mut-here.result.now in
    let at = seal_at inv c.args.number here c.requires.there c.index_mut-here.ensures.value in
    let S = inv.sealed c.args.number here at in
    c.agree.ensures.names.0 ∙ S.named ∙ sym c.requires.named ∙ sym c.agree.ensures.names.1

pub record-requires-clause-free : goal.record-requires-clause-free
record-requires-clause-free g c =
    let b = c.self.inside.book in
    let inv = c.self.invariant in
    let here = c.index_mut-here.result.now in
    let at = seal_at inv c.args.number here c.requires.there c.index_mut-here.ensures.value in
    let S = inv.sealed c.args.number here at in
    S.reserved ∙ ap (λ (x : Agreement). Some x.reserved) (ap (λ x. x.state) c.agree.ensures.agreed ∙ c.requires.shows.shown)

pub record-requires-clause-is : goal.record-requires-clause-is
record-requires-clause-is g c =
    let b = c.self.inside.book in
    let inv = c.self.invariant in
    let here = c.index_mut-here.result.now in
    let at = seal_at inv c.args.number here c.requires.there c.index_mut-here.ensures.value in
    let S = inv.sealed c.args.number here at in
    let shown = ap (λ x. x.state) c.agree.ensures.agreed ∙ c.requires.shows.shown in
    node_of_seal (g.J.Naming.node c.args.number) here.seal.value.state here.frozen here.seal.name b c.args.number c.args.place.now.node S
    (ap (λ (x : Agreement). x.node) shown) (ap (λ (x : Agreement). x.frozen) shown) c.requires.shows.image

pub invariant_of-self : goal.invariant_of-self
invariant_of-self g c =
    let b = c.self.inside.book in
    let inv = c.self.invariant in
    let here = c.index_mut-here.result.now in
    let at = seal_at inv c.args.number here c.requires.there c.index_mut-here.ensures.value in
    let S = inv.sealed c.args.number here at in
    let new = c.record.new.book in
    let node = c.record.new.node in
    let Are = λ (entries : List Entry). entries ≡ [] in
    let A = c.record.ensures.acted in
    let now : NodeSeal = record { frozen = c.is_frozen-here.result; seal = c.turn.new.seal } in
    let below : c.args.number < length c.self.inside.seals.items = (let count = inv.seal_count in omega (arith, count, c.requires.there)) in
    acted_still inv A.grown (ap length A.runs ∙ length-set b.runs c.args.number _) (length-set c.self.inside.seals.items c.args.number _)
    (sealed_after Are g.J.Naming.node c.self.inside.seals.items b new c.args.number (at_rest node) inv.sealed A below now
    (rest_seal (g.J.Naming.node c.args.number) now new c.args.number node c.record.ensures.is (reserved_after Are g.J.Naming.node c.self.inside.seals.items b new c.args.number (at_rest node) inv.sealed A below)
    (c.turn.ensures.names.0 ∙ c.agree.ensures.names.0 ∙ S.named) (ap (λ x. x.state) c.turn.ensures.seal ∙ c.free-now.ensures) c.is_frozen-here.ensures))
    (thaws_set c.self.inside.told.value c.self.inside.seals.items c.args.number now inv.thawed
    (λ thawed.
    c.is_frozen-here.ensures
    ∙ ap is_some (c.record.ensures.stays (thawed_recorded g.J.Naming.before g.J.Naming.first c.self.inside.told.value c.self.inside.seals.items (record { book = b; all = c.self.inside.roll.items; numbered_from = c.self.inside.told.value.numbered_from; frozen = frozen_in c.self.inside.seals.items }) thawed inv.since c.args.number))
    ∙ ap (λ (x : Agreement). is_some x.frozen) (sym (ap (λ x. x.state) c.agree.ensures.agreed ∙ c.requires.shows.shown))
    ∙ sym S.flag
    ∙ thawed_at c.self.inside.told.value c.self.inside.seals.items c.args.number here thawed at))
    (gone_set (world_of b) c.self.inside.seals.items c.args.number here now at
    (λ n F none.
    c.is_frozen-here.ensures
    ∙ ap is_some (c.record.ensures.stays (recorded_as b c.args.number n F))
    ∙ ap (λ (x : Agreement). is_some x.frozen) (sym (ap (λ x. x.state) c.agree.ensures.agreed ∙ c.requires.shows.shown))
    ∙ sym S.flag
    ∙ none))

pub returns-clause-did : goal.returns-clause-did
returns-clause-did g c = subst (λ stage. Done c.args.number (Records c.args.number) (moment_of stage.book c.args.place.now.node) (moment_of c.record.new.book c.record.new.node)) c.self.view_is c.record.ensures.did

pub asked-asked-requires : goal.asked-asked-requires
asked-asked-requires g c =
    let runs = c.self.invariant.run_count in
    omega (arith, runs, c.requires.there)

pub returns-clause-is : goal.returns-clause-is
returns-clause-is g c =
    let b = c.self.inside.book in
    let inv = c.self.invariant in
    let here = c.index_mut-here.result.now in
    let at = seal_at inv c.args.number here c.requires.there c.index_mut-here.ensures.value in
    let S = inv.sealed c.args.number here at in
    let shown = ap (λ x. x.state) c.agree.ensures.agreed ∙ c.requires.shows.shown in
    subst (λ stage. IsNodeOf stage.book c.args.number c.args.place.now.node) c.self.view_is
    (node_of_seal (g.J.Naming.node c.args.number) here.seal.value.state here.frozen here.seal.name b c.args.number c.args.place.now.node S
    (ap (λ (x : Agreement). x.node) shown) (ap (λ (x : Agreement). x.frozen) shown) c.requires.shows.image)

pub returns-clause-of : goal.returns-clause-of
returns-clause-of g c = subst (λ stage. IsBookOf g.J.Naming.start stage.book) c.self.view_is (record { wires = c.self.invariant.wires_are; nodes = c.self.invariant.count_is })

pub returns-clause-asked : goal.returns-clause-asked
returns-clause-asked g c = subst (λ stage. c.asked-asked.result ≡ is_asked stage.book.state.snapshot c.args.number) c.self.view_is c.asked-asked.ensures
