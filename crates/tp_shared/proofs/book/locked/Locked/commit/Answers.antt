use Rattle.std.proofs.Common.{◌<◌, ◌≡◌, ◌∙◌, List, [], length, set, ap, refl, sym, subst, arith, Some}
use Rattle.std.specs.Prelude.{is_some}
use Rattle.tp_shared.proofs.Lower.{length-set, Entry, NodeContents, world_of, without_run, Added, opened_acts, opened_entries, turned_by}
use Rattle.tp_shared.specs.Agreement.{Agreement, at_rest}
use Rattle.tp_shared.specs.Frozen.{frozen_in}
use Rattle.tp_shared.specs.HandedIn.{handed}
use Rattle.tp_shared.specs.Seals.{Stage}
use Rattle.tp_shared.specs.Gains.{HoldNoted}
use Rattle.tp_shared.specs.Holds.{IsBookOf}
use Rattle.tp_shared.specs.declared.nodes.seal.NodeSeal.{NodeSeal}
use Rattle.tp_shared.proofs.Gone.{gone_set}
use Rattle.tp_shared.proofs.HandedIn.{handed_commit}
use Rattle.tp_shared.proofs.Sealing.{node_of_seal, noted_by, reserved_after, rest_seal, sealed_after}
use Rattle.tp_shared.proofs.Thawing.{thaws_set, thawed_at}
use Rattle.tp_shared.proofs.Writing.{as_many}
use Rattle.tp_shared.proofs.Keeping.{seal_at, acted_written, given_still}
use Rattle.tp_shared.proofs.book.locked.Locked.commit.Goals as goal

pub agree-requires : goal.agree-requires
agree-requires g c =
    let inv = c.self.invariant in
    let here = c.index_mut-here.result.now in
    let at = seal_at inv c.args.number here c.requires.there c.index_mut-here.ensures.value in
    let S = inv.sealed c.args.number here at in
    S.named ∙ sym c.requires.named

pub turn-requires : goal.turn-requires
turn-requires g c =
    let inv = c.self.invariant in
    let here = c.index_mut-here.result.now in
    let at = seal_at inv c.args.number here c.requires.there c.index_mut-here.ensures.value in
    let S = inv.sealed c.args.number here at in
    c.agree.ensures.names.0 ∙ S.named ∙ sym c.requires.named ∙ sym c.agree.ensures.names.1

pub commit-ran-requires-clause-reserved : goal.commit-ran-requires-clause-reserved
commit-ran-requires-clause-reserved g c =
    let inv = c.self.invariant in
    let here = c.index_mut-here.result.now in
    let at = seal_at inv c.args.number here c.requires.there c.index_mut-here.ensures.value in
    let S = inv.sealed c.args.number here at in
    S.reserved ∙ ap (λ (x : Agreement). Some x.reserved) (ap (λ x. x.state) c.agree.ensures.agreed ∙ c.requires.ran.shown)

pub commit-ran-requires-clause-turned : goal.commit-ran-requires-clause-turned
commit-ran-requires-clause-turned g c =
    let b = c.self.inside.book in
    let inv = c.self.invariant in
    let here = c.index_mut-here.result.now in
    let at = seal_at inv c.args.number here c.requires.there c.index_mut-here.ensures.value in
    let S = inv.sealed c.args.number here at in
    let R = c.requires.ran in
    let node = c.args.place.now.node in
    let shown = ap (λ x. x.state) c.agree.ensures.agreed ∙ R.shown in
    let before : NodeContents = record { live = R.before; frozen = node.frozen; shared = []; spare = 0 } in
    let ahead : NodeContents = record { live = R.ahead; frozen = node.frozen; shared = []; spare = 0 } in
    turned_by b c.args.number c.args.opened c.args.stretch.ran.count c.args.stretch.sent.items before ahead node
    (node_of_seal (g.J.Naming.node c.args.number) here.seal.value.state here.frozen here.seal.name b c.args.number before S (ap (λ (x : Agreement). x.node) shown) (ap (λ (x : Agreement). x.frozen) shown) R.was)
    (λ takes given. let W = S.received takes (ap (λ (x : Agreement). x.takes) shown ∙ given) in (W.form, W.fronts))
    R.took refl R.image c.requires.few R.made refl

pub invariant_of-self : goal.invariant_of-self
invariant_of-self g c =
    let b = c.self.inside.book in
    let inv = c.self.invariant in
    let seals = c.self.inside.seals.items in
    let here = c.index_mut-here.result.now in
    let at = seal_at inv c.args.number here c.requires.there c.index_mut-here.ensures.value in
    let S = inv.sealed c.args.number here at in
    let new = c.commit-ran.new.book in
    let node = c.args.place.now.node in
    let Are = (λ (entries : List Entry). entries ≡ opened_entries c.args.number c.args.opened c.args.stretch.ran.count) in
    let A = c.commit-ran.ensures.acted in
    let now : NodeSeal = record { frozen = here.frozen; seal = c.turn.new.seal } in
    let below : c.args.number < length c.self.inside.seals.items = (let count = inv.seal_count in omega (arith, count, c.requires.there)) in
    let flag = S.flag ∙ ap (λ (x : Agreement). is_some x.frozen) (ap (λ x. x.state) c.agree.ensures.agreed ∙ c.requires.ran.shown) in
    acted_written inv c.entries-before.result.now c.entries-before.ensures.entries c.entries-before.ensures.numbers A.grown (ap length A.runs ∙ length-set b.runs c.args.number _) (length-set seals c.args.number _)
    (sealed_after Are g.J.Naming.node seals b new c.args.number (at_rest node) inv.sealed A below now
    (rest_seal (g.J.Naming.node c.args.number) now new c.args.number node c.commit-ran.ensures.is (reserved_after Are g.J.Naming.node seals b new c.args.number (at_rest node) inv.sealed A below)
    (c.turn.ensures.names.0 ∙ c.agree.ensures.names.0 ∙ S.named) (ap (λ x. x.state) c.turn.ensures.seal ∙ c.free-now.ensures) flag))
    (thaws_set c.self.inside.told.value seals c.args.number now inv.thawed (λ thawed. thawed_at c.self.inside.told.value seals c.args.number here thawed at))
    (gone_set (world_of b) seals c.args.number here now at (λ n F none. none))
    c.write_new.ensures.names.0 c.write_new.ensures.first c.write_new.ensures.roll refl
    (given_still inv A.grown (length c.entries-before.result.now) (as_many c.entries-before.result.now b.state.entries c.entries-before.ensures.entries) c.write_new.ensures.roll
    (ap handed A.grown.are ∙ handed_commit c.args.number c.args.opened c.args.stretch.ran.count))

pub returns-clause-noted : goal.returns-clause-noted
returns-clause-noted g c =
    let b = c.self.inside.book in
    let new = c.commit-ran.new.book in
    let inv = c.self.invariant in
    let Are = (λ (entries : List Entry). entries ≡ opened_entries c.args.number c.args.opened c.args.stretch.ran.count) in
    let many = as_many c.entries-before.result.now b.state.entries c.entries-before.ensures.entries in
    let old_stage : Stage = record { book = b; all = c.self.inside.roll.items; numbered_from = c.self.inside.told.value.numbered_from; frozen = frozen_in c.self.inside.seals.items } in
    let new_stage : Stage = record { book = new; all = c.write_new.new.roll.items; numbered_from = c.self.inside.told.value.numbered_from; frozen = frozen_in (set c.self.inside.seals.items c.args.number (record { frozen = c.index_mut-here.result.now.frozen; seal = c.turn.new.seal })) } in
    subst (λ stage. HoldNoted Are g.J.Naming.first stage new_stage c.args.seat.now c.write_new.new.slips.items) c.self.view_is
    (subst (λ seat. HoldNoted Are g.J.Naming.first old_stage new_stage seat c.write_new.new.slips.items) c.seat.view_is
    (noted_by Are b new old_stage new_stage g.J.Naming.first c.self.inside.roll.first (length c.entries-before.result.now) c.seat.inside.slips.items c.write_new.new.slips.items
    c.commit-ran.ensures.acted.grown many inv.first_is c.write_new.ensures.roll c.write_new.ensures.slips c.write_new.ensures.sound))

pub returns-clause-added : goal.returns-clause-added
returns-clause-added g c =
    subst (λ stage. Added c.args.number c.args.place.now.node.live (opened_acts c.args.number c.args.opened c.args.stretch.ran.count) (without_run stage.book c.args.number) c.commit-ran.new.book) c.self.view_is c.commit-ran.ensures.added

pub returns-clause-of : goal.returns-clause-of
returns-clause-of g c = subst (λ stage. IsBookOf g.J.Naming.start stage.book) c.self.view_is (record { wires = c.self.invariant.wires_are; nodes = c.self.invariant.count_is })
