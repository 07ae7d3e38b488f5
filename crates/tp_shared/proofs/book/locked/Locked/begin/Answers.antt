use Rattle.std.proofs.Common.{◌∙◌, ◌<◌, length, set, ap, refl, sym, subst, arith, Some}
use Rattle.std.specs.Prelude.{is_some}
use Rattle.tp_shared.proofs.Lower.{length-set, world_of, IsNodeOf, moment_of, OpensIn}
use Rattle.tp_shared.specs.Agreement.{Agreement, answered_with}
use Rattle.tp_shared.specs.Entries.{OpenedEntries}
use Rattle.tp_shared.specs.Frozen.{frozen_in}
use Rattle.tp_shared.specs.Seals.{Stage}
use Rattle.tp_shared.specs.Gains.{HoldNoted}
use Rattle.tp_shared.specs.Holds.{IsBookOf}
use Rattle.tp_shared.specs.declared.nodes.seal.NodeSeal.{NodeSeal}
use Rattle.tp_shared.proofs.Gone.{gone_set, recorded_as}
use Rattle.tp_shared.proofs.HandedIn.{handed_opening}
use Rattle.tp_shared.proofs.Holding.{acted_like, answered_form, opened_like}
use Rattle.tp_shared.proofs.Sealing.{answered_seal, answered_shows, node_of_seal, noted_by, reserved_after, sealed_after}
use Rattle.tp_shared.proofs.Thawing.{thaws_set, thawed_at, thawed_recorded}
use Rattle.tp_shared.proofs.Writing.{as_many}
use Rattle.tp_shared.proofs.Keeping.{seal_at, acted_written, given_still}
use Rattle.tp_shared.proofs.book.locked.Locked.begin.Goals as goal

pub agree-requires : goal.agree-requires
agree-requires g c =
    let inv = c.self.invariant in
    let here = c.index_mut-here.result.now in
    let at = seal_at inv c.args.number here c.requires.there c.index_mut-here.ensures.value in
    let S = inv.sealed c.args.number here at in
    S.named ∙ sym c.requires.named

pub turn-requires : goal.turn-requires
turn-requires g c =
    let inv = c.self.invariant in
    let here = c.index_mut-here.result.now in
    let at = seal_at inv c.args.number here c.requires.there c.index_mut-here.ensures.value in
    let S = inv.sealed c.args.number here at in
    c.agree.ensures.names.0 ∙ S.named ∙ sym c.requires.named ∙ sym c.agree.ensures.names.1

pub begin-done-requires-clause-free : goal.begin-done-requires-clause-free
begin-done-requires-clause-free g c =
    let b = c.self.inside.book in
    let inv = c.self.invariant in
    let here = c.index_mut-here.result.now in
    let at = seal_at inv c.args.number here c.requires.there c.index_mut-here.ensures.value in
    let S = inv.sealed c.args.number here at in
    S.reserved ∙ ap (λ (x : Agreement). Some x.reserved) (ap (λ x. x.state) c.agree.ensures.agreed ∙ c.requires.shows.shown)

pub begin-done-requires-clause-is : goal.begin-done-requires-clause-is
begin-done-requires-clause-is g c =
    let b = c.self.inside.book in
    let inv = c.self.invariant in
    let here = c.index_mut-here.result.now in
    let at = seal_at inv c.args.number here c.requires.there c.index_mut-here.ensures.value in
    let S = inv.sealed c.args.number here at in
    let shown = ap (λ x. x.state) c.agree.ensures.agreed ∙ c.requires.shows.shown in
    node_of_seal (g.J.Naming.node c.args.number) here.seal.value.state here.frozen here.seal.name b c.args.number c.args.place.now.node S
    (ap (λ (x : Agreement). x.node) shown) (ap (λ (x : Agreement). x.frozen) shown) c.requires.shows.image

pub invariant_of-self : goal.invariant_of-self
invariant_of-self g c =
    let b = c.self.inside.book in
    let inv = c.self.invariant in
    let seals = c.self.inside.seals.items in
    let here = c.index_mut-here.result.now in
    let at = seal_at inv c.args.number here c.requires.there c.index_mut-here.ensures.value in
    let S = inv.sealed c.args.number here at in
    let new = c.begin-done.new.book in
    let node = c.begin-done.new.node in
    let done = c.begin-done.result in
    let Are = OpenedEntries b.state.start c.args.number done in
    let a = answered_with new c.args.number node done in
    let A = c.begin-done.ensures.acted in
    let now : NodeSeal = record { frozen = c.is_frozen-here.result; seal = c.turn.new.seal } in
    let below : c.args.number < length c.self.inside.seals.items = (let count = inv.seal_count in omega (arith, count, c.requires.there)) in
    acted_written inv c.entries-before.result.now c.entries-before.ensures.entries c.entries-before.ensures.numbers A.grown (ap length A.runs ∙ length-set b.runs c.args.number _) (length-set seals c.args.number _)
    (sealed_after Are g.J.Naming.node seals b new c.args.number a inv.sealed A below now
    (answered_seal (g.J.Naming.node c.args.number) now new c.args.number node done c.begin-done.ensures.is
    (λ takes given. A.grown.form ∙ answered_form b.form c.args.number done (moment_of b c.args.place.now.node) (moment_of new node) c.begin-done.ensures.opens takes given)
    (reserved_after Are g.J.Naming.node seals b new c.args.number a inv.sealed A below)
    (c.turn.ensures.names.0 ∙ c.agree.ensures.names.0 ∙ S.named) (ap (λ x. x.state) c.turn.ensures.seal ∙ c.answered-now.ensures) c.is_frozen-here.ensures))
    (thaws_set c.self.inside.told.value seals c.args.number now inv.thawed
    (λ thawed.
    c.is_frozen-here.ensures
    ∙ ap is_some (c.begin-done.ensures.stays (thawed_recorded g.J.Naming.before g.J.Naming.first c.self.inside.told.value seals (record { book = b; all = c.self.inside.roll.items; numbered_from = c.self.inside.told.value.numbered_from; frozen = frozen_in c.self.inside.seals.items }) thawed inv.since c.args.number))
    ∙ ap (λ (x : Agreement). is_some x.frozen) (sym (ap (λ x. x.state) c.agree.ensures.agreed ∙ c.requires.shows.shown))
    ∙ sym S.flag
    ∙ thawed_at c.self.inside.told.value seals c.args.number here thawed at))
    (gone_set (world_of b) seals c.args.number here now at
    (λ n F none.
    c.is_frozen-here.ensures
    ∙ ap is_some (c.begin-done.ensures.stays (recorded_as b c.args.number n F))
    ∙ ap (λ (x : Agreement). is_some x.frozen) (sym (ap (λ x. x.state) c.agree.ensures.agreed ∙ c.requires.shows.shown))
    ∙ sym S.flag
    ∙ none))
    c.write_new.ensures.names.0 c.write_new.ensures.first c.write_new.ensures.roll refl
    (given_still inv A.grown (length c.entries-before.result.now) (as_many c.entries-before.result.now b.state.entries c.entries-before.ensures.entries) c.write_new.ensures.roll (handed_opening b.state.start c.args.number done _ A.grown.are))

pub returns-clause-shows : goal.returns-clause-shows
returns-clause-shows g c =
    answered_shows (record { node = c.begin-done.new.node; key = c.turn.new.key }) c.begin-done.new.book c.args.number c.begin-done.result (ap (λ x. x.state) c.turn.ensures.key ∙ c.answered-now.ensures) c.begin-done.ensures.is

pub returns-clause-noted : goal.returns-clause-noted
returns-clause-noted g c =
    let b = c.self.inside.book in
    let new = c.begin-done.new.book in
    let inv = c.self.invariant in
    let done = c.begin-done.result in
    let Are = OpenedEntries g.J.Naming.start c.args.number done in
    let A = acted_like (OpenedEntries b.state.start c.args.number done) Are c.args.number (answered_with new c.args.number c.begin-done.new.node done) b new
    (λ es. opened_like g.J.Naming.start b.state.start c.args.number done es inv.wires_are inv.count_is) c.begin-done.ensures.acted in
    let many = as_many c.entries-before.result.now b.state.entries c.entries-before.ensures.entries in
    let old_stage : Stage = record { book = b; all = c.self.inside.roll.items; numbered_from = c.self.inside.told.value.numbered_from; frozen = frozen_in c.self.inside.seals.items } in
    let new_stage : Stage = record { book = new; all = c.write_new.new.roll.items; numbered_from = c.self.inside.told.value.numbered_from; frozen = frozen_in (set c.self.inside.seals.items c.args.number (record { frozen = c.is_frozen-here.result; seal = c.turn.new.seal })) } in
    subst (λ stage. HoldNoted Are g.J.Naming.first stage new_stage c.args.seat.now c.write_new.new.slips.items) c.self.view_is
    (subst (λ seat. HoldNoted Are g.J.Naming.first old_stage new_stage seat c.write_new.new.slips.items) c.seat.view_is
    (noted_by Are b new old_stage new_stage g.J.Naming.first c.self.inside.roll.first (length c.entries-before.result.now) c.seat.inside.slips.items c.write_new.new.slips.items
    A.grown many inv.first_is c.write_new.ensures.roll c.write_new.ensures.slips c.write_new.ensures.sound))

pub returns-clause-is : goal.returns-clause-is
returns-clause-is g c =
    let b = c.self.inside.book in
    let inv = c.self.invariant in
    let here = c.index_mut-here.result.now in
    let at = seal_at inv c.args.number here c.requires.there c.index_mut-here.ensures.value in
    let S = inv.sealed c.args.number here at in
    let shown = ap (λ x. x.state) c.agree.ensures.agreed ∙ c.requires.shows.shown in
    subst (λ stage. IsNodeOf stage.book c.args.number c.args.place.now.node) c.self.view_is
    (node_of_seal (g.J.Naming.node c.args.number) here.seal.value.state here.frozen here.seal.name b c.args.number c.args.place.now.node S
    (ap (λ (x : Agreement). x.node) shown) (ap (λ (x : Agreement). x.frozen) shown) c.requires.shows.image)

pub returns-clause-opens : goal.returns-clause-opens
returns-clause-opens g c =
    subst (λ stage. OpensIn stage.book.form c.args.number c.begin-done.result (moment_of stage.book c.args.place.now.node) (moment_of c.begin-done.new.book c.begin-done.new.node)) c.self.view_is c.begin-done.ensures.opens

pub returns-clause-of : goal.returns-clause-of
returns-clause-of g c = subst (λ stage. IsBookOf g.J.Naming.start stage.book) c.self.view_is (record { wires = c.self.invariant.wires_are; nodes = c.self.invariant.count_is })
