use Rattle.std.proofs.Common.{length, refl, subst}
use Rattle.tp_turn.specs.Hosted.{HostDone, HostTurns}
use Rattle.tp_shared.specs.BookActs.{HostActed}
use Rattle.tp_shared.specs.Entries.{TakesOf}
use Rattle.tp_shared.specs.Frozen.{frozen_in}
use Rattle.tp_shared.specs.Seals.{Stage}
use Rattle.tp_shared.specs.Gains.{HoldNoted}
use Rattle.tp_shared.specs.Holds.{IsBookOf}
use Rattle.tp_shared.proofs.HandedIn.{handed_turn}
use Rattle.tp_shared.proofs.Holding.{grown_like, takes_of_like}
use Rattle.tp_shared.proofs.Hosting.{hosted_turn, host_refused}
use Rattle.tp_shared.proofs.Sealing.{noted_by}
use Rattle.tp_shared.proofs.Writing.{as_many}
use Rattle.tp_shared.proofs.Keeping.{given_still, hosted_written}
use Rattle.tp_shared.proofs.book.locked.Locked.host_turn.Goals as goal

pub invariant_of-self : goal.invariant_of-self
invariant_of-self g c =
    let b = c.self.inside.book in
    let new = c.host_turn-done.new.book in
    let H = hosted_turn c.host_turn-done.result b new c.host_turn-done.ensures in
    hosted_written c.self.invariant c.entries-before.result.now c.entries-before.ensures.entries c.entries-before.ensures.numbers H
    c.write_new.ensures.names.0 c.write_new.ensures.first c.write_new.ensures.roll refl
    (given_still c.self.invariant H.grown (length c.entries-before.result.now) (as_many c.entries-before.result.now b.state.entries c.entries-before.ensures.entries) c.write_new.ensures.roll
    (handed_turn b.state.start (length b.state.start.nodes) c.host_turn-done.result _ H.grown.are))

pub returns-clause-noted : goal.returns-clause-noted
returns-clause-noted g c =
    let b = c.self.inside.book in
    let new = c.host_turn-done.new.book in
    let inv = c.self.invariant in
    let host = length g.J.Naming.start.nodes in
    let Are = TakesOf g.J.Naming.start host c.host_turn-done.result in
    let H = subst (λ n. HostActed (TakesOf b.state.start n c.host_turn-done.result) b new) inv.count_is (hosted_turn c.host_turn-done.result b new c.host_turn-done.ensures) in
    let G = grown_like (TakesOf b.state.start host c.host_turn-done.result) Are b new (λ es. takes_of_like g.J.Naming.start b.state.start host c.host_turn-done.result es inv.wires_are inv.count_is) H.grown in
    let many = as_many c.entries-before.result.now b.state.entries c.entries-before.ensures.entries in
    let old_stage : Stage = record { book = b; all = c.self.inside.roll.items; numbered_from = c.self.inside.told.value.numbered_from; frozen = frozen_in c.self.inside.seals.items } in
    let new_stage : Stage = record { book = new; all = c.write_new.new.roll.items; numbered_from = c.self.inside.told.value.numbered_from; frozen = frozen_in c.self.inside.seals.items } in
    subst (λ stage. HoldNoted Are g.J.Naming.first stage new_stage c.args.seat.now c.write_new.new.slips.items) c.self.view_is
    (subst (λ seat. HoldNoted Are g.J.Naming.first old_stage new_stage seat c.write_new.new.slips.items) c.seat.view_is
    (noted_by Are b new old_stage new_stage g.J.Naming.first c.self.inside.roll.first (length c.entries-before.result.now) c.seat.inside.slips.items c.write_new.new.slips.items
    G many inv.first_is c.write_new.ensures.roll c.write_new.ensures.slips c.write_new.ensures.sound))

pub returns-clause-refused : goal.returns-clause-refused
returns-clause-refused g c = host_refused c.host_turn-done.result c.self.inside.book c.host_turn-done.new.book c.host_turn-done.ensures

pub returns-clause-did : goal.returns-clause-did
returns-clause-did g c = subst (λ stage. HostDone (HostTurns c.host_turn-done.result) stage.book c.host_turn-done.new.book) c.self.view_is c.host_turn-done.ensures

pub returns-clause-of : goal.returns-clause-of
returns-clause-of g c = subst (λ stage. IsBookOf g.J.Naming.start stage.book) c.self.view_is (record { wires = c.self.invariant.wires_are; nodes = c.self.invariant.count_is })
