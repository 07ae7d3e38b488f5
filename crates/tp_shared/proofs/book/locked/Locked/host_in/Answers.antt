use Rattle.std.proofs.Common.{◌≡◌, ◌∙◌, List, ◌++◌, length, map, drop, ap, subst}
use Rattle.tp_shared.proofs.Lower.{Entry, HostIn}
use Rattle.tp_shared.specs.Frozen.{frozen_in}
use Rattle.tp_shared.specs.Gains.{HoldNoted}
use Rattle.tp_shared.specs.HandedIn.{handed}
use Rattle.tp_shared.specs.Seals.{Stage}
use Rattle.tp_shared.specs.declared.flusher.handed.Handed.{Handed}
use Rattle.tp_shared.proofs.HandedIn.{handed_inputs}
use Rattle.tp_shared.proofs.Hosting.{hosted_input}
use Rattle.tp_shared.proofs.Keeping.{given_more, hosted_written}
use Rattle.tp_shared.proofs.Sealing.{entries_new, noted_by}
use Rattle.tp_shared.proofs.Writing.{as_many}
use Rattle.tp_shared.proofs.book.locked.Locked.host_in.Goals as goal

pub invariant_of-self : goal.invariant_of-self
invariant_of-self g c = rw c.in_err-receipt.ensures.err c.self.invariant

pub invariant_of-self-2 : goal.invariant_of-self-2
invariant_of-self-2 g c =
    let b = c.self.inside.book in
    let new = c.host_in.new.self in
    let H = hosted_input b new c.args.port c.args.bytes.now c.in_ok-receipt.ensures.ok c.in_ok-receipt.ensures.agreed c.in_ok-receipt.ensures.acts in
    hosted_written c.self.invariant c.entries-before.result.now c.entries-before.ensures.entries c.entries-before.ensures.numbers H
    c.write_new.ensures.names.0 c.write_new.ensures.first c.write_new.ensures.roll c.turn.ensures.names.0
    (given_more c.self.invariant new (length c.entries-before.result.now) c.write_new.ensures.roll c.turn.ensures.agreed c.more-now.ensures c.turn.ensures.seal)

pub returns-clause-noted : goal.returns-clause-noted
returns-clause-noted g c =
    let b = c.self.inside.book in
    let new = c.host_in.new.self in
    let inv = c.self.invariant in
    let Are = (λ (entries : List Entry). entries ≡ map (HostIn c.args.port) c.args.bytes.now) in
    let H = hosted_input b new c.args.port c.args.bytes.now c.in_ok-receipt.ensures.ok c.in_ok-receipt.ensures.agreed c.in_ok-receipt.ensures.acts in
    let many = as_many c.entries-before.result.now b.state.entries c.entries-before.ensures.entries in
    let old_stage : Stage = record { book = b; all = c.self.inside.roll.items; numbered_from = c.self.inside.told.value.numbered_from; frozen = frozen_in c.self.inside.seals.items } in
    let new_stage : Stage = record { book = new; all = c.write_new.new.roll.items; numbered_from = c.self.inside.told.value.numbered_from; frozen = frozen_in c.self.inside.seals.items } in
    subst (λ stage. HoldNoted Are g.J.Naming.first stage new_stage c.args.seat.now c.write_new.new.slips.items) c.self.view_is
    (subst (λ seat. HoldNoted Are g.J.Naming.first old_stage new_stage seat c.write_new.new.slips.items) c.seat.view_is
    (noted_by Are b new old_stage new_stage g.J.Naming.first c.self.inside.roll.first (length c.entries-before.result.now) c.seat.inside.slips.items c.write_new.new.slips.items
    H.grown many inv.first_is c.write_new.ensures.roll c.write_new.ensures.slips c.write_new.ensures.sound))

pub returns-clause-handed : goal.returns-clause-handed
returns-clause-handed g c =
    let b = c.self.inside.book in
    let new = c.host_in.new.self in
    let before = length c.entries-before.result.now in
    let H = hosted_input b new c.args.port c.args.bytes.now c.in_ok-receipt.ensures.ok c.in_ok-receipt.ensures.agreed c.in_ok-receipt.ensures.acts in
    ap (λ (x : Handed). x.entries) c.turn.ensures.key ∙ c.more-now.ensures ∙ ap (λ (es : List Entry). es ++ handed (drop before new.state.entries)) c.host.view_is
    ∙ ap (λ (es : List Entry). c.args.host.now ++ handed es) (entries_new (λ (entries : List Entry). entries ≡ map (HostIn c.args.port) c.args.bytes.now) b new H.grown before (as_many c.entries-before.result.now b.state.entries c.entries-before.ensures.entries) ∙ H.grown.are)
    ∙ ap (λ (es : List Entry). c.args.host.now ++ es) (handed_inputs c.args.port c.args.bytes.now)
