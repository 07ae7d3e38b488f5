use Rattle.std.proofs.Common.{rules, ◌<◌, length, sym, subst}
use Rattle.tp_stream.proofs.Lower.{HaveAccepted, Stage, given_input}
use Rattle.tp_stream.specs.HandedFrom.{FeedsFrom}
use Rattle.tp_stream.specs.Noted.{StepsNoted}
use Rattle.tp_stream.proofs.HandedFrom.{feeds_none, step_feeds}
use Rattle.tp_stream.proofs.Noting.{offer_noted}
use Rattle.tp_stream.proofs.pumping.step_input.Goals as goal

pub returns-then-port-ports-clause-fed : goal.returns-then-port-ports-clause-fed
returns-then-port-ports-clause-fed g c =
    let input = given_input c.args.input.now.port (g.I.Source.input c.args.input.now.source) in
    subst (FeedsFrom input g.J.Naming.accepted c.args.host.now) (sym c.compare_host.ensures.same.1) (feeds_none input g.J.Naming.accepted c.args.host.now)

pub returns-clause-fed : goal.returns-clause-fed
returns-clause-fed g c =
    let input = given_input c.args.input.now.port (g.I.Source.input c.args.input.now.source) in
    let was = c.compare_host.new.host in
    let held = c.deref_mut-2.result.now in
    let same = c.compare_host.ensures.same in
    let there = subst (λ (s : Stage). HaveAccepted g.J.Naming.accepted c.args.host.now s.book) (sym same.0) c.compare_host.ensures.accepted in
    let have : HaveAccepted g.J.Naming.accepted was held.book =
    subst (λ host. HaveAccepted g.J.Naming.accepted host held.book) (sym same.1) (subst (λ (s : Stage). HaveAccepted g.J.Naming.accepted c.args.host.now s.book) (sym c.deref_mut-2.ensures.value) there) in
    let below : c.args.input.now.port < length held.book.state.ports = search rules in
    subst (λ host. FeedsFrom input g.J.Naming.accepted host c.step_held.new.host) same.1
    (step_feeds input g.J.Naming.accepted _ _ c.step_held.result _ _ _ _ _ _ have below c.step_held.ensures.taken c.step_held.ensures.refused c.step_held.ensures.err)

-- ## What the seat and the host's key show

pub returns-then-port-ports-clause-noted : goal.returns-then-port-ports-clause-noted
returns-then-port-ports-clause-noted g c outputs N = subst (StepsNoted outputs c.args.seat.now) (sym c.compare_host.ensures.same.1) N

pub returns-clause-noted : goal.returns-clause-noted
returns-clause-noted g c outputs N =
    offer_noted _ _ _ _ c.step_held.result _ _ _ _ _ _ c.step_held.ensures.taken c.step_held.ensures.refused c.step_held.ensures.err outputs
    (subst (StepsNoted outputs c.args.seat.now) (sym c.compare_host.ensures.same.1) N)
