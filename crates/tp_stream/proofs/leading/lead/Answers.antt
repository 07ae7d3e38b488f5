use Rattle.std.proofs.Common.{◌≡◌, Some, map, rules, sym, subst}
use Rattle.tp_stream.proofs.Lower.{All-pop, given_input}
use Rattle.tp_stream.specs.Accounted.{MadeByTurns}
use Rattle.tp_stream.specs.HandedFrom.{FedFrom}
use Rattle.tp_stream.specs.Noted.{AllNoted}
use Rattle.tp_stream.proofs.leading.lead.Goals as goal

pub go_with_workers-seats-requires-clause-seats : goal.go_with_workers-seats-requires-clause-seats
go_with_workers-seats-requires-clause-seats g c κs within k d there =
    let P = All-pop (λ seat. seat.hand.of ≡ Some c.args.ground.net.now.queue) c.args.seats.items c.pop-seat.new.self.items c.pop-seat.result c.pop-seat.ensures.items c.requires.seats in
    let M = All-pop (λ seat. MadeByTurns g.J.Naming.start seat.slips) c.args.seats.items c.pop-seat.new.self.items c.pop-seat.result c.pop-seat.ensures.items c.requires.made in
    (P.0 k d there, M.0 k d there)

pub go_with_workers-seats-requires-clause-begins : goal.go_with_workers-seats-requires-clause-begins
go_with_workers-seats-requires-clause-begins g c κs within =
    let P = All-pop (λ seat. seat.hand.of ≡ Some c.args.ground.net.now.queue) c.args.seats.items c.pop-seat.new.self.items c.pop-seat.result c.pop-seat.ensures.items c.requires.seats in
    let M = All-pop (λ seat. MadeByTurns g.J.Naming.start seat.slips) c.args.seats.items c.pop-seat.new.self.items c.pop-seat.result c.pop-seat.ensures.items c.requires.made in
    (c.requires.rested, P.1, M.1)

-- ## One worker alone

pub absorb-requires-clause-workers : goal.absorb-requires-clause-workers
absorb-requires-clause-workers g c =
    (All-pop (λ seat. MadeByTurns g.J.Naming.start seat.slips) c.args.seats.items c.pop-seat.new.self.items c.pop-seat.result c.pop-seat.ensures.items c.requires.made).0

pub returns-then-ground-lt2-clause-noted : goal.returns-then-ground-lt2-clause-noted
returns-then-ground-lt2-clause-noted g c = c.absorb.ensures.noted _ (c.laps-done.ensures.noted c.requires.noted)

pub returns-clause-fed : goal.returns-clause-fed
returns-clause-fed g c =
    let streams = c.go_with_workers-seats.result.1.3.now in
    let same : streams ≡ c.streams-1.given.0 = search rules in
    let inputs = map (λ i. given_input i.port (g.I.Source.input i.source)) c.args.streams.now.inputs.items in
    subst (λ s. FedFrom g.J.Naming.accepted inputs (map (λ i. given_input i.port (g.I.Source.input i.source)) s.inputs.items) c.args.going.host c.absorb-2.result.host) same
    (subst (FedFrom g.J.Naming.accepted inputs (map (λ i. given_input i.port (g.I.Source.input i.source)) streams.inputs.items) c.args.going.host) (sym c.absorb-2.ensures.host) c.go_with_workers-seats.ensures.gives.5)

pub returns-clause-noted : goal.returns-clause-noted
returns-clause-noted g c =
    let streams = c.go_with_workers-seats.result.1.3.now in
    let same : streams ≡ c.streams-1.given.0 = search rules in
    subst (λ s. AllNoted g.J.Naming.start s.outputs.items c.absorb-2.result.seat c.absorb-2.result.steps c.absorb-2.result.host) same
    (c.absorb-2.ensures.noted streams.outputs.items (c.go_with_workers-seats.ensures.gives.6 c.requires.noted))
