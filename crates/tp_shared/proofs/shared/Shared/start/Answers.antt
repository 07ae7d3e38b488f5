use Rattle.std.proofs.Common.{ap, sym, ◌∙◌, length, arith}
use Rattle.tp_book.specs.Host.{port_in, accepted_of}
use Rattle.tp_shared.specs.Parted.{name_of}
use Rattle.tp_shared.proofs.Dealing.{row_start, sealed_named}
use Rattle.tp_shared.proofs.shared.Shared.start.Goals as goal

pub new-requires-3 : goal.new-requires-3
new-requires-3 g c = (
  omega arith,
  row_start 0 1 2 3 g.J.Naming.node c.parts.inside.seals.items (length c.parts.inside.book.state.start.nodes) (length g.J.Naming.start.nodes) c.parts.inside.dealt.row0
      (ap (λ v. length v.book.state.start.nodes) c.parts.view_is ∙ c.requires.count_is) (λ i. c.requires.nodes_are i ∙ sym (ap (λ v. name_of v.seals i) c.parts.view_is)) c.parts.invariant.shares.zeroth,
)

pub new-requires-4 : goal.new-requires-4
new-requires-4 g c = (
  omega arith,
  row_start 4 5 6 7 g.J.Naming.node c.parts.inside.seals.items (length c.parts.inside.book.state.start.nodes) (length g.J.Naming.start.nodes) c.parts.inside.dealt.row1
      (ap (λ v. length v.book.state.start.nodes) c.parts.view_is ∙ c.requires.count_is) (λ i. c.requires.nodes_are i ∙ sym (ap (λ v. name_of v.seals i) c.parts.view_is)) c.parts.invariant.shares.first,
)

pub new-requires-5 : goal.new-requires-5
new-requires-5 g c = (
  omega arith,
  row_start 8 9 10 11 g.J.Naming.node c.parts.inside.seals.items (length c.parts.inside.book.state.start.nodes) (length g.J.Naming.start.nodes) c.parts.inside.dealt.row2
      (ap (λ v. length v.book.state.start.nodes) c.parts.view_is ∙ c.requires.count_is) (λ i. c.requires.nodes_are i ∙ sym (ap (λ v. name_of v.seals i) c.parts.view_is)) c.parts.invariant.shares.second,
)

pub new-requires-6 : goal.new-requires-6
new-requires-6 g c = (
  omega arith,
  row_start 12 13 14 15 g.J.Naming.node c.parts.inside.seals.items (length c.parts.inside.book.state.start.nodes) (length g.J.Naming.start.nodes) c.parts.inside.dealt.row3
      (ap (λ v. length v.book.state.start.nodes) c.parts.view_is ∙ c.requires.count_is) (λ i. c.requires.nodes_are i ∙ sym (ap (λ v. name_of v.seals i) c.parts.view_is)) c.parts.invariant.shares.third,
)

pub new-requires-clause-sealed : goal.new-requires-clause-sealed
new-requires-clause-sealed g c =
    sealed_named (name_of c.parts.inside.seals.items) g.J.Naming.node c.parts.inside.seals.items c.parts.inside.book
    (λ i. c.requires.nodes_are i ∙ sym (ap (λ v. name_of v.seals i) c.parts.view_is)) c.parts.invariant.shares.sealed

pub new-requires-clause-room : goal.new-requires-clause-room
new-requires-clause-room g c =
    let tied = c.parts.invariant.tied in
    let few = c.known.ensures.floor in
    let none = ap length c.parts.invariant.none in
    let first = ap (λ v. v.first) c.parts.view_is ∙ c.requires.first_is in
    (ap (λ v. v.book.room) c.parts.view_is ∙ c.requires.room_is, omega (arith, few, none, first, tied.next))

pub new-requires-clause-wires : goal.new-requires-clause-wires
new-requires-clause-wires g c =
    let wires = ap (λ v. v.book.state.start.wires) c.parts.view_is ∙ c.requires.wires_are in
    let shaped = c.known.ensures.shaped in
    let all = ap length wires in
    let nodes = ap (λ v. length v.book.state.start.nodes) c.parts.view_is ∙ c.requires.count_is in
    let ports = ap (λ v. length v.book.state.ports) c.parts.view_is ∙ c.requires.ports_are in
    (wires, omega (arith, shaped.count, shaped.wires, all, nodes, ports))

pub over-requires : goal.over-requires
over-requires g c = ap (λ v. v.sights) c.parts.view_is ∙ c.requires.sights_is

pub new-requires-clause-accepted : goal.new-requires-clause-accepted
new-requires-clause-accepted g c p = ap (λ v. accepted_of (port_in v.book p)) c.parts.view_is ∙ c.requires.accepted_is p
