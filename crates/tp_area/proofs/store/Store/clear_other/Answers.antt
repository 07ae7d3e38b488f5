use Rattle.std.proofs.Common.{◌<◌, length, subst, arith, OnOk, OnErr}
use Rattle.tp_model.specs.StoreCalls.{Called, Broke, clear_calls}
use Rattle.tp_area.specs.Other.{if_open, other_gate}
use Rattle.tp_area.proofs.OtherArea.{some_area, gate_inside, cleared_by, cleared_place, clear_leaves, open_other_asked}
use Rattle.tp_area.proofs.StoreCrashes.{rests_leaves}
use Rattle.tp_area.proofs.store.Store.clear_other.Goals as goal

pub close_gate-requires-clause-inside : goal.close_gate-requires-clause-inside
close_gate-requires-clause-inside g c =
    let a = c.args.self.now in
    gate_inside a.place.areas (g.D.Disk.size_of a.disk) c.area_start-gate.result a.place.end a.place.second c.area_start-gate.ensures a.whole a.behind a.inside

pub invariant_of-self-2-clause-placed : goal.invariant_of-self-2-clause-placed
invariant_of-self-2-clause-placed g c k unbroken =
    let a = c.args.self.now in
    let old = g.D.Disk.state a.disk in
    let new = g.D.Disk.state c.close_gate.new.disk in
    let gate = gate_inside a.place.areas (g.D.Disk.size_of a.disk) c.area_start-gate.result a.place.end a.place.second c.area_start-gate.ensures a.whole a.behind a.inside in
    let inside : other_gate a.place < length old.now.bytes = omega (arith, c.area_start-gate.ensures, g.met.D.Disk.whole a.disk) in
    cleared_place a.place old new (some_area a.place.areas a.place.end a.place.second a.behind a.inside) (a.placed (c.close_gate.ensures.premise k) c.if-self.false) inside
    (subst (λ gate. Called (clear_calls (if_open gate old.now.bytes)) old new) c.area_start-gate.ensures (c.in-Ok.ensures.called k))

pub returns-clause-cleared : goal.returns-clause-cleared
returns-clause-cleared g c k =
    let a = c.args.self.now in
    let old = g.D.Disk.state a.disk in
    let new = g.D.Disk.state c.close_gate.new.disk in
    let gate = gate_inside a.place.areas (g.D.Disk.size_of a.disk) c.area_start-gate.result a.place.end a.place.second c.area_start-gate.ensures a.whole a.behind a.inside in
    let inside : other_gate a.place < length old.now.bytes = omega (arith, c.area_start-gate.ensures, g.met.D.Disk.whole a.disk) in
    cleared_by a.place old new (a.placed (c.close_gate.ensures.premise k) c.if-self.false) inside
    (subst (λ gate. Called (clear_calls (if_open gate old.now.bytes)) old new) c.area_start-gate.ensures (c.in-Ok.ensures.called k))

pub returns-then-self-clause-leaves : goal.returns-then-self-clause-leaves
returns-then-self-clause-leaves g c k h rests = rests_leaves h (g.D.Disk.state c.args.self.now.disk) rests

pub returns-in_default-clause-leaves : goal.returns-in_default-clause-leaves
returns-in_default-clause-leaves g c k =
    let a = c.args.self.now in
    let old = g.D.Disk.state a.disk in
    let new = g.D.Disk.state c.close_gate.new.disk in
    clear_leaves c.close_gate.result a.place old new (a.placed (c.close_gate.ensures.premise k) c.if-self.false)
    (subst (λ gate. OnOk c.close_gate.result (Called (clear_calls (if_open gate old.now.bytes)) old new)) c.area_start-gate.ensures (c.close_gate.ensures.called k))
    (subst (λ gate. OnErr c.close_gate.result (Broke (clear_calls (if_open gate old.now.bytes)) old new)) c.area_start-gate.ensures (c.close_gate.ensures.broke k))

pub returns-clause-leaves : goal.returns-clause-leaves
returns-clause-leaves g c k =
    let a = c.args.self.now in
    let old = g.D.Disk.state a.disk in
    let new = g.D.Disk.state c.close_gate.new.disk in
    clear_leaves c.close_gate.result a.place old new (a.placed (c.close_gate.ensures.premise k) c.if-self.false)
    (subst (λ gate. OnOk c.close_gate.result (Called (clear_calls (if_open gate old.now.bytes)) old new)) c.area_start-gate.ensures (c.close_gate.ensures.called k))
    (subst (λ gate. OnErr c.close_gate.result (Broke (clear_calls (if_open gate old.now.bytes)) old new)) c.area_start-gate.ensures (c.close_gate.ensures.broke k))

pub returns-in_default-clause-broke : goal.returns-in_default-clause-broke
returns-in_default-clause-broke g c k unbroken =
    let old = g.D.Disk.state c.args.self.now.disk in
    subst (λ gate. Broke (clear_calls (if_open gate old.now.bytes)) old (g.D.Disk.state c.close_gate.new.disk)) c.area_start-gate.ensures (c.in_default.ensures.broke k)

pub returns-clause-asked : goal.returns-clause-asked
returns-clause-asked g c k unbroken o is =
    let a = c.args.self.now in
    open_other_asked a.place (g.D.Disk.state a.disk).now.bytes (a.placed k unbroken) o is

pub returns-in_default-clause-asked : goal.returns-in_default-clause-asked
returns-in_default-clause-asked g c k unbroken o is =
    let a = c.args.self.now in
    open_other_asked a.place (g.D.Disk.state a.disk).now.bytes (a.placed k unbroken) o is
