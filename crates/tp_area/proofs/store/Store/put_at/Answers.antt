use Rattle.std.proofs.Common.{◌≡◌, ◌+◌, ◌≤◌, length, ap, subst, ◌∙◌, arith, OnOk, OnErr}
use Rattle.tp_area.proofs.Lower.{Write, done, Fails, broke_one, same_kept}
use Rattle.tp_area.specs.Other.{other_gate}
use Rattle.tp_area.proofs.OtherArea.{piece_inside, put_by, put_leaves, put_place, spare_asked}
use Rattle.tp_area.proofs.StoreCrashes.{rests_leaves}
use Rattle.tp_area.proofs.store.Store.put_at.Goals as goal

pub returns-in_default-clause-broke : goal.returns-in_default-clause-broke
returns-in_default-clause-broke g c k unbroken =
    let a = c.args.self.now in
    let s = g.D.Disk.state a.disk in
    let t = g.D.Disk.state c.write_at.new.self in
    broke_one (Write (other_gate a.place + 1 + c.args.at) c.args.bytes.now) s t c.write_at.ensures.goes
    (subst (λ gate. Fails (Write (gate + 1 + c.args.at) c.args.bytes.now) s t) c.area_start.ensures c.in_default.ensures.failed)

pub invariant_of-self-2-clause-placed : goal.invariant_of-self-2-clause-placed
invariant_of-self-2-clause-placed g c k unbroken =
    let a = c.args.self.now in
    let old = g.D.Disk.state a.disk in
    let new = g.D.Disk.state c.write_at.new.self in
    let bytes = c.args.bytes.now in
    let whole = g.met.D.Disk.whole a.disk in
    let fit = piece_inside a.place (g.D.Disk.size_of a.disk) c.args.at (length bytes) a.whole c.requires.inside in
    let room : other_gate a.place + 1 + c.args.at + length bytes ≤ length old.now.bytes = omega arith in
    let was : new.now ≡ done (Write (other_gate a.place + 1 + c.args.at) bytes) old.now =
    c.in-Ok.ensures.after ∙ ap (λ gate. done (Write (gate + 1 + c.args.at) bytes) old.now) c.area_start.ensures in
    put_place a.place c.args.at bytes old new (a.placed (same_kept _ _ c.write_at.ensures.unread k) c.if-self.false) room c.requires.inside (c.requires.closed (same_kept _ _ c.write_at.ensures.unread k) c.if-self.false) was

pub returns-clause-put : goal.returns-clause-put
returns-clause-put g c k =
    let a = c.args.self.now in
    let old = g.D.Disk.state a.disk in
    let new = g.D.Disk.state c.write_at.new.self in
    let bytes = c.args.bytes.now in
    let whole = g.met.D.Disk.whole a.disk in
    let fit = piece_inside a.place (g.D.Disk.size_of a.disk) c.args.at (length bytes) a.whole c.requires.inside in
    let room : other_gate a.place + 1 + c.args.at + length bytes ≤ length old.now.bytes = omega arith in
    let was : new.now ≡ done (Write (other_gate a.place + 1 + c.args.at) bytes) old.now =
    c.in-Ok.ensures.after ∙ ap (λ gate. done (Write (gate + 1 + c.args.at) bytes) old.now) c.area_start.ensures in
    put_by a.place c.args.at bytes old new (a.placed (same_kept _ _ c.write_at.ensures.unread k) c.if-self.false) room c.requires.inside (c.requires.closed (same_kept _ _ c.write_at.ensures.unread k) c.if-self.false) was c.write_at.ensures.goes

pub returns-then-self-clause-leaves : goal.returns-then-self-clause-leaves
returns-then-self-clause-leaves g c k h rests = rests_leaves h (g.D.Disk.state c.args.self.now.disk) rests

pub returns-in_default-clause-leaves : goal.returns-in_default-clause-leaves
returns-in_default-clause-leaves g c k =
    let a = c.args.self.now in
    let old = g.D.Disk.state a.disk in
    let new = g.D.Disk.state c.write_at.new.self in
    let bytes = c.args.bytes.now in
    let whole = g.met.D.Disk.whole a.disk in
    let fit = piece_inside a.place (g.D.Disk.size_of a.disk) c.args.at (length bytes) a.whole c.requires.inside in
    let room : other_gate a.place + 1 + c.args.at + length bytes ≤ length old.now.bytes = omega arith in
    put_leaves c.write_at.result a.place c.args.at bytes old new (a.placed (same_kept _ _ c.write_at.ensures.unread k) c.if-self.false) room c.requires.inside (c.requires.closed (same_kept _ _ c.write_at.ensures.unread k) c.if-self.false) c.write_at.ensures.goes
    (subst (λ gate. OnOk c.write_at.result (new.now ≡ done (Write (gate + 1 + c.args.at) bytes) old.now)) c.area_start.ensures c.write_at.ensures.after)
    (subst (λ gate. OnErr c.write_at.result (Fails (Write (gate + 1 + c.args.at) bytes) old new)) c.area_start.ensures c.write_at.ensures.failed)

pub returns-clause-leaves : goal.returns-clause-leaves
returns-clause-leaves g c k =
    let a = c.args.self.now in
    let old = g.D.Disk.state a.disk in
    let new = g.D.Disk.state c.write_at.new.self in
    let bytes = c.args.bytes.now in
    let whole = g.met.D.Disk.whole a.disk in
    let fit = piece_inside a.place (g.D.Disk.size_of a.disk) c.args.at (length bytes) a.whole c.requires.inside in
    let room : other_gate a.place + 1 + c.args.at + length bytes ≤ length old.now.bytes = omega arith in
    put_leaves c.write_at.result a.place c.args.at bytes old new (a.placed (same_kept _ _ c.write_at.ensures.unread k) c.if-self.false) room c.requires.inside (c.requires.closed (same_kept _ _ c.write_at.ensures.unread k) c.if-self.false) c.write_at.ensures.goes
    (subst (λ gate. OnOk c.write_at.result (new.now ≡ done (Write (gate + 1 + c.args.at) bytes) old.now)) c.area_start.ensures c.write_at.ensures.after)
    (subst (λ gate. OnErr c.write_at.result (Fails (Write (gate + 1 + c.args.at) bytes) old new)) c.area_start.ensures c.write_at.ensures.failed)

pub returns-clause-asked : goal.returns-clause-asked
returns-clause-asked g c k unbroken o is =
    let a = c.args.self.now in
    spare_asked a.place c.args.at c.args.bytes.now (g.D.Disk.state a.disk) (a.placed k unbroken) c.requires.inside (c.requires.closed k unbroken) o is

pub returns-in_default-clause-asked : goal.returns-in_default-clause-asked
returns-in_default-clause-asked g c k unbroken o is =
    let a = c.args.self.now in
    spare_asked a.place c.args.at c.args.bytes.now (g.D.Disk.state a.disk) (a.placed k unbroken) c.requires.inside (c.requires.closed k unbroken) o is
