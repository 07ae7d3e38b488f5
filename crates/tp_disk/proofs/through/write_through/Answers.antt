use Rattle.std.proofs.Common.{◌+◌, ◌≤◌, length, arith}
use Rattle.tp_disk.proofs.Lower.{on_err_weaker, Write}
use Rattle.tp_disk.proofs.Calls.{call_leaves, write_broke, sync_broke, through_leaves}
use Rattle.tp_disk.proofs.Pieces.{on_err}
use Rattle.tp_disk.proofs.through.write_through.Goals as goal

pub returns-in_err-write_at-clause-broke : goal.returns-in_err-write_at-clause-broke
returns-in_err-write_at-clause-broke g c =
    let s = g.D.Disk.state c.args.disk.now in
    let t = g.D.Disk.state c.write_at.new.self in
    on_err c.from_residual.result _ (write_broke c.args.at c.args.bytes.now s t c.write_at.ensures.goes c.in_err-write_at.ensures.failed)

pub returns-in_err-write_at-clause-any_moment : goal.returns-in_err-write_at-clause-any_moment
returns-in_err-write_at-clause-any_moment g c =
    let s = g.D.Disk.state c.args.disk.now in
    let t = g.D.Disk.state c.write_at.new.self in
    let room : c.args.at + length c.args.bytes.now ≤ length s.now.bytes = omega (arith, c.requires.inside, g.met.D.Disk.whole c.args.disk.now) in
    call_leaves c.write_at.result (Write c.args.at c.args.bytes.now) s t room c.write_at.ensures.goes c.write_at.ensures.after c.write_at.ensures.failed

pub returns-clause-broke : goal.returns-clause-broke
returns-clause-broke g c =
    let s = g.D.Disk.state c.args.disk.now in
    let t = g.D.Disk.state c.write_at.new.self in
    let u = g.D.Disk.state c.sync.new.self in
    on_err_weaker c.sync.result
    (sync_broke c.args.at c.args.bytes.now s t u c.in_ok-write_at.ensures.after c.write_at.ensures.goes c.sync.ensures.goes)
    c.sync.ensures.failed

pub returns-clause-any_moment : goal.returns-clause-any_moment
returns-clause-any_moment g c =
    let s = g.D.Disk.state c.args.disk.now in
    let t = g.D.Disk.state c.write_at.new.self in
    let u = g.D.Disk.state c.sync.new.self in
    let room : c.args.at + length c.args.bytes.now ≤ length s.now.bytes = omega (arith, c.requires.inside, g.met.D.Disk.whole c.args.disk.now) in
    through_leaves c.sync.result c.args.at c.args.bytes.now s t u room c.in_ok-write_at.ensures.after c.write_at.ensures.goes c.sync.ensures.goes
    c.sync.ensures.after c.sync.ensures.failed
