use Rattle.std.proofs.Common.{◌+◌, ◌≤◌, length, arith}
use Rattle.tp_area.proofs.Results.{from_ok}
use Rattle.tp_area.proofs.PutLaws.{puts_one, write_leaves}
use Rattle.tp_area.proofs.calls.puts.put_piece.Goals as goal

pub returns-clause-put : goal.returns-clause-put
returns-clause-put g c =
    let s = g.D.Disk.state c.args.disk.now in
    let t = g.D.Disk.state c.write_at.new.self in
    from_ok c.write_at.result _ _ (λ was. puts_one c.args.at c.args.bytes.now s t was c.write_at.ensures.goes) c.write_at.ensures.after

pub returns-clause-leaves : goal.returns-clause-leaves
returns-clause-leaves g c =
    let s = g.D.Disk.state c.args.disk.now in
    let t = g.D.Disk.state c.write_at.new.self in
    let room : c.args.at + length c.args.bytes.now ≤ length s.now.bytes = omega (arith, c.requires.inside, g.met.D.Disk.whole c.args.disk.now) in
    write_leaves c.write_at.result c.args.at c.args.bytes.now s t room c.write_at.ensures.goes c.write_at.ensures.after c.write_at.ensures.failed
