use Rattle.std.proofs.Common.{rules, ◌≡◌, ◌+◌, ◌-◌, ◌≤◌, [], length, ap, arith}
use Rattle.tp_area.proofs.Lower.{zeros, take-replicate}
use Rattle.tp_area.proofs.PutLaws.{puts_none, puts_same, zeros_more, zeros_leave, none_leaves}
use Rattle.tp_area.proofs.calls.puts.put_zeros.Goals as goal

pub loop-left-preserved : goal.loop-left-preserved
loop-left-preserved g c = record {
  some = omega arith;
  size = search rules;
  failures = search rules;
  unread = search rules;
  put =
      let s = g.D.Disk.state c.args.disk.now in
      let whole = g.met.D.Disk.whole c.args.disk.now in
      let room : c.args.at + c.args.count ≤ length s.now.bytes = omega (arith, c.requires.inside, whole) in
      zeros_more c.args.at c.args.count c.loop-left.left c.min-size.result _ s (g.D.Disk.state c.loop-left.disk) (g.D.Disk.state c.put_piece.new.disk)
      room c.loop-left.invariant.some (omega arith) (take-replicate c.min-size.result 4096 0 (omega arith)) c.loop-left.invariant.put c.in_ok-put_piece.ensures.put;
  leaves =
      zeros_leave c.args.at c.args.count c.loop-left.left c.min-size.result _ (g.D.Disk.state c.args.disk.now) (g.D.Disk.state c.loop-left.disk) (g.D.Disk.state c.put_piece.new.disk)
      c.loop-left.invariant.some (omega arith) (take-replicate c.min-size.result 4096 0 (omega arith)) c.loop-left.invariant.leaves c.put_piece.ensures.leaves;
}

pub loop-left-init : goal.loop-left-init
loop-left-init g c = record {
  some = omega arith;
  size = search rules;
  failures = search rules;
  unread = search rules;
  put =
      puts_same c.args.at [] (zeros (c.args.count - c.args.count)) (g.D.Disk.state c.args.disk.now) (g.D.Disk.state c.args.disk.now)
      (let none : 0 ≡ c.args.count - c.args.count = omega arith in ap zeros none) (puts_none c.args.at (g.D.Disk.state c.args.disk.now));
  leaves = none_leaves c.args.at c.args.count (g.D.Disk.state c.args.disk.now);
}

pub returns-in_err-put_piece-clause-leaves : goal.returns-in_err-put_piece-clause-leaves
returns-in_err-put_piece-clause-leaves g c =
    zeros_leave c.args.at c.args.count c.loop-left.left c.min-size.result _ (g.D.Disk.state c.args.disk.now) (g.D.Disk.state c.loop-left.disk) (g.D.Disk.state c.put_piece.new.disk)
    c.loop-left.invariant.some (omega arith) (take-replicate c.min-size.result 4096 0 (omega arith)) c.loop-left.invariant.leaves c.put_piece.ensures.leaves
