use Rattle.std.proofs.Common.{rules, arith, ◌≡◌, ◌+◌, length, subst, sym}
use Rattle.tp_flush.proofs.Lower.{IMAGE_HEAD_BYTES, written, Topology, piece_place, content_beside}
use Rattle.tp_flush.proofs.Goings.{goes_then, tried_then, went_then}
use Rattle.tp_flush.specs.Copying.{HasRecorded, IsPartOut}
use Rattle.tp_flush.proofs.Standing.{head_out, part_put}
use Rattle.tp_flush.proofs.flusher.Flusher.copy_head.Goals as goal

pub put-requires-clause-rests : goal.put-requires-clause-rests
put-requires-clause-rests g c = c.read_head.ensures.went.waits.rested.rests

pub put-requires-clause-cleared : goal.put-requires-clause-cleared
put-requires-clause-cleared g c = c.read_head.ensures.went.cleared c.requires.cleared

pub returns-in_err-put-clause-tried : goal.returns-in_err-put-clause-tried
returns-in_err-put-clause-tried g c =
    tried_then (Unit {0}) c.from_residual.result c.in_err-put.field-0.0 (search rules) c.args.self.now c.read_head.new.self c.put.new.self c.read_head.ensures.went c.in_err-put.ensures.tried

pub returns-in_err-put-clause-goes : goal.returns-in_err-put-clause-goes
returns-in_err-put-clause-goes g c =
    goes_then g.J.Naming.formatted g.J.Naming.before c.args.self.now c.read_head.new.self c.put.new.self c.read_head.ensures.goes c.in_err-put.ensures.goes

pub returns-clause-tried : goal.returns-clause-tried
returns-clause-tried g c = went_then c.args.self.now c.read_head.new.self c.put.new.self c.read_head.ensures.went c.in_ok-put.ensures.tried

pub returns-clause-goes : goal.returns-clause-goes
returns-clause-goes g c =
    goes_then g.J.Naming.formatted g.J.Naming.before c.args.self.now c.read_head.new.self c.put.new.self c.read_head.ensures.goes c.in_ok-put.ensures.goes

pub returns-clause-stands : goal.returns-clause-stands
returns-clause-stands g c k = λ found.
    let b = c.read_head.new.self in
    let d = c.put.new.self in
    let R = c.read_head.ensures in
    let head = c.read_head.new.out in
    let content = content_beside b.place b.state in
    let begins = subst (λ (t : Topology). c.args.image ≡ piece_place t c.args.node 0) (sym R.goes.process.topology) c.requires.image in
    let at : c.args.image + 0 ≡ piece_place b.topology c.args.node 0 = omega (arith, begins) in
    let size : length head ≡ IMAGE_HEAD_BYTES = search rules in
    part_put b d _ c.args.node 0 (c.in_ok-put.ensures.content k) c.put.ensures.same.0 c.put.ensures.goes.process.topology
    (subst (λ n. IsPartOut b.topology b.world.net (written content n head) c.args.node 0) (sym at)
    (head_out b.topology b.world.net content c.args.node head (R.head c.if-not-read_head.false) size (omega (arith, c.put.ensures.room k, at, size))))

pub returns-clause-recorded : goal.returns-clause-recorded
returns-clause-recorded g c = λ found.
    let H = c.read_head.ensures.head c.if-not-read_head.false in
    subst (λ net. HasRecorded net c.args.node) (sym c.put.ensures.same.0) (H.node, H.frozen)
