use Rattle.std.proofs.Common.{rules, arith, suc, ◌+◌, ◌*◌, ℕ, List, length, subst, sym, ◌≡◌, ap, ◌∙◌}
use Rattle.std.specs.Prelude.{flat_map}
use Rattle.tp_flush.proofs.Lower.{PAGE_BYTES, written, Topology, piece_place, place_in_image, content_beside}
use Rattle.tp_flush.specs.Copying.{IsPartOut}
use Rattle.tp_flush.proofs.Goings.{goes_then, tried_then, went_then}
use Rattle.tp_flush.proofs.Standing.{pages_out, part_looked, part_put}
use Rattle.tp_flush.proofs.flusher.Flusher.copy_pages.Goals as goal

pub put-requires-clause-rests : goal.put-requires-clause-rests
put-requires-clause-rests g c = c.read_pages.ensures.went.waits.rested.rests

pub put-requires-clause-cleared : goal.put-requires-clause-cleared
put-requires-clause-cleared g c = c.read_pages.ensures.went.cleared c.requires.cleared

pub returns-in_err-put-clause-tried : goal.returns-in_err-put-clause-tried
returns-in_err-put-clause-tried g c =
    tried_then (Unit {0}) c.from_residual.result c.in_err-put.field-0.0 (search rules) c.args.self.now c.read_pages.new.self c.put.new.self c.read_pages.ensures.went c.in_err-put.ensures.tried

pub returns-in_err-put-clause-goes : goal.returns-in_err-put-clause-goes
returns-in_err-put-clause-goes g c =
    goes_then g.J.Naming.formatted g.J.Naming.before c.args.self.now c.read_pages.new.self c.put.new.self c.read_pages.ensures.goes c.put.ensures.goes

pub returns-clause-tried : goal.returns-clause-tried
returns-clause-tried g c = went_then c.args.self.now c.read_pages.new.self c.put.new.self c.read_pages.ensures.went c.in_ok-put.ensures.tried

pub returns-clause-goes : goal.returns-clause-goes
returns-clause-goes g c =
    goes_then g.J.Naming.formatted g.J.Naming.before c.args.self.now c.read_pages.new.self c.put.new.self c.read_pages.ensures.goes c.put.ensures.goes

pub returns-clause-stands : goal.returns-clause-stands
returns-clause-stands g c k = λ found.
    let b = c.read_pages.new.self in
    let d = c.put.new.self in
    let E = c.put.ensures in
    let R = c.read_pages.ensures in
    let first = c.args.first in
    let pages = c.read_pages.new.out in
    let content = content_beside b.place b.state in
    let at : c.args.image + c.place_in_image-inner.result ≡ piece_place b.topology c.args.node (suc first) =
    let begins = subst (λ (t : Topology). c.args.image ≡ piece_place t c.args.node 0) (sym R.goes.process.topology) c.requires.image in
    let inner = c.place_in_image-inner.ensures.value in
    let next : first + 1 ≡ suc first = omega arith in
    omega (arith, begins, inner, ap place_in_image next) in
    let bytes : c.joined.result.now ≡ flat_map (λ (page : List ℕ). page) pages = c.joined.ensures.bytes in
    let many : length c.joined.result.now ≡ PAGE_BYTES * length pages = c.joined.ensures.len in
    let all : length pages ≡ length c.args.pages.now = search rules in
    let stood = part_looked c.args.self.now b R.went R.same.0 R.goes.process.topology c.args.node first (c.requires.stands (R.goes.premise (E.goes.premise k))) in
    let out = pages_out b.topology b.world.net content c.args.node first pages stood (λ i low. R.pages i (omega (arith, low, all))) c.joined.ensures.each (omega (arith, E.room k, at, many)) in
    part_put b d _ c.args.node (first + length c.args.pages.now) (c.in_ok-put.ensures.content k) E.same.0 E.goes.process.topology
    (subst (λ n. IsPartOut b.topology b.world.net (written content n c.joined.result.now) c.args.node (first + length c.args.pages.now)) (sym at)
    (subst (λ xs. IsPartOut b.topology b.world.net (written content (piece_place b.topology c.args.node (suc first)) xs) c.args.node (first + length c.args.pages.now)) (sym bytes)
    (subst (λ n. IsPartOut b.topology b.world.net (written content (piece_place b.topology c.args.node (suc first)) (flat_map (λ page. page) pages)) c.args.node (first + n)) all out)))
