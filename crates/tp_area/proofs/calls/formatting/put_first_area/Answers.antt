use Rattle.std.proofs.Common.{◌≡◌, ◌+◌, ◌≤◌, ◌++◌, length, ap, ◌∙◌, arith, append-nil}
use Rattle.std.specs.Prelude.{flat_map}
use Rattle.tp_model.specs.Bytes.{zeros}
use Rattle.tp_area.specs.Formatting.{area_front}
use Rattle.tp_area.specs.Puts.{Puts}
use Rattle.tp_area.proofs.Results.{from_ok}
use Rattle.tp_area.proofs.PutLaws.{puts_three, puts_same, wider_leaves, then_leaves}
use Rattle.tp_area.proofs.FormatCalls.{front_size, length-area_front}
use Rattle.tp_area.proofs.calls.formatting.put_first_area.Goals as goal

pub returns-clause-put : goal.returns-clause-put
returns-clause-put g c =
    let at = c.args.at in
    let s = g.D.Disk.state c.args.disk.now in
    let t = g.D.Disk.state c.put_piece.new.disk in
    let u = g.D.Disk.state c.put_images.new.disk in
    let v = g.D.Disk.state c.put_zeros.new.disk in
    let cut = c.args.lengths.cut in
    let images = flat_map (λ image. image.items) c.args.images.now in
    let rest = c.args.lengths.rest in
    let room : at ≤ length s.now.bytes = omega (arith, c.requires.inside, g.met.D.Disk.whole c.args.disk.now) in
    let front : c.put_front.new.out ≡ area_front cut = c.put_front.ensures ∙ append-nil (area_front cut) in
    let first : Puts at (area_front cut) s t = puts_same at c.put_front.new.out (area_front cut) s t front c.in_ok-put_piece.ensures.put in
    let size = length-area_front cut in
    let len = c.requires.images in
    from_ok c.put_zeros.result (Puts (at + front_size + c.args.lengths.images) (zeros rest) u v) (Puts at ((area_front cut ++ images) ++ zeros rest) s v)
    (puts_three at (area_front cut) images (zeros rest) (at + front_size) (at + front_size + c.args.lengths.images) s t u v room (omega arith) (omega arith) first c.in_ok-put_images.ensures.put)
    c.put_zeros.ensures.put

pub returns-in_err-put_piece-clause-leaves : goal.returns-in_err-put_piece-clause-leaves
returns-in_err-put_piece-clause-leaves g c =
    let at = c.args.at in
    let front = ap length (c.put_front.ensures ∙ append-nil (area_front c.args.lengths.cut)) ∙ length-area_front c.args.lengths.cut in
    wider_leaves (at, front_size + c.args.lengths.images + c.args.lengths.rest) (at, length c.put_front.new.out) (g.D.Disk.state c.args.disk.now) (g.D.Disk.state c.put_piece.new.disk)
    (omega arith, omega arith) c.put_piece.ensures.leaves

pub returns-in_err-put_images-clause-leaves : goal.returns-in_err-put_images-clause-leaves
returns-in_err-put_images-clause-leaves g c =
    let at = c.args.at in
    let all = front_size + c.args.lengths.images + c.args.lengths.rest in
    let s = g.D.Disk.state c.args.disk.now in
    let t = g.D.Disk.state c.put_piece.new.disk in
    let front = ap length (c.put_front.ensures ∙ append-nil (area_front c.args.lengths.cut)) ∙ length-area_front c.args.lengths.cut in
    let len = c.requires.images in
    let first = wider_leaves (at, all) (at, length c.put_front.new.out) s t (omega arith, omega arith) c.put_piece.ensures.leaves in
    then_leaves (at, all) (at + front_size, length (flat_map (λ image. image.items) c.args.images.now)) s t (g.D.Disk.state c.put_images.new.disk)
    (omega arith, omega arith) first c.put_images.ensures.leaves

pub returns-clause-leaves : goal.returns-clause-leaves
returns-clause-leaves g c =
    let at = c.args.at in
    let all = front_size + c.args.lengths.images + c.args.lengths.rest in
    let s = g.D.Disk.state c.args.disk.now in
    let t = g.D.Disk.state c.put_piece.new.disk in
    let u = g.D.Disk.state c.put_images.new.disk in
    let front = ap length (c.put_front.ensures ∙ append-nil (area_front c.args.lengths.cut)) ∙ length-area_front c.args.lengths.cut in
    let len = c.requires.images in
    let first = wider_leaves (at, all) (at, length c.put_front.new.out) s t (omega arith, omega arith) c.put_piece.ensures.leaves in
    let second = then_leaves (at, all) (at + front_size, length (flat_map (λ image. image.items) c.args.images.now)) s t u (omega arith, omega arith) first c.put_images.ensures.leaves in
    then_leaves (at, all) (at + front_size + c.args.lengths.images, c.args.lengths.rest) s u (g.D.Disk.state c.put_zeros.new.disk) (omega arith, omega arith) second c.put_zeros.ensures.leaves
