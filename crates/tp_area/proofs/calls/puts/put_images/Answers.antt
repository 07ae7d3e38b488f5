use Rattle.std.proofs.Common.{rules, ◌≤◌, ℕ, List, Vec, Global, length, take, ap, arith}
use Rattle.std.specs.Prelude.{flat_map}
use Rattle.std.proofs.lemmas.List.{take_all}
use Rattle.tp_area.specs.Puts.{Puts}
use Rattle.tp_area.proofs.PutLaws.{puts_same, image_puts, image_fits, image_place, image_leaves}
use Rattle.tp_area.proofs.calls.puts.put_images.Goals as goal

abbrev items : Vec ℕ Global → List ℕ
items image = image.items

pub put_piece-requires-clause-inside : goal.put_piece-requires-clause-inside
put_piece-requires-clause-inside g c =
    omega (arith, c.requires.inside, image_fits items c.args.images.now c.loop-image.image-index c.image-item.result c.loop-image-test.true c.image-item.is, c.loop-image.invariant.place, c.loop-image.invariant.size, c.deref.ensures.value)

pub overflow_add-place : goal.overflow_add-place
overflow_add-place g c =
    omega (arith, c.requires.inside, image_fits items c.args.images.now c.loop-image.image-index c.image-item.result c.loop-image-test.true c.image-item.is, c.loop-image.invariant.place, c.loop-image.invariant.size, c.deref.ensures.value)

pub loop-image-preserved : goal.loop-image-preserved
loop-image-preserved g c =
    let i = c.loop-image.image-index in
    let images = c.args.images.now in
    let image = c.image-item.result in record {
      place = omega (arith, image_place items images i image c.loop-image-test.true c.image-item.is, c.loop-image.invariant.place);
      size = search rules;
      failures = search rules;
      unread = search rules;
      put =
          let s = g.D.Disk.state c.args.disk.now in
          let t = g.D.Disk.state c.loop-image.disk in
          let u = g.D.Disk.state c.put_piece.new.disk in
          let room : c.args.at ≤ length s.now.bytes = omega (arith, c.requires.inside, g.met.D.Disk.whole c.args.disk.now) in
          let here : Puts c.loop-image.place (items image) t u =
          puts_same c.loop-image.place c.deref.result.now (items image) t u c.deref.ensures.value c.in_ok-put_piece.ensures.put in
          image_puts items images i image c.args.at c.loop-image.place s t u c.loop-image-test.true c.image-item.is room
          c.loop-image.invariant.place c.loop-image.invariant.put here;
      leaves =
          image_leaves items images i image c.deref.result.now c.args.at c.loop-image.place (g.D.Disk.state c.args.disk.now) (g.D.Disk.state c.loop-image.disk) (g.D.Disk.state c.put_piece.new.disk)
          c.loop-image-test.true c.image-item.is c.deref.ensures.value c.loop-image.invariant.place c.loop-image.invariant.leaves c.put_piece.ensures.leaves;
    }

pub returns-in_err-put_piece-clause-leaves : goal.returns-in_err-put_piece-clause-leaves
returns-in_err-put_piece-clause-leaves g c =
    image_leaves items c.args.images.now c.loop-image.image-index c.image-item.result c.deref.result.now c.args.at c.loop-image.place
    (g.D.Disk.state c.args.disk.now) (g.D.Disk.state c.loop-image.disk) (g.D.Disk.state c.put_piece.new.disk)
    c.loop-image-test.true c.image-item.is c.deref.ensures.value c.loop-image.invariant.place c.loop-image.invariant.leaves c.put_piece.ensures.leaves

pub returns-clause-put : goal.returns-clause-put
returns-clause-put g c =
    let images = c.args.images.now in
    puts_same c.args.at (flat_map items (take c.loop-image.image-index images)) (flat_map items images) (g.D.Disk.state c.args.disk.now) (g.D.Disk.state c.loop-image.disk)
    (ap (flat_map items) (take_all c.loop-image.image-index images (omega (arith, c.loop-image-test.false)))) c.loop-image.invariant.put
