use Rattle.std.proofs.Common.{◌≡◌, ◌∷◌, ◌++◌, [], List, ℕ, Vec, Global, Bor, rules}
use Rattle.tp_program.proofs.ImagesRead.{read_more}
use Rattle.tp_program.proofs.files.read_images.Goals as goal

pub loop-name-preserved : goal.loop-name-preserved
loop-name-preserved g c =
    let images = c.loop-name.images.items in
    let image = c.in_ok-image.image in
    let pushed : c.push.new.self.items ≡ images ++ image ∷ [] = search rules in
    record {
      all = search rules;
      read = read_more (λ (name : Bor (List ℕ)). name.now) (λ (image : Vec ℕ Global). image.items) c.args.folder.now c.args.names.now images c.push.new.self.items
          c.loop-name.name-index _ image (g.S.Devices.uses c.args.devices.now) (g.S.Devices.uses c.loop-name.devices) (g.S.Devices.uses c.read_image.new.devices)
          c.loop-name-test.true c.loop-name.invariant.all pushed c.loop-name.invariant.read c.in_ok-image.ensures.read;
      uncalled = search rules;
      kept = search rules;
    }
