use Rattle.std.proofs.Common.{◌≡◌, ◌<◌, Some, length, slice_get, refl, rules}
use Rattle.std.proofs.lemmas.Option.{slice_get_read}
use Rattle.tp_tests_opening.proofs.Netting.{thawed}
use Rattle.tp_tests_opening.proofs.network.Net.image.Goals as goal

pub invariant_of-self : goal.invariant_of-self
invariant_of-self c =
    let nodes = c.self.inside.nodes.items in
    let there : c.args.number < length nodes = search rules in
    let node = c.index_mut.result.now in
    let at : slice_get nodes c.args.number ≡ Some node = slice_get_read nodes (length nodes) c.args.number node refl there (search rules) in
    thawed nodes c.args.number node c.image_of.new.node c.self.inside.book at c.image_of.ensures.live c.image_of.ensures.thawed c.self.invariant
