use Rattle.std.proofs.Common.{◌≡◌, ◌<◌, Some, length, slice_get, refl, rules}
use Rattle.std.proofs.lemmas.Option.{slice_get_read}
use Rattle.tp_tests_opening.proofs.Netting.{moved}
use Rattle.tp_tests_opening.proofs.network.Net.does.Goals as goal

pub invariant_of-self : goal.invariant_of-self
invariant_of-self c =
    let nodes = c.self.inside.nodes.items in
    let there : c.args.number < length nodes = search rules in
    let at : slice_get nodes c.args.number ≡ Some c.index_mut.result.now = slice_get_read nodes (length nodes) c.args.number c.index_mut.result.now refl there (search rules) in
    rw c.from-place.ensures
    (moved nodes c.args.number c.index_mut.result.now c.does.new.node c.self.inside.book c.does.new.book at c.does.ensures.leaves c.does.ensures.home c.self.invariant)

pub does-requires-clause-home : goal.does-requires-clause-home
does-requires-clause-home c =
    let nodes = c.self.inside.nodes.items in
    let there : c.args.number < length nodes = search rules in
    c.self.invariant.each c.args.number c.index_mut.result.now (slice_get_read nodes (length nodes) c.args.number c.index_mut.result.now refl there (search rules))
