use Rattle.std.proofs.Common.{◌≡◌, Some, ap, subst, take, ◌∙◌}
use Rattle.std.specs.List.{slice_get}
use Rattle.tp_replay.proofs.Stretch.{taken_there}
use Rattle.tp_replay.proofs.pieces.splits.deal.Goals as goal

pub part_beside-requires-clause-live : goal.part_beside-requires-clause-live
part_beside-requires-clause-live c = λ i node at.
    let are = ap (λ v. v.items) c.replace-nodes.ensures.value ∙ c.in_ok-behind.ensures.items ∙ ap (λ n. take n c.args.rest.now.items) c.from.ensures in
    c.requires.live i node (taken_there c.args.run.count c.args.rest.now.items i node (subst (λ xs. slice_get xs i ≡ Some node) are at))
