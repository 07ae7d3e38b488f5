use Rattle.std.proofs.Common.{◌≡◌, true, rules}
use Rattle.std.specs.Prelude.{is_none}
use Rattle.std.specs.List.{list_all}
use Rattle.tp_tests_opening.proofs.Netting.{all_thawed, taken_in}
use Rattle.tp_tests_opening.proofs.network.Net.take_in.Goals as goal

pub invariant_of-self : goal.invariant_of-self
invariant_of-self c =
    let nodes = c.self.inside.nodes.items in
    let passed : list_all (λ node. is_none node.frozen) nodes ≡ true = search rules in
    taken_in nodes c.self.inside.book c.take_in.new.self (all_thawed nodes passed) c.take_in.ensures.book c.take_in.ensures.act c.self.invariant
