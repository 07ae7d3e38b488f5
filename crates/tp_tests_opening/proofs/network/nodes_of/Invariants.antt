-- The nodes so far are what the first images spell.
use Rattle.std.proofs.Common.{◌≡◌, map, take}
use Rattle.tp_tests_opening.specs.Nets.{seen, spelt}
use Rattle.tp_tests_opening.proofs.network.nodes_of.Given as goal

abbrev pub invariant-loop-i : goal.invariant-loop-i
invariant-loop-i l = seen l.nodes.items ≡ spelt (map (λ image. image.items) (take l.i l.images))
