use Rattle.std.proofs.Common.{refl, arith}
use Rattle.tp_turn.proofs.Lower.{network_made, are_bytes}
use Rattle.tp_turn.proofs.Begun.{lone_begins, lone_is_network, lone_starts}
use Rattle.tp_turn.proofs.lone.Lone.start.Goals as goal

pub start-requires-clause-fresh : goal.start-requires-clause-fresh
start-requires-clause-fresh c = lone_begins c.args.image.now c.args.node.live (network_made c.in_ok-net.net) c.requires.fresh c.in_ok-net.ensures

pub start-requires-clause-shaped : goal.start-requires-clause-shaped
start-requires-clause-shaped c = lone_is_network c.args.image.now (network_made c.in_ok-net.net) c.in_ok-net.ensures

pub returns : goal.returns
returns c =
    lone_starts c.args.image.now c.args.node.live (network_made c.in_ok-net.net) (record { book = c.in_ok-book.book; node = c.args.node; runs = c.in_ok-runs.runs }) (are_bytes c.args.image.now (λ i. let fit = c.type_inv.image i in omega arith))
    c.requires.fresh c.in_ok-net.ensures c.in_ok-book.ensures refl c.requires.thawed
