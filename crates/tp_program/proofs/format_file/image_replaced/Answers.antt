use Rattle.std.proofs.Common.{ℕ, Bor, List}
use Rattle.std.specs.Prelude.{string_bytes}
use Rattle.tp_program.proofs.Apart.{apart_all}
use Rattle.tp_program.proofs.format_file.image_replaced.Goals as goal

pub returns : goal.returns
returns g c =
    let new = c.args.new.now in
    apart_all (λ (name : Bor (List ℕ)). name.now) (string_bytes new.device) (string_bytes new.images) c.args.names.now c.loop-node.node-index c.loop-node-test.false c.loop-node.invariant
