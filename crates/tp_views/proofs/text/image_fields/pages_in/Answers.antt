use Rattle.std.proofs.Common.{◌≡◌, length, drop, ap, arith, length-drop}
use Rattle.std.specs.Prelude.{◌/◌}
use Rattle.tp_model.specs.declared.limits.TheConstants.{PAGE_BYTES}
use Rattle.tp_views.proofs.text.image_fields.pages_in.Goals as goal

pub returns : goal.returns
returns c =
    let bytes : c.saturating_sub.result ≡ length (drop 172 c.args.image.now) = omega (arith, length-drop 172 c.args.image.now) in
    ap (λ n. n / PAGE_BYTES) bytes
