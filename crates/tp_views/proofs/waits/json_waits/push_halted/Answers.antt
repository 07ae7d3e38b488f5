use Rattle.std.proofs.Common.{◌∙◌, ◌++◌, ap, append-nil, codes, string_bytes}
use Rattle.std.specs.Fmt.{decimal}
use Rattle.tp_views.proofs.Joined.{joined_four, on_ok}
use Rattle.tp_views.proofs.waits.json_waits.push_halted.Goals as goal

pub returns : goal.returns
returns c =
    let named = c.in_ok-push-2.ensures ∙ ap (λ name. string_bytes c.push.new.text ++ name) c.fault_name.ensures in
    let at = c.in_ok-push_parts.ensures ∙ ap (λ number. string_bytes c.push-2.new.text ++ (codes "\",\"at\":" ++ number)) (append-nil (decimal c.args.at)) in
    on_ok _ _ c.push_spot_fields.result (λ spot. joined_four _ _ _ _ _ _ _ _ _ c.in_ok-push.ensures named at spot) c.push_spot_fields.ensures
