use Rattle.std.specs.Prelude.{◌≡◌, ◌++◌, OnOk, codes, string_bytes}
use Rattle.std.proofs.Common.{append-nil, subst, sym}
use Rattle.std.specs.Fmt.{decimal}
use Rattle.tp_views.specs.Waits.{since_part}
use Rattle.tp_views.specs.declared.waits.since.Since.{Since}
use Rattle.tp_views.proofs.waits.wait_lines.push_since.Goals as goal

pub returns-in-Before : goal.returns-in-Before
returns-in-Before c =
    let new = string_bytes c.push_parts-in-Before.new.text in
    let old = string_bytes c.args.text.now in
    subst (λ (since : Since). OnOk c.push_parts-in-Before.result (new ≡ old ++ since_part since)) (sym c.in-Before.is)
    (subst (λ number. OnOk c.push_parts-in-Before.result (new ≡ old ++ (codes " since before " ++ number))) (append-nil (decimal c.in-Before.number)) c.push_parts-in-Before.ensures)
