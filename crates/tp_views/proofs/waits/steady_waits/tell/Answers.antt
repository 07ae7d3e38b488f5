use Rattle.std.specs.Prelude.{◌≡◌, Err, Result, string_bytes}
use Rattle.std.proofs.Common.{◌∙◌, ap, sym, subst, rules}
use Rattle.tp_views.proofs.Lower.{Opened, OpenFault, ReadAnswer, verdict, then_leaves}
use Rattle.tp_views.specs.NodeMaps.{maps_seen}
use Rattle.tp_views.specs.Views.{waits_told}
use Rattle.tp_views.proofs.Told.{told_unopened}
use Rattle.tp_views.proofs.waits.steady_waits.tell.Goals as goal

pub returns-in_err-opened-clause-is : goal.returns-in_err-opened-clause-is
returns-in_err-opened-clause-is g c k =
    let told : c.from_residual.result ≡ Err c.in_err-opened.field-0.0 = search rules in
    told_unopened c.args.form (maps_seen c.args.maps.now) (verdict (g.D.Disk.state c.args.disk.now).now.bytes) c.in_err-opened.field-0.0 c.from_residual.result (c.in_err-opened.ensures.is k) told

-- opening leaves the bytes as they are
pub returns-clause-is : goal.returns-clause-is
returns-clause-is g c k =
    let form = c.args.form in
    let maps = maps_seen c.args.maps.now in
    let opens = c.in_ok-opened.ensures.is (c.tell_opened.ensures.premise k) in
    let same = ap (λ m. m.bytes) c.in_ok-opened.ensures.kept in
    let told = c.tell_opened.ensures.is k (ap verdict same ∙ opens) in
    subst (λ (given : Result Opened OpenFault). ReadAnswer string_bytes (waits_told form maps given) c.tell_opened.result) (sym opens) told

pub returns-clause-leaves : goal.returns-clause-leaves
returns-clause-leaves g c = then_leaves _ _ _ c.open.ensures.leaves c.tell_opened.ensures.leaves
