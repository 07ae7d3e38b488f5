use Rattle.std.proofs.Common.{◌≡◌, Bool, rules, ap, subst, Ok, Err}
use Rattle.tp_recover.proofs.Lower.{Head, chosen_area}
use Rattle.tp_recover.specs.Chosen.{chosen_in}
use Rattle.tp_recover.specs.Reading.{ReadAnswer}
use Rattle.tp_recover.proofs.Leaving.{sync_leaves, then_leaves}
use Rattle.tp_recover.proofs.TakenRows.{choice_told, choice_untold, head_untold}
use Rattle.tp_recover.proofs.opening.read_chosen.Goals as goal

-- A sync leaves the bytes as they are.

pub returns-in_err-head-clause-is : goal.returns-in_err-head-clause-is
returns-in_err-head-clause-is g c k =
    let told : c.from_residual.result ≡ Err c.in_err-head.field-0.0 = search rules in
    subst (λ xs. ReadAnswer (λ (chosen : Head × Bool). chosen) (chosen_in xs) c.from_residual.result) (ap (λ m. m.bytes) c.in-Ok.ensures.after)
    (head_untold (λ (chosen : Head × Bool). chosen) (g.D.Disk.state c.sync.new.self).now.bytes c.in_err-head.field-0.0 c.from_residual.result (c.in_err-head.ensures.is k) told)

pub returns-in_err-second-clause-is : goal.returns-in_err-second-clause-is
returns-in_err-second-clause-is g c k =
    let told : c.from_residual-in_err-second.result ≡ Err c.in_err-second.field-0.0 = search rules in
    let chosen =
    subst (λ areas. ReadAnswer (λ (second : Bool). second) (chosen_area areas (g.D.Disk.state c.read_head.new.disk).now.bytes) (Err c.in_err-second.field-0.0)) c.areas.ensures.value (c.in_err-second.ensures.is k) in
    let here =
    subst (λ m. ReadAnswer (λ (second : Bool). second) (chosen_area c.in_ok-head.head.areas m.bytes) (Err c.in_err-second.field-0.0)) c.in_ok-head.ensures.kept chosen in
    subst (λ xs. ReadAnswer (λ (chosen : Head × Bool). chosen) (chosen_in xs) c.from_residual-in_err-second.result) (ap (λ m. m.bytes) c.in-Ok.ensures.after)
    (choice_untold (λ (chosen : Head × Bool). chosen) c.in_ok-head.head (g.D.Disk.state c.sync.new.self).now.bytes c.in_err-second.field-0.0 c.from_residual-in_err-second.result (c.in_ok-head.ensures.is (c.read_choice.ensures.premise k)) here told)

pub returns-clause-is : goal.returns-clause-is
returns-clause-is g c k =
    let chosen = subst (λ areas. chosen_area areas (g.D.Disk.state c.read_head.new.disk).now.bytes ≡ Ok c.in_ok-second.second) c.areas.ensures.value (c.in_ok-second.ensures.is k) in
    let here = subst (λ m. chosen_area c.in_ok-head.head.areas m.bytes ≡ Ok c.in_ok-second.second) c.in_ok-head.ensures.kept chosen in
    subst (λ xs. chosen_in xs ≡ Ok (c.in_ok-head.head, c.in_ok-second.second)) (ap (λ m. m.bytes) c.in-Ok.ensures.after)
    (choice_told c.in_ok-head.head c.in_ok-second.second (g.D.Disk.state c.sync.new.self).now.bytes (c.in_ok-head.ensures.is (c.read_choice.ensures.premise k)) here)

pub returns-in_default-clause-leaves : goal.returns-in_default-clause-leaves
returns-in_default-clause-leaves g c =
    sync_leaves c.sync.result (g.D.Disk.state c.args.disk.now) (g.D.Disk.state c.sync.new.self) c.sync.ensures.goes c.sync.ensures.after c.sync.ensures.failed

pub returns-in_err-head-clause-leaves : goal.returns-in_err-head-clause-leaves
returns-in_err-head-clause-leaves g c =
    let synced = sync_leaves c.sync.result (g.D.Disk.state c.args.disk.now) (g.D.Disk.state c.sync.new.self) c.sync.ensures.goes c.sync.ensures.after c.sync.ensures.failed in
    then_leaves _ _ _ synced c.read_head.ensures.leaves

pub returns-in_err-second-clause-leaves : goal.returns-in_err-second-clause-leaves
returns-in_err-second-clause-leaves g c =
    let synced = sync_leaves c.sync.result (g.D.Disk.state c.args.disk.now) (g.D.Disk.state c.sync.new.self) c.sync.ensures.goes c.sync.ensures.after c.sync.ensures.failed in
    then_leaves _ _ _ (then_leaves _ _ _ synced c.read_head.ensures.leaves) c.read_choice.ensures.leaves

pub returns-clause-leaves : goal.returns-clause-leaves
returns-clause-leaves g c =
    let synced = sync_leaves c.sync.result (g.D.Disk.state c.args.disk.now) (g.D.Disk.state c.sync.new.self) c.sync.ensures.goes c.sync.ensures.after c.sync.ensures.failed in
    then_leaves _ _ _ (then_leaves _ _ _ synced c.read_head.ensures.leaves) c.read_choice.ensures.leaves
