use Rattle.std.proofs.Common.{rules, ◌≡◌, ◌⊎◌, inl, inr, Ok, Err, Result, IfOk}
use Rattle.tp_model.specs.Opening.{verdict}
use Rattle.tp_views.proofs.telling.look.Goals as goal

if_ok : {T E : Type 0} (P Q R : T → Type 0) (r : Result T E) → ((x : T) → P x → Q x → R x) → IfOk r P → IfOk r Q → IfOk r R
if_ok P Q R (Ok x) both p q = both x p q
if_ok P Q R (Err e) both p q = tt

front_of : (A B C : Type 0) → A ⊎ B → (B → C) → A ⊎ C
front_of A B C (inl a) turn = inl a
front_of A B C (inr b) turn = inr (turn b)

pub returns-clause-done : goal.returns-clause-done
returns-clause-done g c keeps =
    let opened = c.in_ok-opened.opened in
    let opens : verdict (g.D.Disk.state c.args.disk.now).now.bytes ≡ Ok opened = search rules in
    if_ok _ _ _ c.tell.result (λ seen printed is_seen. record {
      opened = opened;
      is = opens;
      printed = printed;
      saw = is_seen;
    })
    c.tell.ensures.printed c.tell.ensures.seen

pub returns-clause-front : goal.returns-clause-front
returns-clause-front g c keeps =
    let opened = c.in_ok-opened.opened in
    let opens : verdict (g.D.Disk.state c.args.disk.now).now.bytes ≡ Ok opened = search rules in
    front_of _ _ _ c.tell.ensures.front (λ front. (opened, opens, front))
