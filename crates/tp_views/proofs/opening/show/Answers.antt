use Rattle.std.proofs.Common.{rules, ◌≡◌, ◌∙◌, subst, inr, Ok, Err, Result, OnOk}
use Rattle.tp_views.proofs.Lower.{Appends, verdict}
use Rattle.tp_views.specs.Front.{AppendsFront}
use Rattle.tp_views.proofs.opening.show.Goals as goal

on_ok : {T E : Type 0} (P Q : Type 0) (r : Result T E) → (P → Q) → OnOk r P → OnOk r Q
on_ok P Q (Ok x) turn h = turn h
on_ok P Q (Err e) turn h = h

pub returns-clause-done : goal.returns-clause-done
returns-clause-done g c keeps =
    let opened = c.in_ok-opened.opened in
    let opens : verdict (g.D.Disk.state c.args.disk.now).now.bytes ≡ Ok opened = search rules in
    let text = c.as_bytes.ensures.value ∙ c.in_ok-text.ensures in
    on_ok _ _ c.put.result (λ appended. record {
      opened = opened;
      is = opens;
      printed = subst (λ bytes. Appends (g.O.Write.contents c.args.out.now) (g.O.Write.contents c.put.new.out) bytes) text appended;
    })
    c.put.ensures.written

pub returns-clause-front : goal.returns-clause-front
returns-clause-front g c keeps =
    let opened = c.in_ok-opened.opened in
    let opens : verdict (g.D.Disk.state c.args.disk.now).now.bytes ≡ Ok opened = search rules in
    let text = c.as_bytes.ensures.value ∙ c.in_ok-text.ensures in
    inr (
      opened,
      opens,
      subst (λ bytes. AppendsFront (g.O.Write.contents c.args.out.now) (g.O.Write.contents c.put.new.out) bytes) text c.put.ensures.front,
    )
