use Rattle.std.proofs.Common.{◌∙◌, subst, inr, Ok, Err, Result, OnOk}
use Rattle.std.specs.Io.KnownBytes.{Appends}
use Rattle.tp_views.specs.Front.{AppendsFront}
use Rattle.tp_views.proofs.checking.put_checked.Goals as goal

on_ok : {T E : Type 0} (P Q : Type 0) (r : Result T E) → (P → Q) → OnOk r P → OnOk r Q
on_ok P Q (Ok x) turn h = turn h
on_ok P Q (Err e) turn h = h

pub returns-clause-printed : goal.returns-clause-printed
returns-clause-printed g c =
    on_ok _ _ c.put.result
    (λ appended. subst (λ bytes. Appends (g.O.Write.contents c.args.out.now) (g.O.Write.contents c.put.new.out) bytes) (c.as_bytes.ensures.value ∙ c.in_ok-text.ensures) appended)
    c.put.ensures.written

pub returns-clause-front : goal.returns-clause-front
returns-clause-front g c =
    inr (subst (λ bytes. AppendsFront (g.O.Write.contents c.args.out.now) (g.O.Write.contents c.put.new.out) bytes) (c.as_bytes.ensures.value ∙ c.in_ok-text.ensures) c.put.ensures.front)
