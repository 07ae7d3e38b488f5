use Rattle.std.proofs.Common.{rules, ◌≡◌, ℕ, ◌+◌, List, [], ◌∷◌, take, drop, drop-drop, Ok, Err, sym, ap, subst, ◌∙◌}
use Rattle.tp_run.proofs.Lower.{take_rest, Appends, more_appended, kept_appended}
use Rattle.tp_run.specs.Outlet.{CallsMore, rest_behind}
use Rattle.tp_run.specs.Shown.{MayTake}
use Rattle.tp_run.specs.declared.outlet.OutletFault.{OutletFault}
use Rattle.tp_run.proofs.Called.{CalledFor, called_on, some_left, was_called}
use Rattle.tp_run.proofs.Shown.{may_take_rest}
use Rattle.tp_run.proofs.printing.write_front.Goals.{in-Ok, in-Err-Interrupted}
use Rattle.tp_run.proofs.printing.write_front.Goals as goal

-- each call is for the rest of them
pub print-requires : goal.print-requires
print-requires g c =
    let bytes = c.args.bytes.now in
    let f = c.args.flusher.now in
    record {
      shown =
          subst (MayTake g.J.Naming.formatted g.J.Naming.before f) (sym (take_rest bytes c.loop.written))
          (may_take_rest g.J.Naming.formatted g.J.Naming.before f bytes c.loop.written c.requires.shown);
    }

pub loop-preserved : goal.loop-preserved
loop-preserved g c =
    let bytes = c.args.bytes.now in
    let there = c.args.flusher.now.state in
    let left = drop c.loop.written bytes in
    let was = g.O.Outlet.value c.args.out.now in
    let then = g.O.Outlet.value c.loop.out in
    let now = g.O.Outlet.value c.print.new.self in
    let whole = take_rest bytes c.loop.written in
    let some = some_left c.loop.written bytes c.if-written-bytes.false in
    elim c.match-print.branch [
      | in-Ok w ↦
          let count = w.in-Ok.count in
          let rest : drop count left ≡ drop c.match-print.written bytes = drop-drop count c.loop.written bytes ∙ ap (λ n. drop n bytes) (sym w.written-is) in
          record {
            few = search rules;
            front =
                subst (λ (n : ℕ). Appends was.taken now.taken (take n bytes)) (sym w.written-is)
                (more_appended was.taken then.taken now.taken bytes c.loop.written count c.loop.invariant.front
                (subst (λ (part : List ℕ). Appends then.taken now.taken (take count part)) whole w.in-Ok.ensures.takes));
            called =
                subst (λ (after : List ℕ). CalledFor there bytes after (c.loop.counter + 1) was now) rest
                (called_on there bytes left c.loop.counter was then now (Ok count) some c.loop.invariant.called
                (subst (λ (part : List ℕ). CallsMore then.calls now.calls (record { bytes = part; answer = Ok count; there = there } ∷ [])) whole w.in-Ok.ensures.noted));
          }
      | in-Err-Interrupted w ↦
          let fault = w.in-Err-Interrupted.field-0 in
          let rest : left ≡ drop c.match-print.written bytes = ap (λ n. drop n bytes) (sym w.written-is) in
          record {
            few = search rules;
            front =
                subst (λ (n : ℕ). Appends was.taken now.taken (take n bytes)) (sym w.written-is)
                (kept_appended was.taken then.taken now.taken _ c.loop.invariant.front w.in-Err-Interrupted.ensures.takes);
            called =
                subst (λ (after : List ℕ). CalledFor there bytes after (c.loop.counter + 1) was now) rest
                (subst (λ (f : OutletFault). CalledFor there bytes (rest_behind left (Err f)) (c.loop.counter + 1) was now) w.in-Err-Interrupted.field-0-is
                (called_on there bytes left c.loop.counter was then now (Err fault) some c.loop.invariant.called
                (subst (λ (part : List ℕ). CallsMore then.calls now.calls (record { bytes = part; answer = Err fault; there = there } ∷ [])) whole w.in-Err-Interrupted.ensures.noted)));
          }
    ]

pub returns-in-Err-Failed-clause-called : goal.returns-in-Err-Failed-clause-called
returns-in-Err-Failed-clause-called g c =
    let bytes = c.args.bytes.now in
    let there = c.args.flusher.now.state in
    let left = drop c.loop.written bytes in
    let was = g.O.Outlet.value c.args.out.now in
    let then = g.O.Outlet.value c.loop.out in
    let now = g.O.Outlet.value c.print.new.self in
    let fault = c.in-Err-Failed.field-0 in
    was_called there bytes (rest_behind left (Err fault)) (c.loop.counter + 1) was now
    (called_on there bytes left c.loop.counter was then now (Err fault) (some_left c.loop.written bytes c.if-written-bytes.false) c.loop.invariant.called
    (subst (λ (part : List ℕ). CallsMore then.calls now.calls (record { bytes = part; answer = Err fault; there = there } ∷ [])) (take_rest bytes c.loop.written) c.in-Err-Failed.ensures.noted))
    (ap (λ (f : OutletFault). rest_behind left (Err f)) c.in-Err-Failed.field-0-is)
