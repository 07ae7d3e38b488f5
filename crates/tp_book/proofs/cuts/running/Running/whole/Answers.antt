use Rattle.std.proofs.Common.{◌≡◌, true, false, cond, length, get_or, sym, ap, ◌∙◌, Some, None}
use Rattle.std.specs.Prelude.{◌&&◌}
use Rattle.tp_book.proofs.Lower.{list_all, has_wire, all_closed}
use Rattle.tp_book.proofs.Counts.{whole-counts, both_false}
use Rattle.tp_book.proofs.cuts.running.Running.whole.Goals as goal

pub returns-then-not-all_set : goal.returns-then-not-all_set
returns-then-not-all_set c =
    let no : list_all (λ r. r) c.self.inside.recorded.items ≡ false = rw c.deref.ensures.value at (sym c.all_set.ensures ∙ c.if-not-all_set.true) in
    rw (← c.self.view_is)
    (sym (whole-counts c.args.wires.now (length c.args.wires.now) c.self.inside.recorded.items c.self.inside.cut c.self.inside.closed.items c.self.invariant ∙ ap (λ b. cond (b && all_closed (has_wire c.args.wires.now) (λ line. get_or c.self.inside.closed.items line true) (length c.args.wires.now)) (Some c.self.inside.cut) None) no))

pub returns-then-not-all_closed : goal.returns-then-not-all_closed
returns-then-not-all_closed c =
    let no : all_closed (has_wire c.args.wires.now) (λ line. get_or c.self.inside.closed.items line true) (length c.args.wires.now) ≡ false = rw c.deref-2.ensures.value at (sym c.all_closed.ensures ∙ c.if-not-all_closed.true) in
    rw (← c.self.view_is)
    (sym (whole-counts c.args.wires.now (length c.args.wires.now) c.self.inside.recorded.items c.self.inside.cut c.self.inside.closed.items c.self.invariant ∙ ap (λ b. cond (list_all (λ r. r) c.self.inside.recorded.items && b) (Some c.self.inside.cut) None) no
    ∙ ap (λ b. cond b (Some c.self.inside.cut) None) (both_false (list_all (λ r. r) c.self.inside.recorded.items))))

pub returns : goal.returns
returns c =
    let all : list_all (λ r. r) c.self.inside.recorded.items ≡ true = rw c.deref.ensures.value at (sym c.all_set.ensures ∙ c.if-not-all_set.false) in
    let shut : all_closed (has_wire c.args.wires.now) (λ line. get_or c.self.inside.closed.items line true) (length c.args.wires.now) ≡ true = rw c.deref-2.ensures.value at (sym c.all_closed.ensures ∙ c.if-not-all_closed.false) in
    rw (← c.self.view_is)
    (sym (whole-counts c.args.wires.now (length c.args.wires.now) c.self.inside.recorded.items c.self.inside.cut c.self.inside.closed.items c.self.invariant ∙ ap (λ b. cond (b && all_closed (has_wire c.args.wires.now) (λ line. get_or c.self.inside.closed.items line true) (length c.args.wires.now)) (Some c.self.inside.cut) None) all ∙ ap (λ b. cond b (Some c.self.inside.cut) None) shut))
