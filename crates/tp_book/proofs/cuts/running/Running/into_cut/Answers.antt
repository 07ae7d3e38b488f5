use Rattle.std.proofs.Common.{◌≡◌, true, get_or, sym, ◌∙◌, Some}
use Rattle.std.specs.Prelude.{◌&&◌}
use Rattle.tp_book.proofs.Lower.{list_all, has_wire, all_closed, cond_some}
use Rattle.tp_book.proofs.Counts.{whole-counts}
use Rattle.tp_book.proofs.cuts.running.Running.into_cut.Goals as goal

pub returns : goal.returns
returns c =
    rw (← c.self.view_is)
    (λ wires lines cut h.
    let whole = whole-counts wires lines c.self.inside.recorded.items c.self.inside.cut c.self.inside.closed.items c.self.invariant in
    let found : Some c.self.inside.cut ≡ Some cut =
    (cond_some (list_all (λ r. r) c.self.inside.recorded.items && all_closed (has_wire wires) (λ line. get_or c.self.inside.closed.items line true) lines) (Some c.self.inside.cut) cut (sym whole ∙ h)).1 in
    cc)
