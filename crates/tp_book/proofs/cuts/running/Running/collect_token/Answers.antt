use Rattle.std.proofs.Common.{◌≡◌, true, false, not, sym, ap, ◌∙◌}
use Rattle.tp_model.specs.Snapshot.{is_closed}
use Rattle.tp_book.proofs.Sending.{pushed_open, pushed_shut}
use Rattle.tp_book.specs.Running.{snapshot_of}
use Rattle.tp_book.proofs.cuts.running.Running.collect_token.Goals as goal

pub returns-then-not-is_closed : goal.returns-then-not-is_closed
returns-then-not-is_closed c =
    let s = snapshot_of c.self.inside in
    let unclosed : not (is_closed s c.args.line) ≡ true = rw (← c.self.view_is) at (ap not (sym c.is_closed.ensures ∙ c.if-not-is_closed.true)) in
    rw (c.collect.ensures, ← c.self.view_is)
    (ap (λ given. record (snapshot_of c.self.inside) { lines = given }) (sym (pushed_open (λ line. not (is_closed s line)) s.lines c.args.line c.args.token unclosed)))

pub returns-else-not-is_closed : goal.returns-else-not-is_closed
returns-else-not-is_closed c =
    let s = c.args.self.now in
    let shut : not (is_closed s c.args.line) ≡ false = ap not (sym c.is_closed.ensures ∙ c.if-not-is_closed.false) in
    ap (λ given. record s { lines = given }) (sym (pushed_shut (λ line. not (is_closed s line)) s.lines c.args.line c.args.token shut))
