use Rattle.std.proofs.Common.{◌≡◌, not, length, get_or, sym, ap, ◌∙◌}
use Rattle.tp_book.proofs.Lower.{drop_all, Data, pushed, sent, Snapshot, is_closed, length_pushed}
use Rattle.tp_book.proofs.Collected.{next_collected}
use Rattle.tp_book.proofs.cuts.running.Running.collect_all.Goals as goal

pub loop-m-preserved : goal.loop-m-preserved
loop-m-preserved c =
    let was = c.args.self.now in
    let m = get_or c.args.tokens.now c.loop-m.m-index (0, Data 0) in
    let N = next_collected (λ line. not (is_closed was line)) c.loop-m.self.lines _ c.args.tokens.now c.loop-m.m-index (0, Data 0) c.loop-m-test.true c.loop-m.invariant.2 c.loop-m.invariant.3 in
    let now : c.collect_token.new.self ≡ record was { lines = pushed (λ line. not (is_closed was line)) c.loop-m.self.lines m.0 m.1 } =
    c.collect_token.ensures ∙ ap (λ (s : Snapshot). record s { lines = pushed (λ line. not (is_closed s line)) c.loop-m.self.lines m.0 m.1 }) c.loop-m.invariant.0 in
    let lines = ap (λ (s : Snapshot). s.lines) now in (
      now ∙ ap (λ ls. record was { lines = ls }) (sym lines),
      ap length lines ∙ length_pushed _ _ _ _ ∙ c.loop-m.invariant.1,
      rw lines N.behind,
      rw lines N.leads,
    )

pub returns : goal.returns
unfolding sent
returns c =
    let was = c.args.self.now in
    c.loop-m.invariant.0
    ∙ ap (λ ls. record was { lines = ls })
    (sym (ap (λ ms. sent (λ line. not (is_closed was line)) c.loop-m.self.lines ms) (drop_all c.loop-m.m-index c.args.tokens.now c.loop-m-test.false)) ∙ c.loop-m.invariant.3)
