use Rattle.std.proofs.Common.{◌≡◌, ◌++◌, ◌∷◌, [], length, set, take, sym, ap, ◌∙◌, arith, Some, slice_get, List}
use Rattle.tp_book.proofs.Lower.{Token, on_line, WholeCut, LINE_TOKENS, on_set_same}
use Rattle.tp_book.proofs.Before.{before_ends, before_goes_on, before_room, one_more}
use Rattle.tp_book.proofs.cuts.snap_cut.Cut.collect_before.Goals as goal

pub returns-then-is_marker : goal.returns-then-is_marker
returns-then-is_marker c =
    let was = c.args.self.now in
    let us = on_line c.args.lines.now c.args.line in
    let at : slice_get us c.loop-at.at ≡ Some c.in-Some.token = sym c.get.ensures ∙ c.in-Some.is in
    c.loop-at.invariant.0
    ∙ ap {A = List Token} (λ ts. record was { lines = set was.lines c.args.line (on_line was.lines c.args.line ++ ts) }) (sym (before_ends us c.loop-at.at c.in-Some.token at c.loop-at.invariant.1 (sym c.is_marker.ensures ∙ c.if-is_marker.true)))

pub collect-requires-clause-room : goal.collect-requires-clause-room
collect-requires-clause-room c =
    let was = c.args.self.now in
    let us = on_line c.args.lines.now c.args.line in
    let at : slice_get us c.loop-at.at ≡ Some c.in-Some.token = sym c.get.ensures ∙ c.in-Some.is in
    let on = ap (λ (x : WholeCut). on_line x.lines c.args.line) c.loop-at.invariant.0 ∙ on_set_same was.lines c.args.line (on_line was.lines c.args.line ++ take c.loop-at.at us) c.requires.there.0 in
    let room = before_room us c.loop-at.at c.in-Some.token at c.loop-at.invariant.1 (sym c.is_marker.ensures ∙ c.if-is_marker.false) (on_line was.lines c.args.line) LINE_TOKENS c.requires.room in
    omega (arith, room, ap length on)

pub loop-at-preserved : goal.loop-at-preserved
loop-at-preserved c =
    let was = c.args.self.now in
    let us = on_line c.args.lines.now c.args.line in
    let at : slice_get us c.loop-at.at ≡ Some c.in-Some.token = sym c.get.ensures ∙ c.in-Some.is in (
      c.collect.ensures
          ∙ ap (λ (x : WholeCut). record x { lines = set x.lines c.args.line (on_line x.lines c.args.line ++ c.in-Some.token ∷ []) }) c.loop-at.invariant.0
          ∙ ap (λ ls. record was { lines = ls }) (one_more us c.loop-at.at c.in-Some.token at was.lines c.args.line (on_line was.lines c.args.line) c.requires.there.0),
      before_goes_on us c.loop-at.at c.in-Some.token at c.loop-at.invariant.1 (sym c.is_marker.ensures ∙ c.if-is_marker.false),
    )
