use Rattle.std.proofs.Common.{◌∙◌, sym, ap, subst, rules, Result, List, ℕ}
use Rattle.std.specs.Prelude.{option_copied}
use Rattle.tp_views.specs.Maps.{IsMapFault, Row, after_lines, parts_behind, read_map, rows_seen}
use Rattle.tp_views.proofs.Mapped.{IfErr-fault, fault_first, fewer, lines_end, lines_more}
use Rattle.tp_views.proofs.maps.read_map.Goals as goal

pub returns-in_err-add_line-clause-err : goal.returns-in_err-add_line-clause-err
returns-in_err-add_line-clause-err c =
    let said = ap (λ rest. after_lines (rows_seen c.loop-rest.rows.items) c.loop-rest.number (parts_behind (option_copied rest))) c.in-Some.is
    ∙ ap (after_lines (rows_seen c.loop-rest.rows.items) c.loop-rest.number) c.first_line.ensures.cut in
    let P : Result (List Row) ℕ → _ = λ said. IsMapFault said c.in_err-add_line.field-0.0 in
    IfErr-fault (IsMapFault (read_map c.args.text.now)) c.from_residual.result c.in_err-add_line.field-0.0 (search rules)
    (subst P (sym said ∙ c.loop-rest.invariant.left) (fault_first _ _ _ _ c.in_err-add_line.field-0.0 c.in_err-add_line.ensures.err))

pub loop-rest-preserved : goal.loop-rest-preserved
loop-rest-preserved c =
    let said = ap (λ rest. after_lines (rows_seen c.loop-rest.rows.items) c.loop-rest.number (parts_behind (option_copied rest))) c.in-Some.is
    ∙ ap (after_lines (rows_seen c.loop-rest.rows.items) c.loop-rest.number) c.first_line.ensures.cut in
    record {
      count = fewer c.loop-rest.rest c.in-Some.text c.first_line.result.1 c.loop-rest.number _ c.in-Some.is c.first_line.ensures.shorter c.loop-rest.invariant.count;
      left = sym (said ∙ lines_more _ _ _ _ _ c.in_ok-add_line.ensures.ok) ∙ c.loop-rest.invariant.left;
    }

pub returns-clause-ok : goal.returns-clause-ok
returns-clause-ok c =
    sym c.loop-rest.invariant.left
    ∙ ap (λ rest. after_lines (rows_seen c.loop-rest.rows.items) c.loop-rest.number (parts_behind (option_copied rest))) c.in_default.is
    ∙ lines_end (rows_seen c.loop-rest.rows.items) c.loop-rest.number
