use Rattle.std.proofs.Common.{◌≡◌, ◌++◌, [], take, true, sym, ap, ◌∙◌, arith}
use Rattle.std.specs.Prelude.{flat_map}
use Rattle.tp_area.proofs.Lower.{take_all, line_bytes, has_record}
use Rattle.tp_area.proofs.Records.{each_at, records_more}
use Rattle.tp_area.proofs.encoding.line.lines_bytes.Goals as goal

pub tokens_on-requires-clause-recorded : goal.tokens_on-requires-clause-recorded
tokens_on-requires-clause-recorded c = each_at (λ line. has_record line ≡ true) c.args.lines.now c.loop-line.line [] c.requires.recorded (omega arith)

pub loop-line-preserved : goal.loop-line-preserved
loop-line-preserved c =
    let lines = c.args.lines.now in
    let done = flat_map line_bytes (take c.loop-line.line lines) in
    record {
      bytes =
          c.put.ensures.bytes
          ∙ ap (λ xs. xs ++ c.record-record.result) c.loop-line.invariant.bytes
          ∙ ap (λ xs. done ++ xs) (c.record-record.ensures ∙ ap line_bytes c.tokens_on.ensures)
          ∙ sym (records_more line_bytes lines c.loop-line.line [] (omega arith));
      size = omega arith;
    }

pub returns-clause-bytes : goal.returns-clause-bytes
returns-clause-bytes c =
    c.loop-line.invariant.bytes ∙ ap (flat_map line_bytes) (take_all c.loop-line.line c.args.lines.now (omega arith))
