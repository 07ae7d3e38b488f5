use Rattle.std.proofs.Common.{arith, ◌∙◌, ◌+◌, ◌++◌, ◌∷◌, ap, sym, append_assoc, string_bytes, drop, map}
use Rattle.std.proofs.lemmas.List.{at_drop_more}
use Rattle.tp_views.specs.Fields.{fields_text}
use Rattle.tp_views.specs.Status.{halted_after, halted_fields, halts_text}
use Rattle.tp_views.proofs.text.status_text.push_all_halted.Goals as goal

pub loop-number-preserved : goal.loop-number-preserved
loop-number-preserved c =
    let n = c.loop-number.number in
    let all = c.args.nodes.now in
    let json = c.args.json in
    let before = c.loop-number.before in
    let text = string_bytes c.loop-number.text in
    let rest = map (λ x. x.live) (drop (n + 1) all) in
    let here = at_drop_more (λ xs. xs) all n c.index-nodes-number.result c.loop-number-test.true ∙ ap (λ x. x ∷ drop (n + 1) all) (sym c.index-nodes-number.is) in
    record {
      text = ap (λ after. string_bytes c.push_halted.new.text ++ halts_text json after (n + 1) rest) c.halted_after-before.ensures.value
          ∙ ap (λ bytes. bytes ++ halts_text json (halted_after before c.standing-standing.result) (n + 1) rest) c.in_ok-push_halted.ensures
          ∙ append_assoc text _ _
          ∙ ap (λ how. text ++ (fields_text json (halted_fields before n how) ++ halts_text json (halted_after before how) (n + 1) rest)) c.standing-standing.ensures
          ∙ ap (λ xs. text ++ halts_text json before n (map (λ x. x.live) xs)) (sym here)
          ∙ c.loop-number.invariant.text;
      few = omega (arith, c.halted_after-before.ensures.few, c.loop-number.invariant.few);
    }
