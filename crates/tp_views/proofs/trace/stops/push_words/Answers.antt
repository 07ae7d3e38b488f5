use Rattle.std.proofs.Common.{◌∙◌, ◌+◌, ◌-◌, ◌*◌, ◌++◌, ap, sym, append_assoc, append-nil, codes, length, string_bytes}
use Rattle.std.specs.Prelude.{◌/◌}
use Rattle.tp_trace.specs.Hex.{hex_word}
use Rattle.tp_views.specs.Stops.{words_text}
use Rattle.tp_views.proofs.Workspaces.{words_more}
use Rattle.tp_views.proofs.trace.stops.push_words.Goals as goal

-- a word more
pub loop-index-preserved : goal.loop-index-preserved
loop-index-preserved c =
    let bytes = c.args.bytes.now in
    let n = length bytes / 4 in
    let i = c.loop-index.index in
    let was = string_bytes c.loop-index.text in
    let rest = words_text bytes (n - (i + 1)) (4 * (i + 1)) in
    ap (λ xs. xs ++ rest) c.in_ok-push_parts.ensures ∙ append_assoc was _ rest
    ∙ ap (λ word. was ++ (codes " " ++ (word ++ rest))) (append-nil (hex_word c.word_in.result) ∙ ap hex_word c.word_in.ensures)
    ∙ ap (λ xs. was ++ xs) (sym (words_more bytes n i c.loop-index-test.true))
    ∙ c.loop-index.invariant
