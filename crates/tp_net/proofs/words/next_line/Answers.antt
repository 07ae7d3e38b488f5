use Rattle.std.proofs.Common.{◌<◌, ◌+◌, ◌-◌, length, drop, sym, ◌∙◌, arith, length-take, length-drop}
use Rattle.std.proofs.lemmas.Bool.{eqb-false}
use Rattle.tp_net.proofs.Cuts.{lines-none, lines-some}
use Rattle.tp_net.proofs.words.next_line.Goals as goal

pub returns-in-Some : goal.returns-in-Some
returns-in-Some c = (
  lines-some c.args.text.now c.in-Some.at c.without_return.result.now (sym c.place_of.ensures.value ∙ c.in-Some.is) c.without_return.ensures,
  omega (arith, c.in-Some.ensures.bound, length-take (length c.args.text.now - (c.in-Some.at + 1)) (drop (c.in-Some.at + 1) c.args.text.now), length-drop (c.in-Some.at + 1) c.args.text.now),
)

pub returns-in-None : goal.returns-in-None
returns-in-None c =
    let full : 0 < length c.args.text.now = omega (arith, eqb-false (length c.args.text.now) 0 (sym c.is_empty.ensures ∙ c.if-is_empty.false)) in (
      lines-none c.args.text.now full (sym c.place_of.ensures.value ∙ c.in-None.is),
      omega (arith, length-take (length c.args.text.now - length c.args.text.now) (drop (length c.args.text.now) c.args.text.now), length-drop (length c.args.text.now) c.args.text.now),
    )
