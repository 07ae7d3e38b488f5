use Rattle.std.proofs.Common.{sym, ◌∙◌}
use Rattle.tp_net.proofs.Declared.{name_some, end_bare, end_linked}
use Rattle.tp_net.proofs.words.end_in.Goals as goal

pub returns-in_default : goal.returns-in_default
returns-in_default c =
    let named = name_some c.cut_at_dot.result.0.now c.name_in.result c.in_ok-name.name c.name_in.ensures c.in_ok-name.was in
    end_bare c.cut_at_dot.result.0.now c.in_ok-name.name.now c.cut_at_dot.result.1 named.0 named.1 c.in_default.is ∙ sym c.cut_at_dot.ensures

pub returns : goal.returns
returns c =
    let named = name_some c.cut_at_dot.result.0.now c.name_in.result c.in_ok-name.name c.name_in.ensures c.in_ok-name.was in
    end_linked c.cut_at_dot.result.0.now c.in_ok-name.name.now c.cut_at_dot.result.1 c.in-Some.digits c.in_ok-link.link named.0 named.1 c.in-Some.is (sym c.link_in.ensures ∙ c.in_ok-link.was) ∙ sym c.cut_at_dot.ensures
