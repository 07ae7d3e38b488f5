use Rattle.std.proofs.Common.{ℕ, ◌≤◌, ◌<◌, List, length, sym, ap, ◌∙◌, arith, inr}
use Rattle.tp_net.proofs.Lower.{length-map, MAX_NODES, Said, is_known}
use Rattle.tp_net.proofs.Declared.{name_some, pages_none, pages_some, node_unpaged, node_known, node_many, node_said, kept_step}
use Rattle.tp_net.proofs.declarations.Declarations.add_node.Goals as goal

pub returns-in_default : goal.returns-in_default
returns-in_default c =
    let named = name_some c.args.name.now c.name_in.result c.in_default.field-0-0 c.name_in.ensures c.in_default.is-0 in
    inr (node_unpaged c.args.self.now c.args.number c.args.name.now c.args.pages.now named.0 (pages_none c.args.pages.now c.pages_in.result c.pages_in.ensures c.in_default.is-1))

pub returns-then-is_known : goal.returns-then-is_known
returns-then-is_known c =
    let named = name_some c.args.name.now c.name_in.result c.in-Some-Some.name c.name_in.ensures c.in-Some-Some.is-0 in
    let counted = pages_some c.args.pages.now c.pages_in.result c.in-Some-Some.pages c.pages_in.ensures c.in-Some-Some.is-1 in
    inr (node_known c.args.self.now c.args.number c.args.name.now c.args.pages.now named.0 counted.0 (ap (is_known c.args.self.now) (sym named.1) ∙ sym c.is_known.ensures ∙ c.if-is_known.true))

pub returns-then-len-ge-MAX_NODES : goal.returns-then-len-ge-MAX_NODES
returns-then-len-ge-MAX_NODES c =
    let named = name_some c.args.name.now c.name_in.result c.in-Some-Some.name c.name_in.ensures c.in-Some-Some.is-0 in
    let counted = pages_some c.args.pages.now c.pages_in.result c.in-Some-Some.pages c.pages_in.ensures c.in-Some-Some.is-1 in
    let many : MAX_NODES ≤ length c.args.self.now.nodes = omega (arith, c.if-len-ge-MAX_NODES.true, c.len.ensures.len, length-map {B = List ℕ × ℕ} c.self.inside.nodes.entries (λ node. (node.0.now, node.1)), ap (λ (said : Said). length said.nodes) c.self.view_is) in
    inr (node_many c.args.self.now c.args.number c.args.name.now c.args.pages.now named.0 counted.0 (ap (is_known c.args.self.now) (sym named.1) ∙ sym c.is_known.ensures ∙ c.if-is_known.false) many)

pub returns : goal.returns
returns c =
    let named = name_some c.args.name.now c.name_in.result c.in-Some-Some.name c.name_in.ensures c.in-Some-Some.is-0 in
    let counted = pages_some c.args.pages.now c.pages_in.result c.in-Some-Some.pages c.pages_in.ensures c.in-Some-Some.is-1 in
    let few : length c.args.self.now.nodes < MAX_NODES = omega (arith, c.if-len-ge-MAX_NODES.false, c.len.ensures.len, length-map {B = List ℕ × ℕ} c.self.inside.nodes.entries (λ node. (node.0.now, node.1)), ap (λ (said : Said). length said.nodes) c.self.view_is) in
    let said = node_said c.args.self.now c.args.number c.args.name.now c.args.pages.now named.0 counted.0 (ap (is_known c.args.self.now) (sym named.1) ∙ sym c.is_known.ensures ∙ c.if-is_known.false) few in
    kept_step _ _ c.keep_node.new.self c.keep_node.result said (rw (named.1, counted.1) at c.keep_node.ensures.ok) c.keep_node.ensures.err
