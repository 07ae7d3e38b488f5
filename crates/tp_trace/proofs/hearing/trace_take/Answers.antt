use Rattle.std.proofs.Common.{◌≡◌, ◌∙◌, ℕ, false, List, Option, Some, None, ap, sym, refl, is_some, slice_get}
use Rattle.tp_trace.proofs.Lower.{true≢false, option_map, carries, node_took, on_link, took, NodeState, Token, lacking_frozen, takes_err, takes_ok}
use Rattle.tp_trace.specs.Steps.{leaving}
use Rattle.tp_trace.proofs.hearing.trace_take.Goals as goal

-- what is answered is what leaves
answered : (link : ℕ) (answer : Option Token) → option_map (λ (token : Token). (link, token)) answer ≡ slice_get (on_link link answer) 0
answered link None = refl
answered link (Some token) = refl

-- a token that can't be taken
untaken : (o : Option (NodeState × List (ℕ × Token))) → is_some o ≡ false → option_map (λ (after : NodeState × List (ℕ × Token)). after.0) o ≡ None
untaken None h = refl
untaken (Some after) h = absurd (true≢false h)

pub returns-then-not-can_take-clause-hears : goal.returns-then-not-can_take-clause-hears
returns-then-not-can_take-clause-hears c = (untaken (took c.args.node.now.live c.args.link c.args.token) (sym (c.can_take.ensures c.requires.bytes.image) ∙ c.if-not-can_take.true), refl)

pub take-requires : goal.take-requires
take-requires c = sym (c.can_take.ensures c.requires.bytes.image) ∙ c.if-not-can_take.false

pub returns-clause-hears : goal.returns-clause-hears
returns-clause-hears c =
    let was = c.args.node.now.live in
    let did = takes_ok (took was c.args.link c.args.token) _ c.args.link was c.take.new.self.live c.in-Ok.answer c.in-Ok.ensures.takes in
    let same = c.on_link.ensures ∙ answered c.args.link c.in-Ok.answer ∙ sym (ap leaving did) in (
      ap (option_map (λ (after : NodeState × List (ℕ × Token)). after.0)) did,
      λ i. record { link = c.args.link; token = c.args.token; sent = same i },
    )

pub returns-clause-bytes : goal.returns-clause-bytes
returns-clause-bytes c =
    let was = c.args.node.now.live in
    let did = takes_ok (took was c.args.link c.args.token) _ c.args.link was c.take.new.self.live c.in-Ok.answer c.in-Ok.ensures.takes in
    (node_took was c.args.link c.args.token _ c.requires.bytes (carries c.args.token c.carries_byte.ensures) did).0

-- the node isn't frozen, so no frame is wanting
pub unreachable-requires : goal.unreachable-requires
unreachable-requires c =
    let frozen = lacking_frozen c.args.node.now _ (takes_err _ _ c.args.link c.args.node.now.live c.take.new.self.live c.in-Err.field-0 c.in-Err.ensures.takes) in
    absurd (true≢false (sym frozen ∙ ap is_some c.requires.thawed))
