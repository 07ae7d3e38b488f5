use Rattle.std.proofs.Common.{◌≡◌, false, not, inl, inr, arith, sym, refl, ◌∙◌, None}
use Rattle.std.specs.Prelude.{◌&&◌}
use Rattle.tp_replay.proofs.Lower.{cases_Bool, true≢false, get_or_past, Token, Data, Ack, Marker, NodeState, t414, Network, is_first, on_line, next, Take, is_marker}
use Rattle.tp_replay.specs.Inside.{replay_state}
use Rattle.tp_replay.proofs.Applied.{refused}
use Rattle.tp_replay.proofs.Impossible.{take_unwired, take_behind, take_marker}
use Rattle.tp_replay.proofs.network.FlatNetwork.take.Goals as goal

pub returns-then-at-len-clause-applies : goal.returns-then-at-len-clause-applies
returns-then-at-len-clause-applies c =
    let n = c.self.inside in
    rw (← c.self.view_is) (refused _ _ _ (take_unwired (replay_state n) c.args.line c.args.token (get_or_past n.wires.items c.args.line None (omega (arith, n.wires.ok.0)))))

-- a token that isn't at the front, or is a Marker
not_there : (s : Network NodeState) (line : _) (token : Token) → (is_first (on_line s.lines line) token && not (is_marker token)) ≡ false → next t414 s (Take line token) ≡ None
not_there s line (Data byte) is = elim (cases_Bool (is_first (on_line s.lines line) (Data byte))) [
  | inl stands ↦ absurd (true≢false (sym (rw stands refl) ∙ is))
  | inr none ↦ take_behind s line (Data byte) none
]
not_there s line Ack is = elim (cases_Bool (is_first (on_line s.lines line) Ack)) [
  | inl stands ↦ absurd (true≢false (sym (rw stands refl) ∙ is))
  | inr none ↦ take_behind s line Ack none
]
not_there s line Marker is = take_marker s line

pub returns-then-not-stands_in_front-clause-applies : goal.returns-then-not-stands_in_front-clause-applies
returns-then-not-stands_in_front-clause-applies c =
    let n = c.self.inside in
    let is = sym (c.stands_in_front.ensures (on_line n.lines c.args.line) (sym c.front.ensures)) ∙ c.if-not-stands_in_front.true in
    rw (← c.self.view_is) (refused _ _ _ (not_there (replay_state n) c.args.line c.args.token is))
