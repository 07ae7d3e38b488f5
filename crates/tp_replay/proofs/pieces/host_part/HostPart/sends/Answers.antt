use Rattle.std.proofs.Common.{◌≡◌, ◌*◌, ◌/◌, ℕ, cond, inl, inr, sym, ap, ◌∙◌, arith, nat_le}
use Rattle.tp_replay.proofs.Lower.{cases_lt, lt-ltb, le-ltb, le-leb, lt-leb, div_below, owner}
use Rattle.tp_replay.proofs.AtPorts.{count}
use Rattle.tp_replay.proofs.pieces.host_part.HostPart.sends.Goals as goal

-- the host sends the lines after the nodes'
host_sends : (N line : ℕ) → nat_le (4 * N) line ≡ nat_le N (owner N line)
host_sends N line = elim (cases_lt line (4 * N)) [
  | inl low ↦ (let below = div_below line 4 N (omega arith) (omega (arith, low)) in
      lt-leb (4 * N) line low ∙ sym (ap (nat_le N) (ap (λ b. cond b (line / 4) N) (lt-ltb line (4 * N) low)) ∙ lt-leb N (line / 4) below))
  | inr high ↦ le-leb (4 * N) line high ∙ sym (ap (nat_le N) (ap (λ b. cond b (line / 4) N) (le-ltb line (4 * N) high)) ∙ le-leb N N (omega arith))
]

pub returns : goal.returns
returns c =
    let h = c.self.inside in
    rw (← c.self.view_is) (host_sends h.nodes c.args.line ∙ ap (λ N. nat_le h.nodes (owner N c.args.line)) (sym (count h c.self.invariant)))
