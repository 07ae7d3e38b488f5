use Rattle.std.proofs.Common.{◌≡◌, map, take}
use Rattle.tp_replay.proofs.parts.all_tokens.Given as goal

abbrev pub invariant-loop-line : goal.invariant-loop-line
invariant-loop-line l = map (λ line. line.items) l.tokens.items ≡ take l.line l.lines
