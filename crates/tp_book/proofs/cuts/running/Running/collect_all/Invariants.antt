-- What is left to be collected has room, and leads to the final lines of the cut.
use Rattle.std.proofs.Common.{◌≡◌, not, length, drop}
use Rattle.tp_book.proofs.Lower.{sent, is_closed}
use Rattle.tp_book.specs.Room.{HasRoom}
use Rattle.tp_book.proofs.cuts.running.Running.collect_all.Given as goal

abbrev pub invariant-loop-m : goal.invariant-loop-m
invariant-loop-m l =
    (l.self ≡ record l.fn.self { lines = l.self.lines })
    × (length l.self.lines ≡ length l.fn.self.lines)
    × HasRoom (λ line. not (is_closed l.fn.self line)) l.self.lines (drop l.m-index l.tokens)
    × (sent (λ line. not (is_closed l.fn.self line)) l.self.lines (drop l.m-index l.tokens) ≡ sent (λ line. not (is_closed l.fn.self line)) l.fn.self.lines l.tokens)
