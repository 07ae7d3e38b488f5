-- The tokens so far are no Markers, and are on the line of the cut.
use Rattle.std.proofs.Common.{◌≡◌, ◌++◌, drop, take, set}
use Rattle.tp_book.proofs.Lower.{before, on_line}
use Rattle.tp_book.proofs.cuts.snap_cut.Cut.collect_before.Given as goal

abbrev pub invariant-loop-at : goal.invariant-loop-at
invariant-loop-at l =
    (l.self ≡ record l.fn.self { lines = set l.fn.self.lines l.line (on_line l.fn.self.lines l.line ++ take l.at (on_line l.lines l.line)) })
    × (before (on_line l.lines l.line) ≡ take l.at (on_line l.lines l.line) ++ before (drop l.at (on_line l.lines l.line)))
