use Rattle.std.proofs.Common.{◌≡◌, ◌+◌, ◌++◌, ◌∷◌, true, Some, None}
use Rattle.std.specs.Prelude.{replicate}
use Rattle.tp_program.proofs.trying.lock_file.Given as goal

-- Another process had the lock each time so far, and what was waited is noted.
abbrev pub invariant-loop : goal.invariant-loop
invariant-loop g l = record {
  answers : g.T.Tries.answers l.tries ≡ g.T.Tries.answers l.fn.tries ++ replicate (l.counter + 1) true;
  pauses : g.T.Tries.pauses l.tries ≡ g.T.Tries.pauses l.fn.tries ++ None ∷ replicate l.counter (Some 50);
  waited : l.waited.told ≡ None ∷ replicate l.counter (Some 50);
}
