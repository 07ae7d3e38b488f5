-- A running snapshot as its fields.
use Rattle.std.specs.Prelude.{◌≡◌, ℕ, Bool, if◌then◌else◌, List, [], ◌∷◌, length, Option, Some, None}
use Rattle.tp_model.specs.Snapshot.{Snapshot}
use Rattle.tp_book.specs.declared.cuts.running.Running.TheInside.{Inside}

-- what is known of each process: its count, if it has recorded
abbrev pub counts_of : List Bool → List ℕ → List (Option ℕ)
counts_of [] counts = []
counts_of (recorded ∷ more) [] = []
counts_of (recorded ∷ more) (count ∷ counts) = (if recorded then Some count else None) ∷ counts_of more counts

abbrev pub snapshot_of : Inside → Snapshot
snapshot_of r = record {
  counts = counts_of r.recorded.items r.cut.counts;
  ports = r.cut.ports;
  lines = r.cut.lines;
  closed = r.closed.items;
  size = r.cut.size;
}

-- there is a count for each process
abbrev pub IsRunning : Inside → Type 0
IsRunning r = length r.recorded.items ≡ length r.cut.counts
