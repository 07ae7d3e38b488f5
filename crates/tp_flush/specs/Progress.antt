-- How far the copy of a snapshot has come.
use Rattle.std.specs.Prelude.{ℕ, Bool, true, false, replicate, get_or, set}
use Rattle.tp_model.specs.declared.limits.TheConstants.{MAX_NODES}
use Rattle.tp_flush.specs.declared.progress.Progress.{Progress}

-- nothing was copied
abbrev pub not_begun : Progress
not_begun = record { cleared = false; out = replicate MAX_NODES false }

-- the image of a node is out
abbrev pub is_out : Progress → ℕ → Bool
is_out p node = get_or p.out node false

-- with the image of one more node out
abbrev pub with_out : Progress → ℕ → Progress
with_out p node = record p { out = set p.out node true }
