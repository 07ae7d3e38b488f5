-- Writes leave the frozen bytes as they are.
use Rattle.std.proofs.Common.{◌≡◌, ℕ, List, [], ◌∷◌, refl}
use Rattle.tp_model.specs.SharedPages.{Kept, kept_behind}

pub frozen-kept_behind : (kept : Kept) (ranges : List (ℕ × ℕ)) → (kept_behind kept ranges).frozen ≡ kept.frozen
frozen-kept_behind kept [] = refl
frozen-kept_behind kept (range ∷ ranges) = refl
