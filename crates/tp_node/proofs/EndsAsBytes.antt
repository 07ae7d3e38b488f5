-- Ends of links as bytes.
use Rattle.std.proofs.Common.{◌≡◌, ℕ, ◌+◌, List, [], ◌∷◌, drop, add_assoc}
use Rattle.tp_node.proofs.Lower.{drop-drop, ends_at}

-- four ends are 16 bytes apart
pub four_ends_apart : {End : Type 0} (end_at : List ℕ → End) (at : ℕ) (bytes : List ℕ)
    → ends_at end_at 4 (drop at bytes) ≡ end_at (drop at bytes) ∷ end_at (drop (at + 16) bytes) ∷ end_at (drop (at + 32) bytes) ∷ end_at (drop (at + 48) bytes) ∷ []
unfolding ends_at
four_ends_apart end_at at bytes = rw (drop-drop 16 at bytes, drop-drop 16 (at + 16) bytes, drop-drop 16 (at + 16 + 16) bytes) (simp add_assoc)
