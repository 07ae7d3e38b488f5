-- Devices at paths that no file has from which they are made.
use Rattle.std.proofs.Common.{◌≡◌, ◌≤◌, ℕ, List, length, map, take, subst}
use Rattle.std.specs.Prelude.{All}
use Rattle.tp_program.proofs.Lower.{take_all, All-map}
use Rattle.tp_program.specs.Uses.{IsApart, image_of}

-- each image has another path
pub apart_all : {A : Type 0} (bytes : A → List ℕ) (device folder : List ℕ) (names : List A) (i : ℕ) → length names ≤ i
    → All (λ (name : A). device ≡ image_of folder (bytes name) → ⊥) (take i names) → IsApart device (map (image_of folder) (map bytes names))
apart_all {A} bytes device folder names i all apart =
    All-map (λ path. device ≡ path → ⊥) (image_of folder) (map bytes names)
    (All-map (λ name. device ≡ image_of folder name → ⊥) bytes names
    (subst (λ (some : List A). All (λ (name : A). device ≡ image_of folder (bytes name) → ⊥) some) (take_all i names all) apart))
