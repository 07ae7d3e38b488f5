-- Bytes that are compared with a list written piece by piece.
use Rattle.std.proofs.Common.{◌≡◌, ℕ, ◌+◌, List, [], ◌∷◌, ◌++◌, length, take, drop, refl, sym, ap, ◌∙◌, arith, Bool, true, false}
use Rattle.std.specs.Prelude.{◌&&◌, nat_eq, bytes_eq}
use Rattle.tp_area.proofs.Lower.{list_all, eq-eqb, take-append-drop, drop-drop, zeros}

pub and_assoc : (a b c : Bool) → ((a && b) && c) ≡ (a && (b && c))
and_assoc true b c = refl
and_assoc false b c = refl

bytes_eq-append : (a b c d : List ℕ) → length a ≡ length c → bytes_eq (a ++ b) (c ++ d) ≡ (bytes_eq a c && bytes_eq b d)
bytes_eq-append [] b [] d len = refl
bytes_eq-append [] b (y ∷ c) d len = absurd (omega (arith, len))
bytes_eq-append (x ∷ a) b [] d len = absurd (omega (arith, len))
bytes_eq-append (x ∷ a) b (y ∷ c) d len =
    ap (λ t. nat_eq x y && t) (bytes_eq-append a b c d (omega (arith, len))) ∙ sym (and_assoc (nat_eq x y) (bytes_eq a c) (bytes_eq b d))

bytes_eq-front : (a b d : List ℕ) → bytes_eq (a ++ b) (a ++ d) ≡ bytes_eq b d
bytes_eq-front [] b d = refl
bytes_eq-front (x ∷ a) b d = ap (λ t. t && bytes_eq (a ++ b) (a ++ d)) (eq-eqb x x refl) ∙ bytes_eq-front a b d

-- after a piece that is known to be equal, the rest alone is compared
pub piece_same : (n start place : ℕ) (bytes front rest : List ℕ) → place ≡ start + n → take n (drop start bytes) ≡ front
    → bytes_eq (drop start bytes) (front ++ rest) ≡ bytes_eq (drop place bytes) rest
piece_same n start place bytes front rest at same =
    ap (λ xs. bytes_eq xs (front ++ rest)) (sym (take-append-drop n (drop start bytes)) ∙ ap (λ xs. xs ++ drop n (drop start bytes)) same)
    ∙ bytes_eq-front front (drop n (drop start bytes)) rest
    ∙ ap (λ xs. bytes_eq xs rest) (drop-drop n start bytes ∙ ap (λ k. drop k bytes) (sym at))

pub piece_compared : (n start place : ℕ) (bytes front rest : List ℕ) → place ≡ start + n → length (take n (drop start bytes)) ≡ length front
    → bytes_eq (drop start bytes) (front ++ rest) ≡ (bytes_eq (take n (drop start bytes)) front && bytes_eq (drop place bytes) rest)
piece_compared n start place bytes front rest at len =
    ap (λ xs. bytes_eq xs (front ++ rest)) (sym (take-append-drop n (drop start bytes)))
    ∙ bytes_eq-append (take n (drop start bytes)) (drop n (drop start bytes)) front rest len
    ∙ ap (λ xs. bytes_eq (take n (drop start bytes)) front && bytes_eq xs rest) (drop-drop n start bytes ∙ ap (λ k. drop k bytes) (sym at))

-- bytes that are all 00
pub all_zeros : (bytes : List ℕ) → list_all (λ byte. nat_eq byte 0) bytes ≡ bytes_eq bytes (zeros (length bytes))
all_zeros [] = refl
all_zeros (byte ∷ bytes) = ap (λ t. nat_eq byte 0 && t) (all_zeros bytes)
