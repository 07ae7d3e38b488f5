-- Pieces of one length, written one after the other into a list.
use Rattle.std.proofs.Common.{◌≡◌, ℕ, ◌+◌, ◌*◌, ◌-◌, ◌<◌, List, [], ◌∷◌, ◌++◌, length, take, drop, get_or, ap, ◌∙◌, arith}
use Rattle.tp_node.proofs.Lower.{flat_map, append-nil, append_assoc, length-append, length-drop, take_at, drop_at, drop-drop, drop_all, take_more, take_all, length-take-le, flat_map-append}
use borrow.Rule.Slice.PartMut.{put_mid}

-- how many bytes pieces of n bytes each make
pub length-pieces : {X : Type 0} (f : X → List ℕ) (n : ℕ) → ((x : X) → length (f x) ≡ n) → (xs : List X) → length (flat_map f xs) ≡ n * length xs
length-pieces f n each [] = omega arith
length-pieces f n each (x ∷ xs) =
    let rest = length-pieces f n each xs in
    let here = each x in
    omega (arith, length-append (f x) (flat_map f xs))

-- a piece of m bytes, written after n bytes that are before what was there
pub piece_behind : (n m k : ℕ) (front piece old now part : List ℕ)
    → length front ≡ n → k ≡ length now - n
    → now ≡ front ++ drop n old
    → part ≡ piece ++ drop m (take k (drop n now))
    → put_mid n k now part ≡ (front ++ piece) ++ drop (n + m) old
piece_behind n m k front piece old now part size to_end is written =
    let before : take n now ≡ front = rw is (take_at front (drop n old) n size) in
    let rest : drop n now ≡ drop n old = rw is (drop_at front (drop n old) n size) in
    let whole : take k (drop n now) ≡ drop n now = take_all k (drop n now) (omega (arith, length-drop n now)) in
    let nothing : drop k (drop n now) ≡ [] = drop_all k (drop n now) (omega (arith, length-drop n now)) in
    rw (before, nothing, written, whole, rest, drop-drop m n old) (simp (append-nil, append_assoc))

-- one of several pieces more
pub pieces_more : {X : Type 0} (f : X → List ℕ) (n i k : ℕ) (xs : List X) (d : X) (old now part : List ℕ)
    → ((x : X) → length (f x) ≡ n) → i < length xs → k ≡ length now - n * i
    → now ≡ flat_map f (take i xs) ++ drop (n * i) old
    → part ≡ f (get_or xs i d) ++ drop n (take k (drop (n * i) now))
    → put_mid (n * i) k now part ≡ flat_map f (take (i + 1) xs) ++ drop (n * (i + 1)) old
pieces_more f n i k xs d old now part each inside to_end is written =
    let size : length (flat_map f (take i xs)) ≡ n * i = length-pieces f n each (take i xs) ∙ ap (λ m. n * m) (length-take-le i xs (omega arith)) in
    let one : flat_map f (take (i + 1) xs) ≡ flat_map f (take i xs) ++ f (get_or xs i d) =
    ap (flat_map f) (take_more xs i d inside) ∙ flat_map-append f (take i xs) (get_or xs i d ∷ []) ∙ ap (λ ys. flat_map f (take i xs) ++ ys) (append-nil (f (get_or xs i d))) in
    let next : n * i + n ≡ n * (i + 1) = omega arith in
    rw (one, ← next) (piece_behind (n * i) n k (flat_map f (take i xs)) (f (get_or xs i d)) old now part size to_end is written)
