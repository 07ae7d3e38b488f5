-- The bytes that entries hand to a port.
use Rattle.std.proofs.Common.{◌≡◌, ℕ, Bool, true, false, cond, List, [], ◌∷◌, ◌++◌, map, length, refl, ap, ◌∙◌, arith, length-append, eq-eqb}
use Rattle.std.specs.Prelude.{◌==◌, count_by}
use Rattle.tp_shared.proofs.Lower.{flat_map-append, sum_by-cons, is_input, Entry, Run, Take, HostIn, Confirm, Turn}
use Rattle.tp_shared.specs.BytesIn.{byte_in, bytes_in}
use Rattle.tp_shared.specs.HandedIn.{handed}

pub bytes_in-append : (p : ℕ) (xs ys : List Entry) → bytes_in p (xs ++ ys) ≡ bytes_in p xs ++ bytes_in p ys
bytes_in-append p xs ys = flat_map-append (byte_in p) xs ys

-- of what the host hands in
pub bytes_in-handed : (p : ℕ) (es : List Entry) → bytes_in p (handed es) ≡ bytes_in p es
bytes_in-handed p [] = refl
bytes_in-handed p (Run i k ∷ es) = bytes_in-handed p es
bytes_in-handed p (Take line token ∷ es) = bytes_in-handed p es
bytes_in-handed p (HostIn q x ∷ es) = ap (λ bs. byte_in p (HostIn q x) ++ bs) (bytes_in-handed p es)
bytes_in-handed p (Confirm q upto ∷ es) = bytes_in-handed p es
bytes_in-handed p (Turn i links k ∷ es) = bytes_in-handed p es

-- ## Bytes for one port

pub bytes_in-same : (p : ℕ) (bytes : List ℕ) → bytes_in p (map (HostIn p) bytes) ≡ bytes
bytes_in-same p [] = refl
bytes_in-same p (x ∷ xs) = ap (λ test. cond test (x ∷ []) [] ++ bytes_in p (map (HostIn p) xs)) (eq-eqb p p refl) ∙ ap (λ bs. x ∷ bs) (bytes_in-same p xs)

pub bytes_in-other : (q p : ℕ) (bytes : List ℕ) → (p == q) ≡ false → bytes_in q (map (HostIn p) bytes) ≡ []
bytes_in-other q p [] other = refl
bytes_in-other q p (x ∷ xs) other = ap (λ test. cond test (x ∷ []) [] ++ bytes_in q (map (HostIn p) xs)) other ∙ bytes_in-other q p xs other

-- ## How many

one_if : (x : ℕ) (test : Bool) → cond test 1 0 ≡ length (cond test (x ∷ []) [])
one_if x true = refl
one_if x false = refl

one_counted : (p : ℕ) (e : Entry) → cond (is_input p e) 1 0 ≡ length (byte_in p e)
one_counted p (Run i k) = refl
one_counted p (Take line token) = refl
one_counted p (HostIn q x) = one_if x (q == p)
one_counted p (Confirm q upto) = refl
one_counted p (Turn i links k) = refl

pub bytes_counted : (p : ℕ) (es : List Entry) → count_by (is_input p) es ≡ length (bytes_in p es)
bytes_counted p [] = refl
bytes_counted p (e ∷ es) =
    let first = one_counted p e in
    let rest = bytes_counted p es in
    let both = sum_by-cons (λ x. cond (is_input p x) 1 0) e es in
    omega (arith, first, rest, both, length-append (byte_in p e) (bytes_in p es))
