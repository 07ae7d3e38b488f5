-- Lists of bytes, and their numbers: a number tells how many bytes there are, and which.
use Rattle.std.proofs.Common.{◌≡◌, ℕ, zero, suc, ◌+◌, ◌*◌, ◌^◌, ◌<◌, ◌≤◌, List, [], ◌∷◌, ◌++◌, length, get_or, take, drop, refl, sym, ap, ◌∙◌, mul_assoc, mul_comm, arith, inl, inr}
use Rattle.tp_law_machine.proofs.Lower.{cases_order, pow-suc, pow-le-pow_right, AllByRecursion, numeral, number, mul-le-mul}
use Rattle.tp_law_machine.proofs.Partial.{all_append}

abbrev pub AreBytes : List ℕ → Type 0
AreBytes bytes = AllByRecursion (λ byte. byte < 256) bytes

-- by place
pub are_bytes : (bytes : List ℕ) → ((i : ℕ) → get_or bytes i 0 < 256) → AreBytes bytes
are_bytes [] h = tt
are_bytes (byte ∷ bytes) h = (h 0, are_bytes bytes (λ i. h (suc i)))

pub byte_below : (bytes : List ℕ) → AreBytes bytes → (i : ℕ) → get_or bytes i 0 < 256
byte_below [] h i = omega arith
byte_below (byte ∷ bytes) h zero = h.0
byte_below (byte ∷ bytes) h (suc i) = byte_below bytes h.1 i

pub are_bytes-drop : (k : ℕ) (bytes : List ℕ) → AreBytes bytes → AreBytes (drop k bytes)
are_bytes-drop zero bytes h = h
are_bytes-drop (suc k) [] h = tt
are_bytes-drop (suc k) (byte ∷ bytes) h = are_bytes-drop k bytes h.1

pub are_bytes-take : (k : ℕ) (bytes : List ℕ) → AreBytes bytes → AreBytes (take k bytes)
are_bytes-take zero bytes h = tt
are_bytes-take (suc k) [] h = tt
are_bytes-take (suc k) (byte ∷ bytes) h = (h.0, are_bytes-take k bytes h.1)

pub are_bytes-append : (front rest : List ℕ) → AreBytes front → AreBytes rest → AreBytes (front ++ rest)
are_bytes-append front rest h k = all_append (λ byte. byte < 256) front rest h k

-- one digit more
more_power : (a k : ℕ) → a * 256 ^ suc k ≡ 256 * (a * 256 ^ k)
more_power a k = ap (λ p. a * p) (pow-suc 256 k) ∙ sym (mul_assoc a (256 ^ k) 256) ∙ mul_comm (a * 256 ^ k) 256

-- between which powers a numeral is
numeral_least : (front : ℕ) (bytes : List ℕ) → front * 256 ^ length bytes ≤ numeral front bytes
unfolding numeral
numeral_least front [] = omega arith
numeral_least front (byte ∷ bytes) = omega (arith, more_power front (length bytes), numeral_least front bytes)

numeral_below : (front : ℕ) (bytes : List ℕ) → AreBytes bytes → numeral front bytes < (front + 1) * 256 ^ length bytes
unfolding numeral
numeral_below front [] h = omega arith
numeral_below front (byte ∷ bytes) h =
    let rest : numeral front bytes < (front + 1) * 256 ^ length bytes = numeral_below front bytes h.1 in
    let b : byte < 256 = h.0 in
    let e : (front + 1) * 256 ^ suc (length bytes) ≡ 256 * ((front + 1) * 256 ^ length bytes) = more_power (front + 1) (length bytes) in
    last byte (numeral front bytes) _ _ b rest e
  where
    last : (byte n p q : ℕ) → byte < 256 → n < p → q ≡ 256 * p → byte + 256 * n < q
    last byte n p q b h e = omega arith

-- numerals of as many bytes
numeral_same : (front : ℕ) (xs ys : List ℕ) → length xs ≡ length ys → AreBytes xs → AreBytes ys → numeral front xs ≡ numeral front ys → xs ≡ ys
unfolding numeral
numeral_same front [] [] l hx hy e = refl
numeral_same front [] (y ∷ ys) l hx hy e = absurd (omega arith)
numeral_same front (x ∷ xs) [] l hx hy e = absurd (omega arith)
numeral_same front (x ∷ xs) (y ∷ ys) l hx hy e =
    let a : x < 256 = hx.0 in
    let b : y < 256 = hy.0 in
    let head : x ≡ y = omega arith in
    let rest : numeral front xs ≡ numeral front ys = omega arith in
    let tail : xs ≡ ys = numeral_same front xs ys (omega arith) hx.1 hy.1 rest in
    cc

-- fewer bytes have a smaller number
fewer : (xs ys : List ℕ) → AreBytes xs → length xs < length ys → number xs < number ys
fewer xs ys hx less =
    let powers : 256 ^ length xs ≤ 256 ^ length ys = pow-le-pow_right (omega arith) (omega arith) in
    let products : (length xs + 1) * 256 ^ length xs ≤ length ys * 256 ^ length ys = mul-le-mul (omega arith) powers in
    let below = numeral_below (length xs) xs hx in
    let least = numeral_least (length ys) ys in
    omega arith

-- Lists of bytes with one number are equal.
pub same_number : (xs ys : List ℕ) → AreBytes xs → AreBytes ys → number xs ≡ number ys → xs ≡ ys
same_number xs ys hx hy e = elim (cases_order (length xs) (length ys)) [
  | inl same ↦ numeral_same (length xs) xs ys same hx hy (e ∙ ap (λ l. numeral l ys) (sym same))
  | inr (inl less) ↦ let small = fewer xs ys hx less in absurd (omega arith)
  | inr (inr more) ↦ let small = fewer ys xs hy more in absurd (omega arith)
]
