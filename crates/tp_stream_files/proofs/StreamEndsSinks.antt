-- Bytes that are put and made safe.
use Rattle.std.proofs.Common.{◌≡◌, ℕ, ◌+◌, ◌≤◌, List, [], ◌∷◌, length, take, Option, Some, None, refl, sym, ap, ◌∙◌, arith, append-nil}
use Rattle.tp_stream_files.specs.Held.{HeldBytes, HasAtMost, HasLength, HasPut, KeepsFront, Reaches}

pub reaches_less : (n m : ℕ) (h : Option HeldBytes) → n ≤ m → Reaches m h → Reaches n h
reaches_less n m None low r = tt
reaches_less n m (Some h) low r = let safe = r.0 in let there = r.1 in (omega (arith, low, safe), omega (arith, low, there))

pub front_stays : (n : ℕ) (a : Option HeldBytes) → Reaches n a → KeepsFront n a a
front_stays n None r = tt
front_stays n (Some a) r = (refl, r.0, r.1)

-- ## No bytes

pub none_put : (n : ℕ) (bytes : List ℕ) (h : Option HeldBytes) → length bytes ≡ 0 → HasPut n bytes h h
none_put n bytes None none = tt
none_put n [] (Some h) none = let same : n + 0 ≡ n = omega arith in ap (λ m. take m h.bytes) same ∙ sym (append-nil (take n h.bytes))
none_put n (x ∷ xs) (Some h) none = absurd (omega (arith, none))

pub none_reaches : (n : ℕ) (bytes : List ℕ) (h : Option HeldBytes) → length bytes ≡ 0 → Reaches n h → Reaches (n + length bytes) h
none_reaches n bytes None none r = tt
none_reaches n bytes (Some h) none r = let safe = r.0 in let there = r.1 in (omega (arith, none, safe), omega (arith, none, there))

-- ## A sink's length

pub has_at_most : (n most : ℕ) (h : Option HeldBytes) → HasLength (Some n) h → n ≤ most → HasAtMost most h
has_at_most n most None has low = tt
has_at_most n most (Some h) has low = let same : n ≡ length h.bytes = cc in omega (arith, same, low)

pub has_no_length : (most : ℕ) (h : Option HeldBytes) → HasLength None h → HasAtMost most h
has_no_length most None has = tt
has_no_length most (Some h) has = absurd (cc)
