-- Texts that were typed, one by one.
use Rattle.std.proofs.Common.{◌≡◌, ◌≢◌, ◌<◌, ◌+◌, ◌⊎◌, ℕ, zero, suc, List, [], ◌∷◌, ◌++◌, Any, length, map, take, get_or, arith, refl, ap, sym, subst, ◌∙◌, inl, inr, Bool, true, false, Option, Some, None, IfSome, drop, Bor, nat_lt, ◌^◌}
use Rattle.std.specs.Prelude.{if◌then◌else◌}
use Rattle.tp_words.proofs.Lower.{get_or-map, length-map, decimal_digit, decimal_injective, IsSplitOnceResult, split_after, decimal, MatchOption, Decides-ltb, MAX_PORTS, map_last, map_more}
use Rattle.tp_words.specs.Ends.{IsNoPort}
use Rattle.tp_words.specs.declared.stream_ends.EndsFault.{EndsFault}
use Rattle.tp_words.specs.declared.stream_ends.EndsFault.TheVariants.{Memory}

-- one of the texts isn't such as the option takes
pub some_refused : {T : Type 0} (own : EndsFault) (IsNone : List ℕ → Type 0) (f : T → List ℕ) (texts : List T) (i : ℕ) (d : T) (fault : EndsFault) → i < length texts
    → (fault ≡ Memory) ⊎ ((fault ≡ own) × IsNone (f (get_or texts i d))) → (fault ≡ Memory) ⊎ ((fault ≡ own) × Any IsNone (map f texts))
some_refused own IsNone f texts i d fault low (inl memory) = inl memory
some_refused own IsNone f texts i d fault low (inr unfit) =
    let long = length-map texts f in
    inr (unfit.0, (i, f (get_or texts i d), omega (arith, long, low), get_or-map f texts i d (f (get_or texts i d)) low, unfit.1))

-- a value is there for each text so far
pub one_more : {X Y : Type 0} (spelt : X → List ℕ) (f : Y → List ℕ) (was now : List X) (x : X) (texts : List Y) (i : ℕ) (text : Y) → i < length texts
    → map spelt was ≡ map f (take i texts) → now ≡ was ++ x ∷ [] → spelt x ≡ f (get_or texts i text) → map spelt now ≡ map f (take (i + 1) texts)
one_more spelt f was now x texts i text low front grew is =
    map_more f texts i text (map spelt was) (map spelt now) (spelt x) low front is (map_last spelt was now x grew)

-- what holds of a value that is there
pub if_some : {T : Type 0} (P : T → Type 0) (o : Option T) (x : T) → IfSome o P → o ≡ Some x → P x
if_some P None x holds is = absurd (cc)
if_some P (Some y) x holds is = let same : y ≡ x = cc in subst P same holds

pub there : {T : Type 0} (P : T → Type 0) (o : Option T) → MatchOption o ⊥ P → o ≡ None → ⊥
there P None holds is = holds
there P (Some y) holds is = absurd (cc)

pub there_at : {T : Type 0} (P : T → Type 0) (o : Option T) (x : T) → MatchOption o ⊥ P → o ≡ Some x → P x
there_at P None x holds is = absurd (holds)
there_at P (Some y) x holds is = let same : y ≡ x = cc in subst P same holds

by_test : (text : List ℕ) (number : ℕ) (found : Option ℕ) (p : Bool) → (p ≡ true → number < MAX_PORTS) → (number < MAX_PORTS → p ≡ true) → text ≡ decimal number
    → number < 2 ^ 64 → found ≡ (if p then Some number else None) → IfSome found (λ port. (port < MAX_PORTS) × (text ≡ decimal port)) × (found ≡ None → IsNoPort text)
by_test text number found true low below spelt small is =
    (subst (λ (o : Option ℕ). IfSome o (λ port. (port < MAX_PORTS) × (text ≡ decimal port))) (sym is) (low refl, spelt), λ none. absurd (cc))
by_test text number found false low below spelt small is = (
  subst (λ (o : Option ℕ). IfSome o (λ port. (port < MAX_PORTS) × (text ≡ decimal port))) (sym is) tt,
  λ none port fits same.
      let one = decimal_injective number port small (omega (arith, fits)) (sym spelt ∙ same) in
      let bad = below (omega (arith, one, fits)) in
      absurd (cc),
)

-- the port of a number that is spelt so, if a device may have one
pub port_spelt : (text : List ℕ) (number : ℕ) (found : Option ℕ) → text ≡ decimal number → number < 2 ^ 64
    → found ≡ (if nat_lt number MAX_PORTS then Some number else None) → IfSome found (λ port. (port < MAX_PORTS) × (text ≡ decimal port)) × (found ≡ None → IsNoPort text)
port_spelt text number found spelt small is =
    by_test text number found (nat_lt number MAX_PORTS) ((Decides-ltb number MAX_PORTS).0) ((Decides-ltb number MAX_PORTS).1) spelt small is

one_digit : (port : ℕ) → port < MAX_PORTS → (i : ℕ) → i < 1 → get_or ((48 + port) ∷ []) i 0 ≢ 61
one_digit port low zero first = λ same. absurd (omega (arith, low, same))
one_digit port low (suc i) first = absurd (omega (arith, first))

no_sign : (port : ℕ) → port < MAX_PORTS → (i : ℕ) → i < length (decimal port) → get_or (decimal port) i 0 ≢ 61
no_sign port low =
    let digit = decimal_digit port (omega (arith, low)) in
    subst (λ (ds : List ℕ). (i : ℕ) → i < length ds → get_or ds i 0 ≢ 61) (sym digit) (one_digit port low)

-- a port with a path after it is split at the equals sign
pub splits_there : (text path : List ℕ) (port : ℕ) (r : Option (Bor (List ℕ) × Bor (List ℕ))) → IsSplitOnceResult 61 text r → port < MAX_PORTS
    → text ≡ decimal port ++ 61 ∷ path → MatchOption r ⊥ (λ x. (x.0.now ≡ decimal port) × (x.1.now ≡ path))
splits_there text path port r is low spelt = split_after 61 text (decimal port) path r is (omega arith) spelt (no_sign port low)

rest_of : (port : ℕ) (rest : List ℕ) → port < MAX_PORTS → drop 2 (decimal port ++ 61 ∷ rest) ≡ rest
rest_of port rest low = ap (λ (ds : List ℕ). drop 2 (ds ++ 61 ∷ rest)) (decimal_digit port (omega (arith, low)))

-- what is after the equals sign is one text
pub rests : (text rest other : List ℕ) (p q : ℕ) → p < MAX_PORTS → q < MAX_PORTS → text ≡ decimal p ++ 61 ∷ rest → text ≡ decimal q ++ 61 ∷ other → rest ≡ other
rests text rest other p q low below first second =
    sym (rest_of p rest low) ∙ ap (λ (t : List ℕ). drop 2 t) (sym first ∙ second) ∙ rest_of q other below
