-- Which byte an entry hands to a port, by the bytes of all entries.
use Rattle.std.proofs.Common.{◌≡◌, ◌≢◌, ℕ, zero, suc, ◌+◌, inl, inr, cond, List, [], ◌∷◌, ◌++◌, length, take, drop, Option, Some, refl, sym, ap, subst, ◌∙◌, arith, append-nil, length-append, ne_eqb, eq-eqb}
use Rattle.std.specs.Prelude.{slice_get}
use Rattle.tp_law_processes.proofs.Lower.{take-append-le, take-take, take_all, cases_eq, Entry, HostIn, NodeState, Network, HasFront, handed, HandsIn, outset_in, Opened, input_entries, confirms, byte_in, bytes_in, bytes_in-append, bytes_in-handed, bytes_in-other, bytes_in-same}

-- ## A byte at its position

-- the bytes of an input from a position on, as many as these
abbrev pub AreOf : List ℕ → ℕ → List ℕ → Type 0
AreOf all at bytes = bytes ≡ take (length bytes) (drop at all)

get_after : (xs ys : List ℕ) (y : ℕ) → slice_get (xs ++ y ∷ ys) (length xs) ≡ Some y
get_after [] ys y = refl
get_after (x ∷ xs) ys y = get_after xs ys y

pub get_take : (n k : ℕ) (xs : List ℕ) (y : ℕ) → slice_get (take n xs) k ≡ Some y → slice_get xs k ≡ Some y
get_take zero k xs y at = cc
get_take (suc n) k [] y at = cc
get_take (suc n) zero (x ∷ xs) y at = at
get_take (suc n) (suc k) (x ∷ xs) y at = get_take n k xs y at

get_drop : (n k : ℕ) (xs : List ℕ) (y : ℕ) → slice_get (drop n xs) k ≡ Some y → slice_get xs (n + k) ≡ Some y
get_drop zero k xs y at = ap (slice_get xs) (let same : zero + k ≡ k = omega arith in same) ∙ at
get_drop (suc n) k [] y at = cc
get_drop (suc n) k (x ∷ xs) y at = let same : suc n + k ≡ suc (n + k) = omega arith in ap (slice_get (x ∷ xs)) same ∙ get_drop n k xs y at

parts : (k : ℕ) (es : List Entry) (e : Entry) → slice_get es k ≡ Some e → (rest : List Entry) × (es ≡ take k es ++ e ∷ rest)
parts k [] e at = cc
parts zero (f ∷ es) e at = let same : f ≡ e = cc in (es, ap (λ g. g ∷ es) same)
parts (suc k) (f ∷ es) e at = let P = parts k es e at in (P.0, ap (λ xs. f ∷ xs) P.1)

pub in_itself : (p b : ℕ) → byte_in p (HostIn p b) ≡ b ∷ []
in_itself p b = ap (λ test. cond test (b ∷ []) []) (eq-eqb p p refl)

-- Among all bytes of the entries, that of one comes after those of the entries before it.
pub byte_there : (p k b : ℕ) (es : List Entry) → slice_get es k ≡ Some (HostIn p b) → slice_get (bytes_in p es) (length (bytes_in p (take k es))) ≡ Some b
byte_there p k b es there =
    let P = parts k es (HostIn p b) there in
    let split : bytes_in p es ≡ bytes_in p (take k es) ++ b ∷ bytes_in p P.0 =
    ap (bytes_in p) P.1 ∙ bytes_in-append p (take k es) (HostIn p b ∷ P.0) ∙ ap (λ xs. bytes_in p (take k es) ++ (xs ++ bytes_in p P.0)) (in_itself p b) in
    ap (λ xs. slice_get xs (length (bytes_in p (take k es)))) split ∙ get_after (bytes_in p (take k es)) (bytes_in p P.0) b

-- If all of these are an input's, it is the input's byte at that position.
pub byte_at : (all : List ℕ) (at p k b : ℕ) (es : List Entry) → AreOf all at (bytes_in p es) → slice_get es k ≡ Some (HostIn p b) → slice_get all (at + length (bytes_in p (take k es))) ≡ Some b
byte_at all at p k b es are there =
    let place = length (bytes_in p (take k es)) in
    get_drop at place all b (get_take (length (bytes_in p es)) place (drop at all) b (ap (λ xs. slice_get xs place) (sym are) ∙ byte_there p k b es there))

-- If the entries have no byte for a port, none of them hands it one.
pub none_handed : (p k b : ℕ) (es : List Entry) → bytes_in p es ≡ [] → slice_get es k ≡ Some (HostIn p b) → ⊥
none_handed p k b es none there = let at = ap (λ xs. slice_get xs (length (bytes_in p (take k es)))) (sym none) ∙ byte_there p k b es there in cc

-- ## What the host hands in

-- a front of what comes from a position on comes from there, too
front_of : (all front rest : List ℕ) (at : ℕ) → AreOf all at (front ++ rest) → AreOf all at front
front_of all front rest at are =
    let long = length-append front rest in
    sym (take_all (length front) front (omega arith))
    ∙ sym (take-append-le (length front) front rest (omega arith))
    ∙ ap (take (length front)) are
    ∙ take-take (length front) (length (front ++ rest)) (drop at all) (omega (arith, long))

front_handed : (all : List ℕ) (at p : ℕ) (entries part : List Entry) → AreOf all at (bytes_in p entries) → HasFront entries (handed part) → AreOf all at (bytes_in p part)
front_handed all at p entries part are F =
    let split : bytes_in p entries ≡ bytes_in p part ++ bytes_in p F.0 =
    ap (bytes_in p) F.1 ∙ bytes_in-append p (handed part) F.0 ∙ ap (λ xs. xs ++ bytes_in p F.0) (bytes_in-handed p part) in
    front_of all (bytes_in p part) (bytes_in p F.0) at (subst (AreOf all at) split are)

-- ## What a run hands in

take_few : (n : ℕ) (xs : List ℕ) → take n xs ≡ take (length (take n xs)) xs
take_few zero xs = refl
take_few (suc n) [] = refl
take_few (suc n) (x ∷ xs) = ap (λ ys. x ∷ ys) (take_few n xs)

confirms_bytes : (q port from : ℕ) (printed : List ℕ) → bytes_in q (confirms port from printed) ≡ []
confirms_bytes q port from [] = refl
confirms_bytes q port from (x ∷ xs) = refl

module _ (start : Network NodeState) (journal : List Entry) (o : Opened) (port : ℕ) (input : List ℕ) (was now : Option (List ℕ)) (entries : List Entry)
    (hands : HandsIn start journal (outset_in o port) input was now entries) where
  -- no bytes, or those of the input alone
  only_input : (P : List ℕ → Type 0) (q : ℕ) → P [] → P (bytes_in q (input_entries (outset_in o port) input)) → P (bytes_in q entries)
  only_input P q none some = elim hands [
    | inl nothing ↦ subst (λ es. P (bytes_in q es)) (sym nothing) none
    | inr (inl is) ↦ subst (λ es. P (bytes_in q es)) (sym is) some
    | inr (inr C) ↦
        let first = input_entries (outset_in o port) input in
        let last = confirms port (outset_in o port).confirmed C.printed in
        let both : bytes_in q entries ≡ bytes_in q first =
        ap (bytes_in q) C.handed
        ∙ bytes_in-append q first last
        ∙ ap (λ xs. bytes_in q first ++ xs) (confirms_bytes q port (outset_in o port).confirmed C.printed)
        ∙ append-nil (bytes_in q first) in
        subst P (sym both) some
  ]

  run_bytes : AreOf input (outset_in o port).accepted (bytes_in port entries)
  run_bytes =
      let rest = take (outset_in o port).room (drop (outset_in o port).accepted input) in
      only_input (AreOf input (outset_in o port).accepted) port refl
      (subst (AreOf input (outset_in o port).accepted) (sym (bytes_in-same port rest)) (take_few (outset_in o port).room (drop (outset_in o port).accepted input)))

  no_bytes : (q : ℕ) → port ≢ q → bytes_in q entries ≡ []
  no_bytes q apart = only_input (λ xs. xs ≡ []) q refl (bytes_in-other q port (take (outset_in o port).room (drop (outset_in o port).accepted input)) (ne_eqb port q apart))

  -- So each byte that a part of the journal hands in is the input's at its position, from the accepted bytes on.
  pub run_hands : (part : List Entry) → HasFront entries (handed part) → (k q byte : ℕ) → slice_get part k ≡ Some (HostIn q byte)
      → (q ≡ port) × (slice_get input ((outset_in o q).accepted + length (bytes_in q (take k part))) ≡ Some byte)
  run_hands part front k q byte there = elim (cases_eq port q) [
    | inl same ↦
        let own : slice_get part k ≡ Some (HostIn port byte) = there ∙ ap (λ r. Some (HostIn r byte)) (sym same) in
        let all = front_handed input (outset_in o port).accepted port entries part run_bytes front in
        let at = byte_at input (outset_in o port).accepted port k byte part all own in
        (sym same, ap (λ r. slice_get input ((outset_in o r).accepted + length (bytes_in r (take k part)))) (sym same) ∙ at)
    | inr apart ↦
        let none = front_handed [] 0 q entries part (subst (AreOf [] 0) (sym (no_bytes q apart)) refl) front in
        let at = byte_at [] 0 q k byte part none there in cc
  ]
