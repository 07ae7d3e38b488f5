-- From which inputs bytes come.
use Rattle.std.proofs.Common.{◌≡◌, ℕ, zero, suc, ◌+◌, ◌-◌, ◌<◌, ◌≤◌, inl, inr, List, [], ◌∷◌, ◌++◌, length, map, set, get_or, take, drop, refl, sym, ap, subst, ◌∙◌, arith, Option, Some, None, Bool, true, false, append-nil, Result, Ok, Err, slice_get}
use Rattle.std.specs.Prelude.{OnErr, if◌then◌else◌, nat_le}
use Rattle.tp_stream.proofs.Lower.{cases_eq, cases_lt, ne_eqb, map-set, set-get_or, take-append-drop, slice_get-get_or, slice_get-map, option_map, take-append_seam, Entry, Confirm, HostIn, confirm_entries, BookValue, port_in, HasFront, HaveAccepted, bytes_in, handed, Stage, bytes_in-append, bytes_in-handed, bytes_in-other, bytes_in-same, AreFrom, GivenInput, given_input}
use Rattle.tp_stream.specs.declared.fault.StreamFault.{StreamFault}
use Rattle.tp_stream.specs.HandedFrom.{AreHandedFrom, CameFrom, FedFrom, FeedsFrom, HandsNoBytes, HasByte}
use Rattle.tp_stream.specs.Offered.{Offered}

get_front : {A : Type 0} (xs ys : List A) (n : ℕ) (x : A) → slice_get xs n ≡ Some x → slice_get (xs ++ ys) n ≡ Some x
get_front [] ys n x e = cc
get_front (z ∷ xs) ys zero x e = e
get_front (z ∷ xs) ys (suc n) x e = get_front xs ys n x e

get_low : {A : Type 0} (xs ys : List A) (n : ℕ) (x : A) → n < length xs → slice_get (xs ++ ys) n ≡ Some x → slice_get xs n ≡ Some x
get_low [] ys n x low e = absurd (omega (arith, low))
get_low (z ∷ xs) ys zero x low e = e
get_low (z ∷ xs) ys (suc n) x low e = get_low xs ys n x (omega (arith, low)) e

get_back : {A : Type 0} (xs ys : List A) (n : ℕ) (x : A) → length xs ≤ n → slice_get (xs ++ ys) n ≡ Some x → slice_get ys (n - length xs) ≡ Some x
get_back [] ys n x low e = let none : n ≡ n - 0 = omega arith in subst (λ m. slice_get ys m ≡ Some x) none e
get_back (z ∷ xs) ys zero x low e = absurd (omega (arith, low))
get_back (z ∷ xs) ys (suc n) x low e =
    let same : n - length xs ≡ suc n - length (z ∷ xs) = omega arith in
    subst (λ m. slice_get ys m ≡ Some x) same (get_back xs ys n x (omega (arith, low)) e)

get_drop : {A : Type 0} (at : ℕ) (xs : List A) (n : ℕ) (x : A) → slice_get (drop at xs) n ≡ Some x → slice_get xs (at + n) ≡ Some x
get_drop zero xs n x e = let none : n ≡ 0 + n = omega arith in subst (λ m. slice_get xs m ≡ Some x) none e
get_drop (suc at) [] n x e = cc
get_drop (suc at) (z ∷ xs) n x e =
    let same : suc (at + n) ≡ suc at + n = omega arith in subst (λ m. slice_get (z ∷ xs) m ≡ Some x) same (get_drop at xs n x e)

-- ## Entries that hand in nothing, and a front of entries

pub handed_none : (inputs : List GivenInput) (accepted : ℕ → ℕ) → AreHandedFrom inputs accepted []
handed_none inputs accepted p n x at = cc

pub handed_past : (inputs : List GivenInput) (accepted : ℕ → ℕ) (n : ℕ) → AreHandedFrom inputs accepted (drop n [])
handed_past inputs accepted zero = handed_none inputs accepted
handed_past inputs accepted (suc n) = handed_none inputs accepted

pub handed_as : (inputs : List GivenInput) (accepted counted : ℕ → ℕ) (es : List Entry) → ((p : ℕ) → accepted p ≡ counted p) → AreHandedFrom inputs accepted es → AreHandedFrom inputs counted es
handed_as inputs accepted counted es same each p n x at = subst (λ m. CameFrom inputs p (m + n) x) (same p) (each p n x at)

-- what the host has handed in of a front of all that it handed in
pub front_from : (inputs : List GivenInput) (accepted : ℕ → ℕ) (all es : List Entry) → HasFront all (handed es) → AreHandedFrom inputs accepted all → AreHandedFrom inputs accepted es
front_from inputs accepted all es fronts each p n x at =
    let front : slice_get (bytes_in p (handed es)) n ≡ Some x = ap (λ bs. slice_get bs n) (bytes_in-handed p es) ∙ at in
    each p n x
    (ap (λ is. slice_get (bytes_in p is) n) fronts.1 ∙ ap (λ bs. slice_get bs n) (bytes_in-append p (handed es) fronts.0) ∙ get_front (bytes_in p (handed es)) (bytes_in p fronts.0) n x front)

-- ## One piece more

piece_has : (all : List ℕ) (at : ℕ) (bytes : List ℕ) → bytes ≡ take (length bytes) (drop at all) → (n x : ℕ) → slice_get bytes n ≡ Some x → slice_get all (at + n) ≡ Some x
piece_has all at bytes are n x e =
    get_drop at all n x
    (ap (λ l. slice_get l n) (sym (take-append-drop (length bytes) (drop at all)))
    ∙ get_front (take (length bytes) (drop at all)) (drop (length bytes) (drop at all)) n x (ap (λ l. slice_get l n) (sym are) ∙ e))

from_has : (all : Option (List ℕ)) (at : ℕ) (bytes : List ℕ) → AreFrom all at bytes → (n x : ℕ) → slice_get bytes n ≡ Some x → HasByte all (at + n) x
from_has None at bytes from n x e = tt
from_has (Some all) at bytes from n x e = piece_has all at bytes from n x e

-- the next bytes of an input are handed in
handed_more : (inputs : List GivenInput) (accepted : ℕ → ℕ) (es : List Entry) → AreHandedFrom inputs accepted es → (place : ℕ) (input : GivenInput) → slice_get inputs place ≡ Some input
    → (bytes : List ℕ) → AreFrom input.all (accepted input.port + length (bytes_in input.port es)) bytes → AreHandedFrom inputs accepted (es ++ map (HostIn input.port) bytes)
handed_more inputs accepted es each place input there bytes from q n x at =
    let p = input.port in
    let all : slice_get (bytes_in q es ++ bytes_in q (map (HostIn p) bytes)) n ≡ Some x = ap (λ bs. slice_get bs n) (sym (bytes_in-append q es (map (HostIn p) bytes))) ∙ at in
    elim (cases_eq p q) [
      | inl same ↦
          let those : slice_get (bytes_in p es ++ bytes) n ≡ Some x =
          ap (λ bs. slice_get (bytes_in p es ++ bs) n) (sym (bytes_in-same p bytes)) ∙ subst (λ r. slice_get (bytes_in r es ++ bytes_in r (map (HostIn p) bytes)) n ≡ Some x) (sym same) all in
          subst (λ r. CameFrom inputs r (accepted r + n) x) same
          (elim (cases_lt n (length (bytes_in p es))) [
            | inl low ↦ each p n x (get_low (bytes_in p es) bytes n x low those)
            | inr high ↦
                let long : accepted p + length (bytes_in p es) + (n - length (bytes_in p es)) ≡ accepted p + n = omega (arith, high) in
                record {
                  place = place;
                  input = input;
                  there = there;
                  is = refl;
                  byte =
                      subst (λ m. HasByte input.all m x) long
                      (from_has input.all (accepted p + length (bytes_in p es)) bytes from (n - length (bytes_in p es)) x (get_back (bytes_in p es) bytes n x high those));
                }
          ])
      | inr other ↦
          each q n x
          (ap (λ bs. slice_get bs n) (sym (append-nil (bytes_in q es))) ∙ ap (λ bs. slice_get (bytes_in q es ++ bs) n) (sym (bytes_in-other q p bytes (ne_eqb p q other))) ∙ all)
    ]

-- what a step of an input came to
pub step_feeds : (input : GivenInput) (accepted : ℕ → ℕ) (most first : ℕ) (r : Result Bool StreamFault) (old new : Stage) (seat_old seat_new : List (ℕ × Entry)) (host_old host_new : List Entry)
    → HaveAccepted accepted host_old old.book → input.port < length old.book.state.ports
    → (r ≡ Ok true → Offered input.all input.port most first old new seat_old seat_new host_old host_new) → (r ≡ Ok false → (new ≡ old) × (seat_new ≡ seat_old) × (host_new ≡ host_old)) → OnErr r ((new ≡ old) × (seat_new ≡ seat_old) × (host_new ≡ host_old))
    → FeedsFrom input accepted host_old host_new
step_feeds input accepted most first (Ok true) old new seat_old seat_new host_old host_new have below taken refused err inputs place there each =
    let O = taken refl in
    subst (AreHandedFrom inputs accepted) (sym O.handed)
    (handed_more inputs accepted host_old each place input there O.bytes (subst (λ at. AreFrom input.all at O.bytes) (have input.port below) O.from))
step_feeds input accepted most first (Ok false) old new seat_old seat_new host_old host_new have below taken refused err inputs place there each =
    subst (AreHandedFrom inputs accepted) (sym (refused refl).2) each
step_feeds input accepted most first (Err fault) old new seat_old seat_new host_old host_new have below taken refused err inputs place there each =
    subst (AreHandedFrom inputs accepted) (sym err.2) each

pub feeds_none : (input : GivenInput) (accepted : ℕ → ℕ) (host : List Entry) → FeedsFrom input accepted host host
feeds_none input accepted host inputs place there each = each

-- ## Steps one after another

pub fed_none : (accepted : ℕ → ℕ) (inputs : List GivenInput) (host : List Entry) → FedFrom accepted inputs inputs host host
fed_none accepted inputs host = record { same = refl; fed = λ each. each }

pub fed_then : (accepted : ℕ → ℕ) (a b c : List GivenInput) (h k l : List Entry) → FedFrom accepted a b h k → FedFrom accepted b c k l → FedFrom accepted a c h l
fed_then accepted a b c h k l F G = record { same = G.same ∙ F.same; fed = λ each. subst (λ is. AreHandedFrom is accepted l) F.same (G.fed (subst (λ is. AreHandedFrom is accepted k) (sym F.same) (F.fed each))) }

-- inputs that are only asked for bytes
pub fed_asked : (accepted : ℕ → ℕ) (was now : List GivenInput) (host : List Entry) → now ≡ was → FedFrom accepted was now host host
fed_asked accepted was now host same = record { same = same; fed = λ each. each }

-- steps of outputs, which hand in nothing
pub fed_still : (accepted : ℕ → ℕ) (inputs : List GivenInput) (h k : List Entry) → HandsNoBytes h k → FedFrom accepted inputs inputs h k
fed_still accepted inputs h k none = record { same = refl; fed = λ each p n x at. each p n x (ap (λ bs. slice_get bs n) (sym (none p)) ∙ at) }

-- ## Inputs of a list

pub given_same : (p q : ℕ) (a b : Option (List ℕ)) → p ≡ q → a ≡ b → given_input p a ≡ given_input q b
given_same p q a b port all = ap (λ n. given_input n a) port ∙ ap (given_input q) all

module _ {A : Type 0} (given : A → GivenInput) where
  pub given_set : (xs : List A) (i : ℕ) (d y : A) → given y ≡ given (get_or xs i d) → map given (set xs i y) ≡ map given xs
  given_set xs i d y same = map-set given xs i y ∙ ap (set (map given xs) i) same ∙ sym (map-set given xs i (get_or xs i d)) ∙ ap (map given) (set-get_or xs i d)

  -- a step of one input
  pub fed_set : (accepted : ℕ → ℕ) (was : List GivenInput) (xs : List A) (i : ℕ) (d y : A) (h k l : List Entry) → i < length xs → given y ≡ given (get_or xs i d)
      → FedFrom accepted was (map given xs) h k → FeedsFrom (given (get_or xs i d)) accepted k l → FedFrom accepted was (map given (set xs i y)) h l
  fed_set accepted was xs i d y h k l within same F feeds =
      let there : slice_get (map given xs) i ≡ Some (given (get_or xs i d)) = slice_get-map given xs i ∙ ap (option_map given) (slice_get-get_or xs i d within) in
      record {
        same = given_set xs i d y same ∙ F.same;
        fed = λ each. feeds was i (subst (λ is. slice_get is i ≡ Some (given (get_or xs i d))) F.same there) (F.fed each);
      }

  -- inputs that were lent, and are written back whole
  pub fed_back : (accepted : ℕ → ℕ) (items lent new : List A) (n : ℕ) (h k : List Entry) → length new ≡ n → lent ≡ items → FedFrom accepted (map given lent) (map given new) h k
      → FedFrom accepted (map given items) (map given (take n (new ++ drop (length new) items))) h k
  fed_back accepted items lent new n h k long is F =
      subst (λ xs. FedFrom accepted (map given items) (map given xs) h k) (sym (ap (λ m. take m (new ++ drop (length new) items)) (sym long) ∙ take-append_seam new (drop (length new) items)))
      (subst (λ xs. FedFrom accepted (map given xs) (map given new) h k) is F)

-- ## Confirms

confirm_if : (p : ℕ) (before : Bool) (port upto : ℕ) → bytes_in p (if before then [] else Confirm port upto ∷ []) ≡ []
confirm_if p true port upto = refl
confirm_if p false port upto = refl

pub confirms_nothing : (b : BookValue) (port upto : ℕ) (host : List Entry) → HandsNoBytes host (host ++ confirm_entries b port upto)
confirms_nothing b port upto host p =
    bytes_in-append p host (confirm_entries b port upto) ∙ ap (λ bs. bytes_in p host ++ bs) (confirm_if p (nat_le upto (port_in b port).out_base) port upto) ∙ append-nil (bytes_in p host)
