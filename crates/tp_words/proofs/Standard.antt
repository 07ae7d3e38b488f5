-- The port that lives on standard output, or on standard input.
use Rattle.std.proofs.Common.{◌≡◌, ◌<◌, ◌≤◌, ◌+◌, ℕ, zero, suc, Bool, true, false, Option, Some, List, [], ◌∷◌, ◌++◌, Contains, All, length, get_or, map, arith, refl, sym, ap, subst, ◌∙◌, string_bytes, cond}
use Rattle.std.specs.Prelude.{if◌then◌else◌}
use Rattle.tp_words.proofs.Lower.{decimal_digit, length-map, All-head, All-tail, sum_by-cons, bytes_eq-Decides, decimal, MAX_PORTS, is_standard, standard_port, PortFile}
use Rattle.tp_words.specs.Ends.{IsFile, file_text, standard_count}
use Rattle.tp_words.specs.Standard.{IsStandard, standard_text}
use Rattle.tp_words.proofs.Texts.{rests}

pick_true : {X : Type 0} (p : Bool) (x y : X) → p ≡ true → (if p then x else y) ≡ x
pick_true true x y holds = refl
pick_true false x y holds = absurd (cc)

pick_false : {X : Type 0} (p : Bool) (x y : X) → p ≡ false → (if p then x else y) ≡ y
pick_false true x y holds = absurd (cc)
pick_false false x y holds = refl

to_by : (file : PortFile) (texts : List (List ℕ)) (rest : Option ℕ) (port : ℕ) (p : Bool) → is_standard file ≡ p → (if p then Some file.port else rest) ≡ Some port
    → (rest ≡ Some port → Contains texts (standard_text port)) → Contains (file_text file ∷ texts) (standard_text port)
to_by file texts rest port true dash is later =
    let same : file.port ≡ port = cc in
    let path = (bytes_eq-Decides (string_bytes file.path) (45 ∷ [])).0 dash in
    (zero, omega arith, ap (λ (ds : List ℕ). decimal file.port ++ 61 ∷ ds) path ∙ ap (λ (n : ℕ). decimal n ++ 61 ∷ 45 ∷ []) same)
to_by file texts rest port false dash is later =
    let at = later is in
    let low = at.1 in
    (suc at.0, omega (arith, low), at.2)

to_text : (files : List PortFile) (port : ℕ) → standard_port files ≡ Some port → Contains (map file_text files) (standard_text port)
to_text [] port is = absurd (cc)
to_text (file ∷ files) port is = to_by file (map file_text files) (standard_port files) port (is_standard file) refl is (to_text files port)

counted_by : (file : PortFile) (rest : Option ℕ) (count port : ℕ) (p : Bool) → (if p then Some file.port else rest) ≡ Some port
    → (rest ≡ Some port → 1 ≤ count) → 1 ≤ cond p 1 0 + count
counted_by file rest count port true is later = omega arith
counted_by file rest count port false is later = let more = later is in omega (arith, more)

counted : (files : List PortFile) (port : ℕ) → standard_port files ≡ Some port → 1 ≤ standard_count files
counted [] port is = absurd (cc)
counted (file ∷ files) port is =
    let one = counted_by file (standard_port files) (standard_count files) port (is_standard file) is (counted files port) in
    let sum = sum_by-cons (λ (f : PortFile). cond (is_standard f) 1 0) file files in
    omega (arith, one, sum)

same_port : (p q : ℕ) (rest other : List ℕ) → p < MAX_PORTS → q < MAX_PORTS → decimal p ++ 61 ∷ rest ≡ decimal q ++ 61 ∷ other → p ≡ q
same_port p q rest other low below same =
    let first = ap (λ (ds : List ℕ). get_or (ds ++ 61 ∷ rest) 0 0) (decimal_digit p (omega (arith, low))) in
    let second = ap (λ (ds : List ℕ). get_or (ds ++ 61 ∷ other) 0 0) (decimal_digit q (omega (arith, below))) in
    let digits : 48 + p ≡ 48 + q = sym first ∙ ap (λ (t : List ℕ). get_or t 0 0) same ∙ second in
    omega (arith, digits)

none_first : (p : Bool) (count : ℕ) → cond p 1 0 + count ≤ 1 → 1 ≤ count → p ≡ false
none_first true count few more = absurd (omega (arith, few, more))
none_first false count few more = refl

from_at : (files : List PortFile) (port k : ℕ) → port < MAX_PORTS → All IsFile files → standard_count files ≤ 1 → k < length files
    → get_or (map file_text files) k (standard_text port) ≡ standard_text port → standard_port files ≡ Some port
from_at [] port k low each count there is = absurd (omega (arith, there))
from_at (file ∷ files) port zero low each count there is =
    let fits = (All-head IsFile file files each).0 in
    let path = rests (file_text file) (string_bytes file.path) (45 ∷ []) file.port port fits low refl is in
    let dash = (bytes_eq-Decides (string_bytes file.path) (45 ∷ [])).1 path in
    pick_true (is_standard file) (Some file.port) (standard_port files) dash
    ∙ ap (λ (n : ℕ). Some n) (same_port file.port port (string_bytes file.path) (45 ∷ []) fits low is)
from_at (file ∷ files) port (suc k) low each count there is =
    let sum = sum_by-cons (λ (f : PortFile). cond (is_standard f) 1 0) file files in
    let later = from_at files port k low (All-tail IsFile file files each) (omega (arith, sum, count)) (omega (arith, there)) is in
    let more = counted files port later in
    pick_false (is_standard file) (Some file.port) (standard_port files) (none_first (is_standard file) (standard_count files) (omega (arith, sum, count)) more) ∙ later

-- if one file at most is standard, it is that of the port for which a dash was typed
pub standard_is : (files : List PortFile) (texts : List (List ℕ)) → map file_text files ≡ texts → All IsFile files → standard_count files ≤ 1
    → IsStandard (standard_port files) texts
standard_is files texts same each count = λ port low. (
  λ is. subst (λ (all : List (List ℕ)). Contains all (standard_text port)) same (to_text files port is),
  λ typed.
      let at = subst (λ (all : List (List ℕ)). Contains all (standard_text port)) (sym same) typed in
      let long = length-map files file_text in
      let there = at.1 in
      from_at files port at.0 low each count (omega (arith, there, long)) at.2,
)
