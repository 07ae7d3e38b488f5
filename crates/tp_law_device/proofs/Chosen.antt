-- Which area is taken.
use Rattle.std.proofs.Common.{◌≡◌, ℕ, ◌<◌, Bool, true, false, not, cond, List, refl, ◌∙◌, arith, Ok, Err}
use Rattle.std.specs.Prelude.{nat_lt}
use Rattle.tp_law_device.proofs.Lower.{lt-ltb, le-ltb, TwoAreas, Damaged, area_start, gate_of, content_of, is_open, generation_of, choice, chosen_area}

-- the gate and the generation of an area
abbrev pub open_in : TwoAreas → List ℕ → Bool → Bool
open_in areas bytes second = is_open (gate_of areas second bytes)

abbrev pub age_in : TwoAreas → List ℕ → Bool → ℕ
age_in areas bytes second = generation_of (content_of areas second bytes)

-- its gate is open
open_first : (at : ℕ) (x y : Bool) (first second : ℕ) → choice at x y first second ≡ Ok false → x ≡ true
open_first at true y first second e = refl
open_first at false true first second e = cc
open_first at false false first second e = cc

open_second : (at : ℕ) (x y : Bool) (first second : ℕ) → choice at x y first second ≡ Ok true → y ≡ true
open_second at x true first second e = refl
open_second at true false first second e = cc
open_second at false false first second e = cc

pub chosen_open : (areas : TwoAreas) (bytes : List ℕ) (second : Bool) → chosen_area areas bytes ≡ Ok second → open_in areas bytes second ≡ true
unfolding chosen_area
chosen_open areas bytes false is = open_first (area_start areas true) (open_in areas bytes false) (open_in areas bytes true) (age_in areas bytes false) (age_in areas bytes true) is
chosen_open areas bytes true is = open_second (area_start areas true) (open_in areas bytes false) (open_in areas bytes true) (age_in areas bytes false) (age_in areas bytes true) is

-- the only open one
pub chosen_alone : (areas : TwoAreas) (bytes : List ℕ) (second : Bool) → open_in areas bytes second ≡ true → open_in areas bytes (not second) ≡ false → chosen_area areas bytes ≡ Ok second
unfolding chosen_area
chosen_alone areas bytes false own other = λ i. choice (area_start areas true) (own i) (other i) (age_in areas bytes false) (age_in areas bytes true)
chosen_alone areas bytes true own other = λ i. choice (area_start areas true) (other i) (own i) (age_in areas bytes false) (age_in areas bytes true)

-- the one of higher generation
pub chosen_later : (areas : TwoAreas) (bytes : List ℕ) (second : Bool) → open_in areas bytes second ≡ true → open_in areas bytes (not second) ≡ true
    → age_in areas bytes second < age_in areas bytes (not second) → chosen_area areas bytes ≡ Ok (not second)
unfolding chosen_area
chosen_later areas bytes false own other later =
    (λ i. choice (area_start areas true) (own i) (other i) (age_in areas bytes false) (age_in areas bytes true))
    ∙ (λ i. cond (le-ltb (age_in areas bytes true) (age_in areas bytes false) (omega arith) i) (Ok false)
    (cond (lt-ltb (age_in areas bytes false) (age_in areas bytes true) later i) (Ok true) (Err (Damaged (area_start areas true)))))
chosen_later areas bytes true own other later =
    (λ i. choice (area_start areas true) (other i) (own i) (age_in areas bytes false) (age_in areas bytes true))
    ∙ (λ i. cond (lt-ltb (age_in areas bytes true) (age_in areas bytes false) later i) (Ok false)
    (cond (nat_lt (age_in areas bytes false) (age_in areas bytes true)) (Ok true) (Err (Damaged (area_start areas true)))))

-- this one, if the other has a lower generation
pub chosen_higher : (areas : TwoAreas) (bytes : List ℕ) (second : Bool) → open_in areas bytes second ≡ true → open_in areas bytes (not second) ≡ true
    → age_in areas bytes (not second) < age_in areas bytes second → chosen_area areas bytes ≡ Ok second
chosen_higher areas bytes false own other lower = chosen_later areas bytes true other own lower
chosen_higher areas bytes true own other lower = chosen_later areas bytes false other own lower

-- by equal gates and generations one area is chosen
pub chosen_same : (areas : TwoAreas) (bytes left : List ℕ) (second : Bool)
    → open_in areas left second ≡ open_in areas bytes second → open_in areas left (not second) ≡ open_in areas bytes (not second)
    → age_in areas left second ≡ age_in areas bytes second → age_in areas left (not second) ≡ age_in areas bytes (not second)
    → chosen_area areas left ≡ chosen_area areas bytes
unfolding chosen_area
chosen_same areas bytes left false own other age other_age = λ i. choice (area_start areas true) (own i) (other i) (age i) (other_age i)
chosen_same areas bytes left true own other age other_age = λ i. choice (area_start areas true) (other i) (own i) (other_age i) (age i)
