-- The form of an area: how the field of its base says it, and which entries are read of its rows.
use Rattle.std.proofs.Common.{◌≡◌, ℕ, ◌/◌, ◌%◌, ◌^◌, ◌<◌, Bool, true, false, cond, List, [], ◌∷◌, refl, ap, ◌∙◌, arith, Some, None, Ok}
use Rattle.std.specs.Prelude.{◌==◌}
use Rattle.tp_law_device.proofs.Lower.{list_all, and_parts, cond-true, eqb-true, Entry, Form, Plain, Turns, NUMBER_LIMIT, PLAIN_FORM, TURNS_FORM, Topology, AreOf, entry_at, entry_bytes, is_of, is_spelt, base_number, form_number, only_if, or_damaged, form_at, form_of, front_in, has_front, row_entry, IsGroup, AreSpellings, entry_at-entry_bytes}
use Rattle.tp_law_device.proofs.Faults.{or_damaged_ok, tested}

-- ## The field of the base

pub base_number_below : (form : Form) (base : ℕ) → base < NUMBER_LIMIT → base_number form base < 2 ^ 64
base_number_below Plain base low = omega (arith, low)
base_number_below Turns base low = omega (arith, low)

pub base_back : (form : Form) (base : ℕ) → base < NUMBER_LIMIT → base_number form base % NUMBER_LIMIT ≡ base
base_back Plain base low = omega (arith, low)
base_back Turns base low = omega (arith, low)

form_number_back : (form : Form) (base : ℕ) → base < NUMBER_LIMIT → base_number form base / NUMBER_LIMIT ≡ form_number form
form_number_back Plain base low = omega (arith, low)
form_number_back Turns base low = omega (arith, low)

form_at_number : (form : Form) → form_at (form_number form) ≡ Some form
form_at_number Plain = refl
form_at_number Turns = refl

pub form_back : (form : Form) (base : ℕ) → base < NUMBER_LIMIT → form_at (base_number form base / NUMBER_LIMIT) ≡ Some form
form_back form base low = ap form_at (form_number_back form base low) ∙ form_at_number form

-- a number that says a form is that form's
number_is : (number : ℕ) (form : Form) → form_at number ≡ Some form → number ≡ form_number form
number_is number form is = go (number == PLAIN_FORM) refl (number == TURNS_FORM) refl is
  where
    go : (a : Bool) → (number == PLAIN_FORM) ≡ a → (b : Bool) → (number == TURNS_FORM) ≡ b → cond a (Some Plain) (cond b (Some Turns) None) ≡ Some form → number ≡ form_number form
    go true plain b turns h = eqb-true number PLAIN_FORM plain ∙ ap form_number (let same : Plain ≡ form = cc in same)
    go false plain true turns h = eqb-true number TURNS_FORM turns ∙ ap form_number (let same : Turns ≡ form = cc in same)
    go false plain false turns h = cc

pub field_is : (field : ℕ) (form : Form) → form_at (field / NUMBER_LIMIT) ≡ Some form → field ≡ base_number form (field % NUMBER_LIMIT)
field_is field form is = let number = number_is (field / NUMBER_LIMIT) form is in omega (arith, number)

pub base_below : (field : ℕ) → field % NUMBER_LIMIT < NUMBER_LIMIT
base_below field = omega arith

-- ## The front of a content

pub front_found : (t : Topology) (at : ℕ) (content : List ℕ) (form : Form) → form_of content ≡ Some form → has_front t content ≡ true → front_in t at content ≡ Ok form
front_found t at content form form_is front =
    ap (λ found. or_damaged at (only_if (λ f. has_front t content) found)) form_is
    ∙ ap (λ b. or_damaged at (cond b (Some form) None)) front

pub front_parts : (t : Topology) (at : ℕ) (content : List ℕ) (form : Form) → front_in t at content ≡ Ok form → (form_of content ≡ Some form) × (has_front t content ≡ true)
front_parts t at content form is =
    tested (λ f. has_front t content) (form_of content) form (or_damaged_ok at (only_if (λ f. has_front t content) (form_of content)) form is)

-- ## Rows

pub row_entry-spelt : (form : Form) (e : Entry) (number : ℕ) → is_spelt e number ≡ true → is_of form e ≡ true → row_entry form (entry_bytes e number) ≡ Some (e, number)
row_entry-spelt form e number spelt of =
    ap (only_if (λ x. is_of form x.0)) (entry_at-entry_bytes e number spelt)
    ∙ cond-true (is_of form e) (Some (e, number)) None of

pub row_spells : (form : Form) (row : List ℕ) (entry : Entry × ℕ) → row_entry form row ≡ Some entry → (entry_at row ≡ Some entry) × (is_of form entry.0 ≡ true)
row_spells form row entry is = tested (λ x. is_of form x.0) (entry_at row) entry is

-- ## Entries of a form

-- an area with turns holds them all
pub are_of_turns : (entries : List (Entry × ℕ)) → AreOf Turns entries
are_of_turns [] = tt
are_of_turns (e ∷ es) = (refl, are_of_turns es)

pub each_of : (form : Form) (entries : List (Entry × ℕ)) → list_all (λ e. is_of form e.0) entries ≡ true → AreOf form entries
each_of form [] h = tt
each_of form (e ∷ es) h = let both = and_parts (is_of form e.0) (list_all (λ x. is_of form x.0) es) h in (both.0, each_of form es both.1)

-- ## Groups

pub group_spells : (group : List (Entry × ℕ)) → IsGroup group → AreSpellings group
group_spells group is = record { some = is.some; few = is.few; each = is.each }
