-- No command takes a line that asks for help.
use Rattle.std.proofs.Common.{◌≡◌, ◌⊎◌, ℕ, Bool, true, false, not, ◌&&◌, ◌||◌, Option, Some, None, List, [], ◌∷◌, length, nat_eq, nat_lt, arith, refl, sym, ap, subst, inl, inr, codes, string_bytes}
use Rattle.std.specs.Prelude.{if◌then◌else◌, drop, bytes_eq, option_and_then}
use Rattle.tp_words.proofs.Lower.{Decides-ltb, bytes_eq-Decides, starts_with, Global, String}
use Rattle.tp_words.specs.declared.args.Asked.TheVariants.{Help, Try, Trace, TraceDevice, Format, Run as Runs, Compact, Recover, Show, Status, Check, View as Views}
use Rattle.tp_words.specs.declared.args.TheConstants.{MAX_WORDS}
use Rattle.tp_words.specs.declared.command.Command.{Command}
use Rattle.tp_words.specs.declared.command.Command.TheVariants.{Stream, Stop, Backup, Other}
use Rattle.tp_words.specs.declared.reading.Next.{Next}
use Rattle.tp_words.specs.declared.reading.Next.TheVariants as may
use Rattle.tp_words.specs.declared.words.Name.{Name}
use Rattle.tp_words.specs.declared.words.Name.TheVariants as of
use Rattle.tp_words.specs.Commands.{HasCommandPlaces}
use Rattle.tp_words.specs.Explaining.{is_help}
use Rattle.tp_words.specs.Given.{has_flag, value_in}
use Rattle.tp_words.specs.Lines.{Taken, after_option, after_word, asks_help, begins_help, has_asking, has_begun, has_whole, is_asking, is_place, name_in, named, put_place, read_in, taken, taken_as, taken_in, taken_with}
use Rattle.tp_words.specs.Rows.{Row, commands, rows_of}
use Rattle.tp_words.specs.Typed.{is_word}

and_both : (p q : Bool) → (p && q) ≡ true → (p ≡ true) × (q ≡ true)
and_both true q both = (refl, both)
and_both false q both = absurd (cc)

or_either : (p q : Bool) → (p || q) ≡ true → (p ≡ true) ⊎ (q ≡ true)
or_either true q one = inl refl
or_either false q one = inr one

no_more : (p : Bool) → not p ≡ true → p ≡ false
no_more true is = absurd (cc)
no_more false is = refl

-- the bytes of a word that asks
abbrev Asks : List ℕ → Type 0
Asks bytes = (bytes ≡ codes "--help") ⊎ (bytes ≡ codes "--version") ⊎ ((rest : List ℕ) × (bytes ≡ 45 ∷ 104 ∷ rest)) ⊎ ((rest : List ℕ) × (bytes ≡ 45 ∷ 86 ∷ rest))

two_first : (bytes : List ℕ) (a b : ℕ) → starts_with nat_eq bytes (a ∷ b ∷ []) ≡ true → (rest : List ℕ) × (bytes ≡ a ∷ b ∷ rest)
two_first [] a b begins = absurd (cc)
two_first (x ∷ []) a b begins =
    let same : a ∷ b ∷ [] ≡ x ∷ [] = (bytes_eq-Decides (a ∷ b ∷ []) (x ∷ [])).0 begins in
    absurd (cc)
two_first (x ∷ y ∷ rest) a b begins =
    let same : a ∷ b ∷ [] ≡ x ∷ y ∷ [] = (bytes_eq-Decides (a ∷ b ∷ []) (x ∷ y ∷ [])).0 begins in
    (rest, (cc))

of_words : (bytes : List ℕ) → (bytes_eq bytes (codes "--help") ≡ true) ⊎ (bytes_eq bytes (codes "--version") ≡ true) → Asks bytes
of_words bytes (inl is) = inl ((bytes_eq-Decides bytes (codes "--help")).0 is)
of_words bytes (inr is) = inr (inl ((bytes_eq-Decides bytes (codes "--version")).0 is))

asking_bytes : (bytes : List ℕ) (long h : Bool) → (long ≡ true → Asks bytes) → (h ≡ true → Asks bytes) → ((long || h || starts_with nat_eq bytes (codes "-V")) ≡ true) → Asks bytes
asking_bytes bytes long h by_long by_h asks =
    elim (or_either (long || h) (starts_with nat_eq bytes (codes "-V")) asks) [
      | inl one ↦ elim (or_either long h one) [
        | inl is ↦ by_long is
        | inr is ↦ by_h is
      ]
      | inr begins ↦ inr (inr (inr (two_first bytes 45 86 begins)))
    ]

asking : (word : String Global) → is_asking word ≡ true → Asks (string_bytes word)
asking word asks =
    let bytes = string_bytes word in
    asking_bytes bytes (bytes_eq bytes (codes "--help") || bytes_eq bytes (codes "--version")) (starts_with nat_eq bytes (codes "-h"))
    (λ long. of_words bytes (or_either (bytes_eq bytes (codes "--help")) (bytes_eq bytes (codes "--version")) long))
    (λ begins. inr (inr (inl (two_first bytes 45 104 begins)))) asks

-- what may come after a word of these bytes, if an option or a place may be there, or a value
abbrev after_bytes : List Row → List ℕ → Option Next
after_bytes rows bytes =
    if bytes_eq bytes (codes "--") then Some may.Places
    else (if starts_with nat_eq bytes (codes "-") && nat_lt 1 (length bytes) then after_option rows (value_in (codes "--") bytes) else Some may.Any)

abbrev after_value : List ℕ → Option Next
after_value bytes = if starts_with nat_eq bytes (codes "-") && nat_lt 1 (length bytes) then None else Some may.Any

-- no option asks for help
abbrev HasNoHelp : List Row → Type 0
HasNoHelp rows =
    (has_whole rows (codes "help") ≡ false) × (has_begun rows (codes "help") ≡ false) × (has_whole rows (codes "version") ≡ false)
    × (has_begun rows (codes "version") ≡ false)

neither : (p q : Bool) (x y : Option Next) → p ≡ false → q ≡ false → (if p then x else (if q then y else None)) ≡ None
neither true q x y first second = absurd (cc)
neither false true x y first second = absurd (cc)
neither false false x y first second = refl

none_if : (p : Bool) → p ≡ true → (if p then None else Some may.Any) ≡ None
none_if true is = refl
none_if false is = absurd (cc)

-- a dash and a letter are no place
with_letter : (letter : ℕ) (rest : List ℕ) → (if nat_lt 1 (length (45 ∷ letter ∷ rest)) then None else Some may.Any) ≡ None
with_letter letter rest =
    let long = length (45 ∷ letter ∷ rest) in
    none_if (nat_lt 1 long) ((Decides-ltb 1 long).1 (omega arith))

not_an_option : (rows : List Row) (bytes : List ℕ) → HasNoHelp rows → Asks bytes → after_bytes rows bytes ≡ None
not_an_option rows bytes lacks (inl is) =
    subst (λ (bs : List ℕ). after_bytes rows bs ≡ None) (sym is)
    (neither (has_whole rows (codes "help")) (has_begun rows (codes "help")) (Some may.Any) (Some may.Value) lacks.0 lacks.1)
not_an_option rows bytes lacks (inr (inl is)) =
    subst (λ (bs : List ℕ). after_bytes rows bs ≡ None) (sym is)
    (neither (has_whole rows (codes "version")) (has_begun rows (codes "version")) (Some may.Any) (Some may.Value) lacks.2 lacks.3)
not_an_option rows bytes lacks (inr (inr (inl at))) = subst (λ (bs : List ℕ). after_bytes rows bs ≡ None) (sym at.1) (with_letter 104 at.0)
not_an_option rows bytes lacks (inr (inr (inr at))) = subst (λ (bs : List ℕ). after_bytes rows bs ≡ None) (sym at.1) (with_letter 86 at.0)

not_a_value : (bytes : List ℕ) → Asks bytes → after_value bytes ≡ None
not_a_value bytes (inl is) = subst (λ (bs : List ℕ). after_value bs ≡ None) (sym is) refl
not_a_value bytes (inr (inl is)) = subst (λ (bs : List ℕ). after_value bs ≡ None) (sym is) refl
not_a_value bytes (inr (inr (inl at))) = subst (λ (bs : List ℕ). after_value bs ≡ None) (sym at.1) (with_letter 104 at.0)
not_a_value bytes (inr (inr (inr at))) = subst (λ (bs : List ℕ). after_value bs ≡ None) (sym at.1) (with_letter 86 at.0)

-- no word `--` was before
abbrev IsOpen : Next → Type 0
IsOpen may.Any = Unit {0}
IsOpen may.Value = Unit {0}
IsOpen may.Places = ⊥

abbrev StaysOpen : Option Next → Type 0
StaysOpen None = Unit {0}
StaysOpen (Some next) = IsOpen next

no_asking : (rows : List Row) (next : Next) (word : String Global) → HasNoHelp rows → IsOpen next → is_asking word ≡ true → after_word rows next word ≡ None
no_asking rows may.Any word lacks free asks = not_an_option rows (string_bytes word) lacks (asking word asks)
no_asking rows may.Value word lacks free asks = not_a_value (string_bytes word) (asking word asks)
no_asking rows may.Places word lacks free asks = absurd (free)

open_option : (p q : Bool) → StaysOpen (if p then Some may.Any else (if q then Some may.Value else None))
open_option true q = tt
open_option false true = tt
open_option false false = tt

open_after : (rows : List Row) (text : Option (List ℕ)) → StaysOpen (after_option rows text)
open_after rows None = tt
open_after rows (Some text) = open_option (has_whole rows text) (has_begun rows text)

open_any : (p q : Bool) (option : Option Next) → p ≡ false → StaysOpen option
    → StaysOpen (if p then Some may.Places else (if q then option else Some may.Any))
open_any true q option other free = absurd (cc)
open_any false true option other free = free
open_any false false option other free = tt

open_value : (p : Bool) → StaysOpen (if p then None else Some may.Any)
open_value true = tt
open_value false = tt

stays_open : (rows : List Row) (next : Next) (word : String Global) → IsOpen next → is_word (codes "--") word ≡ false → StaysOpen (after_word rows next word)
stays_open rows may.Any word free other =
    let bytes = string_bytes word in
    open_any (bytes_eq bytes (codes "--")) (starts_with nat_eq bytes (codes "-") && nat_lt 1 (length bytes)) (after_option rows (value_in (codes "--") bytes)) other
    (open_after rows (value_in (codes "--") bytes))
stays_open rows may.Value word free other =
    let bytes = string_bytes word in
    open_value (starts_with nat_eq bytes (codes "-") && nat_lt 1 (length bytes))
stays_open rows may.Places word free other = absurd (free)

goes_on : (rows : List Row) (words : List (String Global)) (next : Option Next) → StaysOpen next
    → ((later : Next) → IsOpen later → read_in rows later words ≡ None) → option_and_then (λ later. read_in rows later words) next ≡ None
goes_on rows words None free unread = refl
goes_on rows words (Some later) free unread = unread later free

-- a command's words can't be read if one of them asks for help
unread : (rows : List Row) (next : Next) (words : List (String Global)) → HasNoHelp rows → IsOpen next → has_asking words ≡ true → read_in rows next words ≡ None
unread rows next [] lacks free asks = absurd (cc)
unread rows next (word ∷ words) lacks free asks =
    let both = and_both (not (is_word (codes "--") word)) (is_asking word || has_asking words) asks in
    ap (λ (texts : Option (List (List ℕ))). put_place (is_place next word) (string_bytes word) texts)
    (elim (or_either (is_asking word) (has_asking words) both.1) [
      | inl now ↦ ap (λ (o : Option Next). option_and_then (λ later. read_in rows later words) o) (no_asking rows next word lacks free now)
      | inr behind ↦
          goes_on rows words (after_word rows next word) (stays_open rows next word free (no_more (is_word (codes "--") word) both.0))
          (λ later still. unread rows later words lacks still behind)
    ])

no_help : (name : Name) → HasNoHelp (rows_of name)
no_help of.Try = (refl, refl, refl, refl)
no_help of.Trace = (refl, refl, refl, refl)
no_help of.Check = (refl, refl, refl, refl)
no_help of.Format = (refl, refl, refl, refl)
no_help of.Run = (refl, refl, refl, refl)
no_help of.Stop = (refl, refl, refl, refl)
no_help of.Compact = (refl, refl, refl, refl)
no_help of.Backup = (refl, refl, refl, refl)
no_help of.Recover = (refl, refl, refl, refl)
no_help of.Show = (refl, refl, refl, refl)
no_help of.Status = (refl, refl, refl, refl)
no_help of.Waits = (refl, refl, refl, refl)
no_help of.Node = (refl, refl, refl, refl)
no_help of.Image = (refl, refl, refl, refl)
no_help of.Journal = (refl, refl, refl, refl)
no_help of.Port = (refl, refl, refl, refl)
no_help of.Stream = (refl, refl, refl, refl)

as_any : (words line : List (String Global)) (name : Option Name) → has_asking line ≡ true → taken_as name words line ≡ None
as_any words line None asks = refl
as_any words line (Some name) asks =
    ap (λ (places : Option (List (List ℕ))). taken_with name words places) (unread (rows_of name) may.Any line (no_help name) tt asks)

-- the command of a word that has these bytes, if `--stream` is among the words or isn't
abbrev name_of : Bool → List ℕ → Option Name
name_of flag bytes = if bytes_eq bytes (codes "run") && flag then Some of.Stream else named commands bytes

no_name : (flag : Bool) (bytes : List ℕ) → Asks bytes → name_of flag bytes ≡ None
no_name flag bytes (inl is) = subst (λ (bs : List ℕ). name_of flag bs ≡ None) (sym is) refl
no_name flag bytes (inr (inl is)) = subst (λ (bs : List ℕ). name_of flag bs ≡ None) (sym is) refl
no_name flag bytes (inr (inr (inl at))) = subst (λ (bs : List ℕ). name_of flag bs ≡ None) (sym at.1) refl
no_name flag bytes (inr (inr (inr at))) = subst (λ (bs : List ℕ). name_of flag bs ≡ None) (sym at.1) refl

help_is_none : (flag : Bool) (bytes : List ℕ) → bytes ≡ codes "help" → name_of flag bytes ≡ None
help_is_none flag bytes is = subst (λ (bs : List ℕ). name_of flag bs ≡ None) (sym is) refl

unnamed : (words line : List (String Global)) (word : String Global) → name_in words word ≡ None → taken_in words (word ∷ line) ≡ None
unnamed words line word none = ap (λ (name : Option Name). taken_as name words line) none

after_name : (words line : List (String Global)) (word : String Global) → has_asking (word ∷ line) ≡ true → taken_in words (word ∷ line) ≡ None
after_name words line word asks =
    let both = and_both (not (is_word (codes "--") word)) (is_asking word || has_asking line) asks in
    elim (or_either (is_asking word) (has_asking line) both.1) [
      | inl now ↦ unnamed words line word (no_name (has_flag (codes "--stream") words) (string_bytes word) (asking word now))
      | inr behind ↦ as_any words line (name_in words word) behind
    ]

untaken_in : (words rest : List (String Global)) → begins_help rest ≡ true → taken_in words rest ≡ None
untaken_in words [] asks = absurd (cc)
untaken_in words (word ∷ line) asks =
    elim (or_either (is_word (codes "help") word) (has_asking (word ∷ line)) asks) [
      | inl help ↦
          unnamed words line word
          (help_is_none (has_flag (codes "--stream") words) (string_bytes word) ((bytes_eq-Decides (string_bytes word) (codes "help")).0 help))
      | inr behind ↦ after_name words line word behind
    ]

either_none : (p : Bool) (line : Option Taken) → line ≡ None → (if p then None else line) ≡ None
either_none true line none = refl
either_none false line none = none

asks_none : (words : List (String Global)) → asks_help words ≡ true → taken words ≡ None
asks_none words asks = either_none (nat_lt MAX_WORDS (length words)) (taken_in words (drop 1 words)) (untaken_in words (drop 1 words) asks)

by_test : (p : Bool) → (p ≡ true → ⊥) → p ≡ false
by_test true never = absurd (never refl)
by_test false never = refl

-- a line that is taken doesn't ask for help
unasked : (words : List (String Global)) (line : Taken) → taken words ≡ Some line → asks_help words ≡ false
unasked words line is = by_test (asks_help words) (λ asks. let none = asks_none words asks in absurd (cc))

-- so what it asks for is help just if a word asks for that
pub helped : (words : List (String Global)) (command : Command) → HasCommandPlaces words command → is_help command ≡ asks_help words
helped words (Stream run) places = sym (unasked words _ places.0)
helped words (Stop request) places = sym (unasked words _ places)
helped words (Backup backup) places = sym (unasked words _ places)
helped words (Other (Help text)) places = sym places.1
helped words (Other (Try image turns)) places = sym (unasked words _ places)
helped words (Other (Trace trace)) places = sym (unasked words _ places)
helped words (Other (TraceDevice device part maps)) places = sym (unasked words _ places)
helped words (Other (Format new)) places = sym (unasked words _ places.0.2)
helped words (Other (Runs run)) places = sym (unasked words _ places)
helped words (Other (Compact device wait_lock)) places = sym (unasked words _ places)
helped words (Other (Recover device workers)) places = sym (unasked words _ places)
helped words (Other (Show device json)) places = sym (unasked words _ places)
helped words (Other (Status device every json)) places = sym (unasked words _ places)
helped words (Other (Check topology images json)) places = sym (unasked words _ places)
helped words (Other (Views device view maps)) places = sym (unasked words _ places.0)
