-- Records that are read one after the other.
use Rattle.std.proofs.Common.{◌≡◌, ℕ, ◌+◌, ◌*◌, ◌<◌, ◌≤◌, List, [], ◌∷◌, ◌++◌, length, take, drop, get_or, map, refl, sym, ap, ◌∙◌, arith, append_assoc, append-nil, subst, Option, Some, None, Ok, Err}
use Rattle.std.specs.Prelude.{Result}
use Rattle.tp_recover.proofs.Lower.{option_map, map_push, drop_more, drop_all, Token, OpenFault, Damaged, WireEnd, LINE_BYTES, ◌>>=◌, front_shorter, whole_front, line_same, lines_same, LineTokens, tokens_on, line_with, lines_in, or_damaged}
use Rattle.tp_recover.specs.declared.unopened.Unopened.{Unopened}
use Rattle.tp_recover.specs.Reading.{ReadAnswer}
use Rattle.tp_recover.proofs.Passing.{passed}

-- what was read, before what is left
abbrev pub behind : {A : Type 0} → List A → Result (List A) OpenFault → Result (List A) OpenFault
behind xs given = given >>= (λ more. Ok (xs ++ more))

-- one piece more, or none
abbrev pub with_first : {A : Type 0} → A → Result (List A) OpenFault → Result (List A) OpenFault
with_first x given = given >>= (λ more. Ok (x ∷ more))

pub behind-first : {A : Type 0} (xs : List A) (x : A) (given : Result (List A) OpenFault) → behind xs (with_first x given) ≡ behind (xs ++ x ∷ []) given
behind-first xs x (Ok more) = ap Ok (sym (append_assoc xs (x ∷ []) more))
behind-first xs x (Err fault) = refl

bind-behind : {A : Type 0} (xs : List A) (given : Result A OpenFault) (f : A → Result (List A) OpenFault) → behind xs (given >>= f) ≡ (given >>= (λ x. behind xs (f x)))
bind-behind xs (Ok x) f = refl
bind-behind xs (Err fault) f = refl

-- one more was read, or it was not
pub step_read : {A : Type 0} (xs new : List A) (x : A) (given : Result (List A) OpenFault) (here : Result A OpenFault) (left : Result (List A) OpenFault)
    → given ≡ behind xs (here >>= (λ first. with_first first left)) → here ≡ Ok x → new ≡ xs ++ x ∷ [] → given ≡ behind new left
step_read xs new x given here left is read push =
    is ∙ ap (λ h. behind xs (h >>= (λ first. with_first first left))) read ∙ behind-first xs x left ∙ ap (λ ys. behind ys left) (sym push)

pub step_error : {A B C : Type 0} (seen : A → B) (seen_then : C → List B) (xs : List B) (given : Result (List B) OpenFault) (here : Result B OpenFault) (left : Result (List B) OpenFault)
    (error : Unopened) (answer : Result C Unopened)
    → given ≡ behind xs (here >>= (λ first. with_first first left)) → ReadAnswer seen here (Err error) → answer ≡ Err error → ReadAnswer seen_then given answer
step_error seen seen_then xs given here left error answer is read told =
    subst (λ g. ReadAnswer seen_then g answer) (sym (is ∙ bind-behind xs here (λ first. with_first first left)))
    (passed seen seen_then here (λ x. behind xs (with_first x left)) error answer read told)

-- ## Lines

lines_in-cons : (at : ℕ) (wire : Option WireEnd) (wires : List (Option WireEnd)) (bytes : List ℕ)
    → lines_in at (wire ∷ wires) bytes ≡ (or_damaged at (line_with wire bytes) >>= (λ line. with_first line (lines_in (at + LINE_BYTES) wires (drop LINE_BYTES bytes))))
unfolding lines_in
lines_in-cons at wire wires bytes = refl

pub lines_in-none : (at : ℕ) (wires : List (Option WireEnd)) (bytes : List ℕ) → wires ≡ [] → lines_in at wires bytes ≡ Ok []
unfolding lines_in
lines_in-none at wires bytes is = ap (λ ws. lines_in at ws bytes) is

-- the line of a number: its piece is read, or damaged
pub lines_in-more : (at i : ℕ) (wires : List (Option WireEnd)) (bytes : List ℕ) → i < length wires
    → lines_in at (drop i wires) bytes ≡ (or_damaged at (line_with (get_or wires i None) bytes) >>= (λ line. with_first line (lines_in (at + LINE_BYTES) (drop (i + 1) wires) (drop LINE_BYTES bytes))))
lines_in-more at i wires bytes lt = ap (λ ws. lines_in at ws bytes) (drop_more wires i None lt) ∙ lines_in-cons at (get_or wires i None) (drop (i + 1) wires) bytes

-- a piece is in its bytes
pub line_with-take : (wire : Option WireEnd) (bytes : List ℕ) → line_with wire (take LINE_BYTES bytes) ≡ line_with wire bytes
line_with-take wire bytes = sym (line_same wire bytes (take 4 bytes) (whole_front 4 bytes))

-- what a reader found in a piece
line_with-read : (wire : Option WireEnd) (rest piece : List ℕ) (read : Option LineTokens) → piece ≡ take LINE_BYTES rest
    → option_map tokens_on read ≡ line_with wire piece → line_with wire rest ≡ option_map tokens_on read
line_with-read wire rest piece read front is = sym (line_with-take wire rest) ∙ ap (line_with wire) (sym front) ∙ sym is

pub lines_in-step : (at i : ℕ) (wires : List (Option WireEnd)) (given : Result (List (List Token)) OpenFault) (rest piece back : List ℕ)
    (read : Option LineTokens) (line : LineTokens) (items new : List LineTokens) → i < length wires
    → given ≡ behind (map tokens_on items) (lines_in (at + LINE_BYTES * i) (drop i wires) rest)
    → piece ≡ take LINE_BYTES rest → back ≡ drop LINE_BYTES rest
    → option_map tokens_on read ≡ line_with (get_or wires i None) piece → read ≡ Some line → new ≡ items ++ line ∷ []
    → given ≡ behind (map tokens_on new) (lines_in (at + LINE_BYTES * (i + 1)) (drop (i + 1) wires) back)
lines_in-step at i wires given rest piece back read line items new lt so_far front behind_it is some push =
    let place = at + LINE_BYTES * i in
    let xs = map tokens_on items in
    let left = lines_in (place + LINE_BYTES) (drop (i + 1) wires) (drop LINE_BYTES rest) in
    let one : line_with (get_or wires i None) rest ≡ Some (tokens_on line) = line_with-read (get_or wires i None) rest piece read front is ∙ ap (option_map tokens_on) some in
    let next : place + LINE_BYTES ≡ at + LINE_BYTES * (i + 1) = omega arith in
    so_far
    ∙ ap (behind xs) (lines_in-more place i wires rest lt ∙ ap (λ o. or_damaged place o >>= (λ l. with_first l left)) one)
    ∙ behind-first xs (tokens_on line) left
    ∙ ap (λ ys. behind ys left) (sym (map_push tokens_on items line) ∙ ap (map tokens_on) (sym push))
    ∙ ap (λ p. behind (map tokens_on new) (lines_in p (drop (i + 1) wires) (drop LINE_BYTES rest))) next
    ∙ ap (λ b. behind (map tokens_on new) (lines_in (at + LINE_BYTES * (i + 1)) (drop (i + 1) wires) b)) (sym behind_it)

pub lines_in-fault : (at i : ℕ) (wires : List (Option WireEnd)) (given : Result (List (List Token)) OpenFault) (rest piece : List ℕ)
    (read : Option LineTokens) (items : List LineTokens) → i < length wires
    → given ≡ behind (map tokens_on items) (lines_in (at + LINE_BYTES * i) (drop i wires) rest)
    → piece ≡ take LINE_BYTES rest
    → option_map tokens_on read ≡ line_with (get_or wires i None) piece → read ≡ None
    → given ≡ Err (Damaged (at + LINE_BYTES * i))
lines_in-fault at i wires given rest piece read items lt so_far front is none =
    let place = at + LINE_BYTES * i in
    let xs = map tokens_on items in
    let left = lines_in (place + LINE_BYTES) (drop (i + 1) wires) (drop LINE_BYTES rest) in
    let one : line_with (get_or wires i None) rest ≡ None = line_with-read (get_or wires i None) rest piece read front is ∙ ap (option_map tokens_on) none in
    so_far
    ∙ ap (behind xs) (lines_in-more place i wires rest lt ∙ ap (λ o. or_damaged place o >>= (λ l. with_first l left)) one)

pub lines_in-end : (at i : ℕ) (wires : List (Option WireEnd)) (given : Result (List (List Token)) OpenFault) (rest : List ℕ) (items : List LineTokens)
    → length wires ≤ i → given ≡ behind (map tokens_on items) (lines_in (at + LINE_BYTES * i) (drop i wires) rest)
    → given ≡ Ok (map tokens_on items)
lines_in-end at i wires given rest items le so_far =
    so_far ∙ ap (behind (map tokens_on items)) (lines_in-none (at + LINE_BYTES * i) (drop i wires) rest (drop_all i wires le)) ∙ ap Ok (append-nil (map tokens_on items))

-- the records in longer bytes
pub lines_in-take : (at m : ℕ) (wires : List (Option WireEnd)) (bytes : List ℕ) → LINE_BYTES * length wires ≤ m → lines_in at wires (take m bytes) ≡ lines_in at wires bytes
lines_in-take at m wires bytes le = sym (lines_same at wires bytes (take m bytes) (front_shorter (4 * length wires) m bytes (take m bytes) le (whole_front m bytes)))
