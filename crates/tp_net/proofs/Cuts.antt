-- Lists of bytes that are cut at a byte.
use Rattle.std.proofs.Common.{◌≡◌, ℕ, suc, ◌+◌, ◌-◌, ◌<◌, ◌≤◌, Bool, true, false, cond, List, [], ◌∷◌, length, take, drop, refl, sym, ap, ◌∙◌, arith, Option, Some, None, length-drop}
use Rattle.std.specs.Prelude.{◌&&◌, ◌==◌, not, nat_lt, position}
use Rattle.tp_net.proofs.Lower.{slice_split, onto_first, position_or_len, option_map, lines, lines_of_parts, strip_carriage_return, ltb-true, ltb-false, eqb-true, ne_eqb, cond-false, take_all, slice_split_first, length-slice_split, cond_some, none-some, is_link_digit, is_name, named_parts, named_end}
use Rattle.tp_net.specs.Ends.{end_of_parts}

-- ## Cuts

-- a list in which nothing passes is one part
uncut_from : {X : Type 0} (p : X → Bool) (x : X) (xs : List X) (b : Bool) → suc (length xs) ≤ cond (not b) (1 + position_or_len p xs) 0
    → (length xs ≤ position_or_len p xs → slice_split p xs ≡ xs ∷ [])
    → cond b ([] ∷ slice_split p xs) (onto_first x (slice_split p xs)) ≡ (x ∷ xs) ∷ []
uncut_from p x xs true le more = absurd (omega arith)
uncut_from p x xs false le more = ap (onto_first x) (more (omega arith))

uncut : {X : Type 0} (p : X → Bool) (xs : List X) → length xs ≤ position_or_len p xs → slice_split p xs ≡ xs ∷ []
uncut p [] le = refl
uncut p (x ∷ xs) le = uncut_from p x xs (p x) le (uncut p xs)

none_false : {X : Type 0} (b : Bool) (x : X) → cond b (Some x) None ≡ None → b ≡ false
none_false true x h = absurd (none-some x (sym h))
none_false false x h = refl

-- nothing passes
pub none_passes : {X : Type 0} (p : X → Bool) (xs : List X) → position p xs ≡ None → length xs ≤ position_or_len p xs
none_passes p xs h =
    ltb-false (position_or_len p xs) (length xs) (none_false (nat_lt (position_or_len p xs) (length xs)) (position_or_len p xs) h)

pub slice_split-none : {X : Type 0} (p : X → Bool) (xs : List X) → position p xs ≡ None → slice_split p xs ≡ xs ∷ []
slice_split-none p xs h = uncut p xs (none_passes p xs h)

-- else it is cut at the first that passes
pub slice_split-some : {X : Type 0} (p : X → Bool) (xs : List X) (at : ℕ) (d : X) → position p xs ≡ Some at
    → slice_split p xs ≡ take at xs ∷ slice_split p (drop (at + 1) xs)
slice_split-some p xs at d h =
    let t = cond_some (nat_lt (position_or_len p xs) (length xs)) (position_or_len p xs) at h in
    slice_split_first p xs d (ltb-true (position_or_len p xs) (length xs) t.0)
    ∙ ap (λ n. take n xs ∷ slice_split p (drop (n + 1) xs)) t.1

-- there is always a part
no_parts : {X : Type 0} (p : X → Bool) (xs : List X) → [] ≡ slice_split p xs → ⊥
no_parts p xs e = omega (arith, ap length e, length-slice_split p xs)

-- ## Lines

-- a line that another part follows
more_lines : (p : ℕ → Bool) (line : List ℕ) (parts : List (List ℕ)) (rest : List ℕ) → parts ≡ slice_split p rest
    → lines_of_parts (line ∷ parts) ≡ strip_carriage_return line ∷ lines_of_parts parts
more_lines p line [] rest e = absurd (no_parts p rest e)
more_lines p line (part ∷ parts) rest e = refl

-- the last line
last_line : (text : List ℕ) → 0 < length text → lines_of_parts (text ∷ []) ≡ text ∷ []
last_line [] some = absurd (omega arith)
last_line (byte ∷ text) some = cond-false (length (byte ∷ text) == 0) [] ((byte ∷ text) ∷ []) (ne_eqb (length (byte ∷ text)) 0 (λ e. omega arith))

pub lines-none : (text : List ℕ) → 0 < length text → position (λ byte. byte == 10) text ≡ None
    → lines text ≡ text ∷ lines (take (length text - length text) (drop (length text) text))
lines-none text some h =
    let empty : take (length text - length text) (drop (length text) text) ≡ [] = (let none : length text - length text ≡ 0 = omega arith in ap (λ n. take n (drop (length text) text)) none) in
    ap lines_of_parts (slice_split-none (λ byte. byte == 10) text h) ∙ last_line text some ∙ ap (λ xs. text ∷ lines xs) (sym empty)

pub lines-some : (text : List ℕ) (at : ℕ) (line : List ℕ) → position (λ byte. byte == 10) text ≡ Some at → line ≡ strip_carriage_return (take at text)
    → lines text ≡ line ∷ lines (take (length text - (at + 1)) (drop (at + 1) text))
lines-some text at line h is =
    let p : ℕ → Bool = λ byte. byte == 10 in
    let rest = drop (at + 1) text in
    let whole : take (length text - (at + 1)) rest ≡ rest = take_all (length text - (at + 1)) rest (omega (arith, length-drop (at + 1) text)) in
    ap lines_of_parts (slice_split-some p text at 0 h) ∙ more_lines p (take at text) (slice_split p rest) rest refl
    ∙ ap (λ l. l ∷ lines rest) (sym is) ∙ ap (λ xs. line ∷ lines xs) (sym whole)

-- ## Ends of wires

cond_same : {X : Type 0} (b : Bool) (x : X) → cond b x x ≡ x
cond_same true x = refl
cond_same false x = refl

-- a name and a digit
both : {X Y : Type 0} (f : X → Y) (a b : Bool) (x : X) → cond (a && b) (Some (f x)) None ≡ cond a (option_map f (cond b (Some x) None)) None
both f true true x = refl
both f true false x = refl
both f false b x = refl

-- one byte after the dot, which may be a dot
one_byte : (name : List ℕ) (digit : ℕ) (dot : Bool) → (dot ≡ true → is_link_digit digit ≡ false)
    → named_parts (name ∷ cond dot ([] ∷ [] ∷ []) ((digit ∷ []) ∷ [])) ≡ end_of_parts name (Some (digit ∷ []))
one_byte name digit true h =
    let f : ℕ → List ℕ × Option ℕ = λ k. (name, Some k) in
    sym (ap (λ b. cond (is_name name) (option_map f (cond b (Some (digit - 48)) None)) None) (h refl) ∙ cond_same (is_name name) None)
one_byte name digit false h = both (λ k. (name, Some k)) (is_name name) (is_link_digit digit) (digit - 48)

-- more bytes after the dot; the first two may be dots
more_bytes : (name : List ℕ) (d e : ℕ) (a b : Bool) (parts : List (List ℕ)) → ([] ≡ parts → ⊥)
    → named_parts (name ∷ cond a ([] ∷ cond b ([] ∷ parts) (onto_first e parts)) (onto_first d (cond b ([] ∷ parts) (onto_first e parts)))) ≡ None
more_bytes name d e a b [] h = absurd (h refl)
more_bytes name d e true true (part ∷ parts) h = refl
more_bytes name d e true false (part ∷ parts) h = refl
more_bytes name d e false true (part ∷ parts) h = refl
more_bytes name d e false false (part ∷ parts) h = refl

-- what follows the first dot
behind_dot : (name rest : List ℕ) → named_parts (name ∷ slice_split (λ byte. byte == 46) rest) ≡ end_of_parts name (Some rest)
behind_dot name [] = sym (cond_same (is_name name) None)
behind_dot name (digit ∷ []) = one_byte name digit (digit == 46) (λ dot. ap is_link_digit (eqb-true digit 46 dot))
behind_dot name (d ∷ e ∷ more) =
    let p : ℕ → Bool = λ byte. byte == 46 in
    more_bytes name d e (d == 46) (e == 46) (slice_split p more) (no_parts p more) ∙ sym (cond_same (is_name name) None)

pub named_end-some : (word : List ℕ) (at : ℕ) → position (λ byte. byte == 46) word ≡ Some at
    → named_end word ≡ end_of_parts (take at word) (Some (take (length word - (at + 1)) (drop (at + 1) word)))
named_end-some word at h =
    let rest = drop (at + 1) word in
    let whole : take (length word - (at + 1)) rest ≡ rest = take_all (length word - (at + 1)) rest (omega (arith, length-drop (at + 1) word)) in
    ap named_parts (slice_split-some (λ byte. byte == 46) word at 0 h) ∙ behind_dot (take at word) rest
    ∙ ap (λ xs. end_of_parts (take at word) (Some xs)) (sym whole)

pub named_end-none : (word : List ℕ) → position (λ byte. byte == 46) word ≡ None → named_end word ≡ end_of_parts word None
named_end-none word h = ap named_parts (slice_split-none (λ byte. byte == 46) word h)
