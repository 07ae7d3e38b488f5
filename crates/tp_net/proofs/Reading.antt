-- What a line says by its words, and what lines say one after another.
use Rattle.std.proofs.Common.{◌≡◌, ℕ, ◌+◌, true, false, cond, List, [], ◌∷◌, ◌++◌, length, map, refl, sym, ap, subst, ◌∙◌, arith, Option, Result, Ok, Err}
use Rattle.tp_net.proofs.Lower.{Bor, range_with_len, lines, cond-true, cond-false, map-range_with_len_more, ◌>>=◌, NetFault, Syntax, WireEnd, end_of, words, has_space_around, is_skipped, Said, after_words, after_line, read_lines, nothing_said, read_text, finished, other_end}
use Rattle.tp_net.specs.NodeNames.{names_said, node_names}
use Rattle.tp_net.specs.Steps.{IsRead, IsStep}

-- a line of any other number of words is malformed
pub after_words-else : (said : Said) (number : ℕ) (words : List (Bor (List ℕ))) → (length words ≡ 2 → ⊥) → (length words ≡ 3 → ⊥)
    → after_words said number (map (λ word. word.now) words) ≡ Err (Syntax number)
after_words-else said number [] two three = refl
after_words-else said number (a ∷ []) two three = refl
after_words-else said number (a ∷ b ∷ []) two three = absurd (two refl)
after_words-else said number (a ∷ b ∷ c ∷ []) two three = absurd (three refl)
after_words-else said number (a ∷ b ∷ c ∷ d ∷ more) two three = refl

-- ## A line

pub after_line-skipped : (said : Said) (number : ℕ) (line : List ℕ) → is_skipped line ≡ true → after_line said number line ≡ Ok said
unfolding after_line
after_line-skipped said number line skipped =
    cond-true (is_skipped line) (Ok said) (cond (has_space_around line) (Err (Syntax number)) (after_words said number (words line))) skipped

pub after_line-spaced : (said : Said) (number : ℕ) (line : List ℕ) → is_skipped line ≡ false → has_space_around line ≡ true
    → after_line said number line ≡ Err (Syntax number)
unfolding after_line
after_line-spaced said number line kept spaced =
    cond-false (is_skipped line) (Ok said) (cond (has_space_around line) (Err (Syntax number)) (after_words said number (words line))) kept
    ∙ cond-true (has_space_around line) (Err (Syntax number)) (after_words said number (words line)) spaced

pub after_line-words : (said : Said) (number : ℕ) (line : List ℕ) → is_skipped line ≡ false → has_space_around line ≡ false
    → after_line said number line ≡ after_words said number (words line)
unfolding after_line
after_line-words said number line kept bare =
    cond-false (is_skipped line) (Ok said) (cond (has_space_around line) (Err (Syntax number)) (after_words said number (words line))) kept
    ∙ cond-false (has_space_around line) (Err (Syntax number)) (after_words said number (words line)) bare

-- ## Lines one after another

-- no line is left
pub read_lines-end : (said : Said) (number : ℕ) (lines : List (List ℕ)) → lines ≡ [] → read_lines said number lines ≡ Ok said
unfolding read_lines
read_lines-end said number lines e = ap (read_lines said number) e

-- the first line has a fault
pub read_lines-fault : (said : Said) (number : ℕ) (lines : List (List ℕ)) (line : List ℕ) (rest : List (List ℕ)) (fault : NetFault) → lines ≡ line ∷ rest
    → after_line said number line ≡ Err fault → read_lines said number lines ≡ Err fault
unfolding read_lines
read_lines-fault said number lines line rest fault e h =
    ap (read_lines said number) e ∙ ap (λ r. r >>= (λ after. read_lines after (number + 1) rest)) h

-- the first line has none
pub read_lines-more : (said : Said) (number : ℕ) (lines : List (List ℕ)) (line : List ℕ) (rest : List (List ℕ)) (after : Said) → lines ≡ line ∷ rest
    → after_line said number line ≡ Ok after → read_lines said number lines ≡ read_lines after (number + 1) rest
unfolding read_lines
read_lines-more said number lines line rest after e h =
    ap (read_lines said number) e ∙ ap (λ r. r >>= (λ next. read_lines next (number + 1) rest)) h

-- ## A text

pub read_text-fault : (text : List ℕ) (fault : NetFault) → read_lines nothing_said 1 (lines text) ≡ Err fault → read_text text ≡ Err fault
unfolding read_text
read_text-fault text fault h = ap (λ r. r >>= finished) h

pub read_text-said : (text : List ℕ) (said : Said) → read_lines nothing_said 1 (lines text) ≡ Ok said → read_text text ≡ finished said
unfolding read_text
read_text-said text said h = ap (λ r. r >>= finished) h

-- ## The receivers of lines, one after another

pub receivers_more : (nodes line : ℕ) (wires : List (WireEnd × WireEnd)) (end : Option WireEnd) (ends after : List (Option WireEnd)) → ends ≡ map (λ l. other_end (end_of nodes l) wires) (range_with_len 0 line)
    → end ≡ other_end (end_of nodes line) wires → after ≡ ends ++ end ∷ []
    → after ≡ map (λ l. other_end (end_of nodes l) wires) (range_with_len 0 (line + 1))
receivers_more nodes line wires end ends after so_far is pushed =
    pushed ∙ ap (λ e. ends ++ e ∷ []) is ∙ ap (λ es. es ++ other_end (end_of nodes line) wires ∷ []) so_far
    ∙ sym (map-range_with_len_more (λ l. other_end (end_of nodes l) wires) 0 line line (omega arith))

-- ## What is read

pub IsRead-fault : {T : Type 0} (want r : Result T NetFault) (fault : NetFault) → r ≡ Err fault → IsRead want (Err fault) → IsRead want r
IsRead-fault want r fault e h = subst (IsRead want) (sym e) h

pub IsStep-fault : (want : Result Said NetFault) (after : Said) (r : Result (Unit {0}) NetFault) (fault : NetFault) → r ≡ Err fault → IsStep want after (Err fault) → IsStep want after r
IsStep-fault want after r fault e h = subst (IsStep want after) (sym e) h

-- ## Names

pub node_names-said : (text : List ℕ) (said : Said) → read_lines nothing_said 1 (lines text) ≡ Ok said → node_names text ≡ map (λ node. node.0) said.nodes
unfolding node_names
node_names-said text said h = ap names_said h
