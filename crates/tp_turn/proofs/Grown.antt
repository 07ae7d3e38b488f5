-- Books that grow by one act after another.
use Rattle.std.proofs.Common.{◌≡◌, ℕ, ◌+◌, suc, List, [], ◌∷◌, ◌++◌, length, refl, sym, ap, ◌∙◌, arith, append_assoc, length-append}
use Rattle.tp_turn.proofs.Lower.{range_with_len, append-nil, Entry, BookValue, next_in_book}
use Rattle.tp_turn.specs.Books.{Grew}

pub grew_none : (b : BookValue) → Grew [] b b
grew_none b = record { start = refl; entries_are = sym (append-nil b.state.entries); numbers = sym (append-nil b.numbers); base = refl; runs = refl; ready = refl; broken = refl; room = refl; history = sym (append-nil b.history); generation = refl; floor = refl; form = refl }

-- numbers after numbers
range_more : (n : ℕ) (es fs : List Entry) → range_with_len n (length es) ++ range_with_len (n + length es) (length fs) ≡ range_with_len n (length (es ++ fs))
range_more n [] fs = let e : n + 0 ≡ n = omega arith in ap (λ k. range_with_len k (length fs)) e
range_more n (x ∷ es) fs =
    let e : n + suc (length es) ≡ n + 1 + length es = omega arith in
    ap (λ ns. n ∷ ns) (ap (λ k. range_with_len (n + 1) (length es) ++ range_with_len k (length fs)) e ∙ range_more (n + 1) es fs)

pub grew_next : (es : List Entry) (a b : BookValue) → Grew es a b → next_in_book b ≡ next_in_book a + length es
grew_next es a b G = let base = G.base in let l = ap length G.entries_are ∙ length-append a.state.entries es in omega (arith, base, l)

pub grew_more : (es fs : List Entry) (a b c : BookValue) → Grew es a b → Grew fs b c → Grew (es ++ fs) a c
grew_more es fs a b c G H = record {
  start = H.start ∙ G.start;
  entries_are = H.entries_are ∙ ap (λ xs. xs ++ fs) G.entries_are ∙ append_assoc a.state.entries es fs;
  numbers =
      H.numbers ∙ ap (λ xs. xs ++ range_with_len (next_in_book b) (length fs)) G.numbers
      ∙ append_assoc a.numbers (range_with_len (next_in_book a) (length es)) (range_with_len (next_in_book b) (length fs))
      ∙ ap (λ k. a.numbers ++ (range_with_len (next_in_book a) (length es) ++ range_with_len k (length fs))) (grew_next es a b G)
      ∙ ap (λ ns. a.numbers ++ ns) (range_more (next_in_book a) es fs);
  base = H.base ∙ G.base;
  runs = H.runs ∙ G.runs;
  ready = H.ready ∙ G.ready;
  broken = H.broken ∙ G.broken;
  room = H.room ∙ G.room;
  history = H.history ∙ ap (λ xs. xs ++ fs) G.history ∙ append_assoc a.history es fs;
  generation = H.generation ∙ G.generation;
  floor = H.floor ∙ G.floor;
  form = H.form ∙ G.form;
}
