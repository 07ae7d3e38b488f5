-- What a node received is at the front of its lines.
use Rattle.std.proofs.Common.{◌≡◌, ◌≢◌, ℕ, ◌+◌, ◌*◌, ◌<◌, ◌⊎◌, inl, inr, true, List, [], ◌∷◌, ◌++◌, length, map, refl, sym, ap, ◌∙◌, arith, Option, Some, None, eq-eqb}
use Rattle.std.specs.Prelude.{◌==◌}
use Rattle.tp_turn.proofs.Lower.{append-nil, option_map, and_from, cases_eq, map-append, Token, Received, WireEnd, Link, NodeState, Network, back, for_line, line_of, on_line, receiver, by_line, by_link, comes_in, incoming, is_link, line_from, received, IsReceived, for_line-append, for_line-here, for_line-other, taken_from}

-- These tokens are at the front of the line that comes in on a link.
pub record StandsOn (s : Network NodeState) (i link : ℕ) (tokens : List Token) : Type 0 where
  pub line : ℕ
  pub from : back s (4 * i + link) ≡ Some line
  pub goes : receiver s.wires line ≡ Some (Link i link)
  pub rest : List Token
  pub front : on_line s.lines line ≡ tokens ++ rest

-- the tokens of each link, from link k on, are at the front of its line, if there are any
abbrev pub AreStanding : Network NodeState → ℕ → ℕ → List Received → Type 0
AreStanding s i k [] = Unit {0}
AreStanding s i k (one ∷ more) = ((received one ≡ []) ⊎ StandsOn s i k (received one)) × AreStanding s i (k + 1) more

-- ## They come in on their links

comes_more : (wires : List (Option WireEnd)) (N i k : ℕ) (tokens : List Token) (ms : List (ℕ × Token)) → is_link i k (receiver wires (incoming wires N i k)) ≡ true → comes_in wires N i ms ≡ true
    → comes_in wires N i (map (λ token. (k, token)) tokens ++ ms) ≡ true
comes_more wires N i k [] ms here all = all
comes_more wires N i k (token ∷ tokens) ms here all =
    and_from (is_link i k (receiver wires (incoming wires N i k))) (comes_in wires N i (map (λ token. (k, token)) tokens ++ ms)) here (comes_more wires N i k tokens ms here all)

none_more : (k : ℕ) (tokens : List Token) (ms : List (ℕ × Token)) → tokens ≡ [] → map (λ token. (k, token)) tokens ++ ms ≡ ms
none_more k tokens ms none = ap (λ ts. map (λ token. (k, token)) ts ++ ms) none

module _ (s : Network NodeState) (i : ℕ) where
  abbrev N : ℕ
  N = length s.nodes

  -- the line that comes in there
  line_is : (link : ℕ) (tokens : List Token) (S : StandsOn s i link tokens) → incoming s.wires N i link ≡ S.line
  line_is link tokens S = go (receiver s.wires (4 * i + link)) S.from
    where
      go : (o : Option WireEnd) → option_map (line_of N) o ≡ Some S.line → line_from N o ≡ S.line
      go None e = cc
      go (Some end) e = cc

  link_here : (link : ℕ) (tokens : List Token) (S : StandsOn s i link tokens) → is_link i link (receiver s.wires (incoming s.wires N i link)) ≡ true
  link_here link tokens S =
      ap (λ l. is_link i link (receiver s.wires l)) (line_is link tokens S) ∙ ap (is_link i link) S.goes ∙ and_from (i == i) (link == link) (eq-eqb i i refl) (eq-eqb link link refl)

  come_in : (k : ℕ) (takes : List Received) → AreStanding s i k takes → comes_in s.wires N i (by_link k takes) ≡ true
  come_in k [] A = refl
  come_in k (one ∷ more) A =
      let rest = come_in (k + 1) more A.1 in
      elim A.0 [
        | inl none ↦ ap (comes_in s.wires N i) (none_more k (received one) (by_link (k + 1) more) none) ∙ rest
        | inr S ↦ comes_more s.wires N i k (received one) (by_link (k + 1) more) (link_here k (received one) S) rest
      ]

  -- ## They are fronts

  abbrev on_lines_of : List (ℕ × Token) → List (ℕ × Token)
  on_lines_of ms = by_line s.wires N i ms

  one_here : (k l : ℕ) (tokens : List Token) → incoming s.wires N i k ≡ l → for_line l (on_lines_of (map (λ token. (k, token)) tokens)) ≡ tokens
  one_here k l [] e = refl
  one_here k l (token ∷ tokens) e =
      ap (λ j. for_line l ((j, token) ∷ on_lines_of (map (λ token. (k, token)) tokens))) e
      ∙ for_line-here l token (on_lines_of (map (λ token. (k, token)) tokens)) ∙ ap (λ ts. token ∷ ts) (one_here k l tokens e)

  one_other : (k l : ℕ) (tokens : List Token) → incoming s.wires N i k ≢ l → for_line l (on_lines_of (map (λ token. (k, token)) tokens)) ≡ []
  one_other k l [] e = refl
  one_other k l (token ∷ tokens) e = for_line-other (incoming s.wires N i k) l token (on_lines_of (map (λ token. (k, token)) tokens)) e ∙ one_other k l tokens e

  both : (k l : ℕ) (tokens : List Token) (ms : List (ℕ × Token))
      → for_line l (on_lines_of (map (λ token. (k, token)) tokens ++ ms)) ≡ for_line l (on_lines_of (map (λ token. (k, token)) tokens)) ++ for_line l (on_lines_of ms)
  both k l tokens ms =
      ap (for_line l) (map-append (λ (m : ℕ × Token). (incoming s.wires N i m.0, m.1)) (map (λ token. (k, token)) tokens) ms)
      ∙ for_line-append l (on_lines_of (map (λ token. (k, token)) tokens)) (on_lines_of ms)

  -- the line of an earlier link has none of those of the later ones
  later_none : (n k l : ℕ) (takes : List Received) → AreStanding s i k takes → receiver s.wires l ≡ Some (Link i n) → n < k → for_line l (on_lines_of (by_link k takes)) ≡ []
  later_none n k l [] A goes below = refl
  later_none n k l (one ∷ more) A goes below =
      let rest = later_none n (k + 1) l more A.1 goes (omega (arith, below)) in
      both k l (received one) (by_link (k + 1) more) ∙ ap (λ ts. for_line l (on_lines_of (map (λ token. (k, token)) (received one))) ++ ts) rest
      ∙ ap (λ ts. ts ++ []) (elim A.0 [
        | inl none ↦ ap (λ ts. for_line l (on_lines_of (map (λ token. (k, token)) ts))) none
        | inr S ↦ one_other k l (received one) (λ same. apart S (sym (line_is k (received one) S) ∙ same))
      ])
    where
      apart : (S : StandsOn s i k (received one)) → S.line ≡ l → ⊥
      apart S same =
          let ends : Some (Link i n) ≡ Some (Link i k) = sym goes ∙ ap (receiver s.wires) (sym same) ∙ S.goes in
          let links : n ≡ k = cc in
          absurd (omega (arith, links, below))

  fronts : (k : ℕ) (takes : List Received) → AreStanding s i k takes → (l : ℕ) → (rest : List Token) × (on_line s.lines l ≡ for_line l (on_lines_of (by_link k takes)) ++ rest)
  fronts k [] A l = (on_line s.lines l, refl)
  fronts k (one ∷ more) A l =
      let later = fronts (k + 1) more A.1 l in
      let parts = both k l (received one) (by_link (k + 1) more) in
      elim A.0 [
        | inl none ↦ (later.0, later.1 ∙ ap (λ ts. ts ++ later.0) (ap (λ ms. for_line l (on_lines_of ms)) (sym (none_more k (received one) (by_link (k + 1) more) none))))
        | inr S ↦ elim (cases_eq S.line l) [
          | inl same ↦ (
            S.rest,
            ap (on_line s.lines) (sym same) ∙ S.front ∙ ap (λ ts. ts ++ S.rest) (sym (whole S same parts)),
          )
          | inr other ↦ (
            later.0,
            later.1 ∙ ap (λ ts. ts ++ later.0) (sym (parts ∙ ap (λ ts. ts ++ for_line l (on_lines_of (by_link (k + 1) more))) (one_other k l (received one) (λ same. other (sym (line_is k (received one) S) ∙ same))))),
          )
        ]
      ]
    where
      whole : (S : StandsOn s i k (received one)) → S.line ≡ l
          → for_line l (on_lines_of (map (λ token. (k, token)) (received one) ++ by_link (k + 1) more)) ≡ for_line l (on_lines_of (map (λ token. (k, token)) (received one))) ++ for_line l (on_lines_of (by_link (k + 1) more))
          → for_line l (on_lines_of (map (λ token. (k, token)) (received one) ++ by_link (k + 1) more)) ≡ received one
      whole S same parts =
          parts ∙ ap (λ ts. ts ++ for_line l (on_lines_of (by_link (k + 1) more))) (one_here k l (received one) (line_is k (received one) S ∙ same))
          ∙ ap (λ ts. received one ++ ts) (later_none k (k + 1) l more A.1 (ap (receiver s.wires) (sym same) ∙ S.goes) (omega arith)) ∙ append-nil (received one)

  pub are_received : (takes : List Received) → AreStanding s i 0 takes → IsReceived s i takes
  are_received takes A =
      let T = taken_from s.lines (on_lines_of (by_link 0 takes)) (fronts 0 takes A) in
      record { into = come_in 0 takes A; out = T.0; front = T.1 }
