-- Steps after others that send nothing.
use Rattle.std.proofs.Common.{◌≡◌, ℕ, zero, suc, ◌+◌, List, [], ◌∷◌, ◌++◌, Option, Some, None, refl, sym, ap, ◌∙◌, arith}
use Rattle.tp_law_machine.proofs.Lower.{◌>>=◌, Machine, steps, Token}

inner : {A : Type 0} (x y : A) → Some x ≡ Some y → x ≡ y
inner x y is = cc

-- what is sent before the rest
abbrev joined : {Node : Type 0} → List (ℕ × Token) → Option (Node × List (ℕ × Token)) → Option (Node × List (ℕ × Token))
joined sent o = o >>= λ rest. Some (rest.0, sent ++ rest.1)

joined-nothing : {Node : Type 0} (o : Option (Node × List (ℕ × Token))) → joined [] o ≡ o
joined-nothing None = refl
joined-nothing (Some rest) = refl

silent : (first rest : List (ℕ × Token)) → first ++ rest ≡ [] → first ≡ []
silent [] rest is = refl
silent (token ∷ first) rest is = absurd (cc)

zero-plus : (b : ℕ) → 0 + b ≡ b
zero-plus b = omega arith

suc-plus : (a b : ℕ) → suc a + b ≡ suc (a + b)
suc-plus a b = omega arith

module _ {Node : Type 0} (M : Machine Node) (a b : ℕ) (after : Node) (behind : (node : Node) → steps M a node ≡ Some (after, []) → steps M (a + b) node ≡ steps M b after) where
  on : (first : Node × List (ℕ × Token)) (rest : Option (Node × List (ℕ × Token))) → steps M a first.0 ≡ rest → joined first.1 rest ≡ Some (after, []) → joined first.1 (steps M (a + b) first.0) ≡ steps M b after
  on first None is all = absurd (cc)
  on first (Some r) is all =
      let told : ◌≡◌ {A = Node × List (ℕ × Token)} (r.0, first.1 ++ r.1) (after, []) = inner (r.0, first.1 ++ r.1) (after, []) all in
      let nothing = silent first.1 r.1 (ap (λ (p : Node × List (ℕ × Token)). p.1) told) in
      let last : r.1 ≡ [] = sym (ap (λ (ts : List (ℕ × Token)). ts ++ r.1) nothing) ∙ ap (λ (p : Node × List (ℕ × Token)). p.1) told in
      let here : steps M a first.0 ≡ Some (after, []) = is ∙ ap (λ (n : Node). Some (n, r.1)) (ap (λ (p : Node × List (ℕ × Token)). p.0) told) ∙ ap (λ (ts : List (ℕ × Token)). Some (after, ts)) last in
      ap (λ (ts : List (ℕ × Token)). joined ts (steps M (a + b) first.0)) nothing ∙ joined-nothing (steps M (a + b) first.0) ∙ behind first.0 here

  onwards : (o : Option (Node × List (ℕ × Token))) → (o >>= λ first. joined first.1 (steps M a first.0)) ≡ Some (after, []) → (o >>= λ first. joined first.1 (steps M (a + b) first.0)) ≡ steps M b after
  onwards None all = absurd (cc)
  onwards (Some first) all = on first (steps M a first.0) refl all

-- steps after others that send nothing
pub steps-behind : {Node : Type 0} (M : Machine Node) (a b : ℕ) (node after : Node) → steps M a node ≡ Some (after, []) → steps M (a + b) node ≡ steps M b after
unfolding steps
steps-behind {Node} M zero b node after is =
    let told : ◌≡◌ {A = Node × List (ℕ × Token)} (node, []) (after, []) = inner (node, []) (after, []) is in
    ap (λ n. steps M n node) (zero-plus b) ∙ ap (λ (n : Node). steps M b n) (ap (λ (p : Node × List (ℕ × Token)). p.0) told)
steps-behind {Node} M (suc a) b node after is =
    ap (λ n. steps M n node) (suc-plus a b) ∙ onwards M a b after (λ (n : Node) here. steps-behind M a b n after here) (M.step node) is
