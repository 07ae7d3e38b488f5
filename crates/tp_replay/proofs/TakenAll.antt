-- A node takes the tokens of a turn, one after the other. In a flat network it can, if they are at the front of their lines.
use Rattle.std.proofs.Common.{◌≡◌, ℕ, ◌+◌, ◌<◌, ◌≤◌, true, List, [], ◌∷◌, ◌++◌, length, drop, get_or, refl, sym, ap, subst, ◌∙◌, add-one, drop-cons, append_assoc, append-nil, length-set, Option, Some, None, IsSome, slice_get}
use Rattle.std.specs.Prelude.{is_some}
use Rattle.tp_replay.proofs.Lower.{option_map, AllByRecursion, drop_all, Token, Take, NodeState, t414, took, ◌>>=◌, Network, has_wire, taken, sent, by_line, comes_in, incoming, took_all, taken_cons, taken-sent, comes_first, AreUnmarked, all_append, bind_some, slice_get-set_same, CarryBytes, has_four_links, on_lines}
use Rattle.tp_replay.specs.Flat.{IsFlat}
use Rattle.tp_replay.proofs.Applied.{there_is}
use Rattle.tp_replay.proofs.Flat.{flat_step}
use Rattle.tp_replay.proofs.Fronts.{front_taken}
use Rattle.tp_replay.proofs.Steps.{without_front, node_after, node_takes}

-- ## In the network

-- the first of them is taken, and then the others
first_taken : (m : ℕ × Token) (ms : List (ℕ × Token)) (n : NodeState) (x : NodeState × List (ℕ × Token)) → took n m.0 m.1 ≡ Some x → IsSome (took_all t414 ms x.0) → IsSome (took_all t414 (m ∷ ms) n)
unfolding took_all
first_taken m ms n x first rest =
    let R = there_is (took_all t414 ms x.0) rest in
    ap is_some (ap (λ o. o >>= λ first. took_all t414 ms first.0 >>= λ more. Some (more.0, first.1 ++ more.1)) first ∙ ap (λ o. o >>= λ more. Some (more.0, x.1 ++ more.1)) R.1)

pub all_taken : (s : Network NodeState) → IsFlat s → (N i : ℕ) → length s.nodes ≡ N → (ms : List (ℕ × Token)) (n : NodeState) (out : List (List Token)) → comes_in s.wires N i ms ≡ true
    → taken s.lines (by_line s.wires N i ms) ≡ Some out → slice_get s.nodes i ≡ Some n → CarryBytes ms → AreUnmarked ms → IsSome (took_all t414 ms n)
unfolding took_all taken
all_taken s F N i size [] n out into front at low plain = refl
all_taken s F N i size (m ∷ ms) n out into front at low plain =
    let line = incoming s.wires N i m.0 in
    let C = comes_first s.wires N i m ms into in
    let T = taken_cons s.lines (line, m.1) (by_line s.wires N i ms) out front in
    let did = there_is (took n m.0 m.1) (front_taken s F line i m.0 n C.0 at m.1 plain.0 T.0) in
    let M = node_takes s line i m.0 m.1 n did.0.0 did.0.1 C.0 T.0 at did.1 in
    let u = node_after s (without_front s.lines line) i did.0.0 did.0.1 in
    let G : IsFlat u = flat_step s F (Take line m.1) u M.step low.0 in
    let rest = all_taken u G N i (length-set s.nodes i did.0.0 ∙ size) ms did.0.0 (sent (has_wire s.wires) out (on_lines i did.0.1)) C.1
    (taken-sent (has_wire s.wires) (without_front s.lines line) (by_line s.wires N i ms) (on_lines i did.0.1) out T.1) (slice_get-set_same s.nodes i did.0.0 n at) low.1 plain.1 in
    first_taken m ms n did.0 did.1 rest

-- what it answers leaves on its links
pub answers_links : (ms : List (ℕ × Token)) (n : NodeState) (r : NodeState × List (ℕ × Token)) → took_all t414 ms n ≡ Some r → AllByRecursion (λ m. m.0 < 4) r.1
unfolding took_all
answers_links [] n r e =
    let is : ◌≡◌ {A = NodeState × List (ℕ × Token)} (n, []) r = cc in
    subst (λ x. AllByRecursion (λ m. m.0 < 4) x.1) is tt
answers_links (m ∷ ms) n r e =
    let F = bind_some (took n m.0 m.1) _ r e in
    let R = bind_some (took_all t414 ms F.0.0) _ r F.2 in
    let is : ◌≡◌ {A = NodeState × List (ℕ × Token)} (R.0.0, F.0.1 ++ R.0.1) r = cc in
    subst (λ x. AllByRecursion (λ m. m.0 < 4) x.1) is (all_append (λ m. m.0 < 4) F.0.1 R.0.1 (has_four_links.took n m.0 m.1 F.0 F.1) (answers_links ms F.0.0 R.0 R.1))

-- ## One after the other

-- the answers so far, and then those to the tokens that are left
abbrev pub with_answers : List (ℕ × Token) → NodeState × List (ℕ × Token) → NodeState × List (ℕ × Token)
with_answers answers r = (r.0, answers ++ r.1)

-- The tokens from a place on: the node takes the one there, and then the others.
pub record NextTaken (tokens : List (ℕ × Token)) (i : ℕ) (m : ℕ × Token) (n : NodeState) : Type 0 where
  pub after : NodeState × List (ℕ × Token)
  pub took : took n m.0 m.1 ≡ Some after
  pub rest : IsSome (took_all t414 (drop (i + 1) tokens) after.0)
  pub is : took_all t414 (drop i tokens) n ≡ option_map (with_answers after.1) (took_all t414 (drop (i + 1) tokens) after.0)

pub next_taken : (tokens : List (ℕ × Token)) (i : ℕ) (n : NodeState) (d : ℕ × Token) → i < length tokens → IsSome (took_all t414 (drop i tokens) n) → NextTaken tokens i (get_or tokens i d) n
unfolding took_all
next_taken tokens i n d below some =
    let m = get_or tokens i d in
    let from : drop i tokens ≡ m ∷ drop (i + 1) tokens = drop-cons tokens i d below ∙ ap (λ k. m ∷ drop k tokens) (sym (add-one i)) in
    let all = there_is (took_all t414 (drop i tokens) n) some in
    let made : took_all t414 (m ∷ drop (i + 1) tokens) n ≡ Some all.0 = ap (λ ms. took_all t414 ms n) (sym from) ∙ all.1 in
    let F = bind_some (took n m.0 m.1) _ all.0 made in
    let R = bind_some (took_all t414 (drop (i + 1) tokens) F.0.0) _ all.0 F.2 in
    record {
      after = F.0;
      took = F.1;
      rest = ap is_some R.1;
      is = all.1 ∙ sym (ap (option_map (with_answers F.0.1)) R.1 ∙ R.2);
    }

-- if it is known what the node does at the one there
pub record Behind (tokens : List (ℕ × Token)) (i : ℕ) (n : NodeState) (x : NodeState × List (ℕ × Token)) : Type 0 where
  pub rest : IsSome (took_all t414 (drop (i + 1) tokens) x.0)
  pub is : took_all t414 (drop i tokens) n ≡ option_map (with_answers x.1) (took_all t414 (drop (i + 1) tokens) x.0)

pub taken_behind : (tokens : List (ℕ × Token)) (i : ℕ) (n : NodeState) (d : ℕ × Token) (x : NodeState × List (ℕ × Token)) → i < length tokens → IsSome (took_all t414 (drop i tokens) n)
    → took n (get_or tokens i d).0 (get_or tokens i d).1 ≡ Some x → Behind tokens i n x
taken_behind tokens i n d x below some did =
    let N = next_taken tokens i n d below some in
    let alike : Some N.after ≡ Some x = sym N.took ∙ did in
    let same : N.after ≡ x = cc in
    subst (λ y. Behind tokens i n y) same (record { rest = N.rest; is = N.is })

pub answers_twice : (first second : List (ℕ × Token)) (o : Option (NodeState × List (ℕ × Token))) → option_map (with_answers first) (option_map (with_answers second) o) ≡ option_map (with_answers (first ++ second)) o
answers_twice first second None = refl
answers_twice first second (Some r) = ap (λ ms. Some (r.0, ms)) (sym (append_assoc first second r.1))

pub all_done : (tokens : List (ℕ × Token)) (i : ℕ) (n : NodeState) (answers : List (ℕ × Token)) → length tokens ≤ i → option_map (with_answers answers) (took_all t414 (drop i tokens) n) ≡ Some (n, answers)
unfolding took_all
all_done tokens i n answers past = ap (λ ms. option_map (with_answers answers) (took_all t414 ms n)) (drop_all i tokens past) ∙ ap (λ ms. Some (n, ms)) (append-nil answers)
