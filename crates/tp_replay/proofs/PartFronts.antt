-- Tokens of a turn, taken off a part's lines one after the other.
use Rattle.std.proofs.Common.{◌≡◌, ℕ, ◌+◌, ◌<◌, Bool, true, false, cond, List, [], ◌∷◌, ◌++◌, length, map, take, drop, get_or, refl, sym, ap, subst, ◌∙◌, Option, Some, None}
use Rattle.std.specs.Prelude.{MatchBool}
use Rattle.tp_replay.proofs.Lower.{map_more, map-append, take-append-drop, Token, NodeState, ◌>>=◌, Network, on_line, is_first, taken, by_line, incoming, bind_some, Piece, from_piece, sends}
use Rattle.tp_replay.specs.Held.{HeldPart, has}
use Rattle.tp_replay.specs.Behind.{without, TakesTokens}
use Rattle.tp_replay.proofs.Halves.{same_all, same_has}
use Rattle.tp_replay.proofs.Steps.{without_front}

-- ## Two lists of tokens

from_both : (piece : Piece) (N : ℕ) (xs ys : List (ℕ × Token)) → from_piece piece N (xs ++ ys) ≡ from_piece piece N xs ++ from_piece piece N ys
unfolding from_piece
from_both piece N [] ys = refl
from_both piece N (x ∷ xs) ys = go (sends piece N x.0) (from_both piece N xs ys)
  where
    go : (b : Bool) → from_piece piece N (xs ++ ys) ≡ from_piece piece N xs ++ from_piece piece N ys
        → cond b (x ∷ from_piece piece N (xs ++ ys)) (from_piece piece N (xs ++ ys)) ≡ cond b (x ∷ from_piece piece N xs) (from_piece piece N xs) ++ from_piece piece N ys
    go true h = ap (λ zs. x ∷ zs) h
    go false h = h

taken_both : (lines : List (List Token)) (xs ys : List (ℕ × Token)) → taken lines (xs ++ ys) ≡ (taken lines xs >>= λ left. taken left ys)
unfolding taken
taken_both lines [] ys = refl
taken_both lines (x ∷ xs) ys = go (is_first (on_line lines x.0) x.1) (taken_both (without_front lines x.0) xs ys)
  where
    go : (b : Bool) → taken (without_front lines x.0) (xs ++ ys) ≡ (taken (without_front lines x.0) xs >>= λ left. taken left ys)
        → cond b (taken (without_front lines x.0) (xs ++ ys)) None ≡ (cond b (taken (without_front lines x.0) xs) None >>= λ left. taken left ys)
    go true h = h
    go false h = refl

without_both : (piece : Piece) (s : Network NodeState) (xs ys : List (ℕ × Token)) → without piece s (xs ++ ys) ≡ (without piece s xs >>= λ u. without piece u ys)
without_both piece s xs ys =
    ap (λ ms. taken s.lines ms >>= λ lines. Some (record s { lines = lines })) (from_both piece (length s.nodes) xs ys)
    ∙ ap (λ o. o >>= λ lines. Some (record s { lines = lines })) (taken_both s.lines (from_piece piece (length s.nodes) xs) (from_piece piece (length s.nodes) ys))
    ∙ go (taken s.lines (from_piece piece (length s.nodes) xs))
  where
    go : (o : Option (List (List Token))) → ((o >>= λ left. taken left (from_piece piece (length s.nodes) ys)) >>= λ lines. Some (record s { lines = lines }))
        ≡ ((o >>= λ lines. Some (record s { lines = lines })) >>= λ u. without piece u ys)
    go None = refl
    go (Some left) = refl

-- first some, then others
pub tokens_then : (was mid now : HeldPart) (xs ys : List (ℕ × Token)) (could : Bool) → TakesTokens was xs true mid → TakesTokens mid ys could now → TakesTokens was (xs ++ ys) could now
tokens_then was mid now xs ys could A B = record { same = same_all was mid now A.same B.same; goes = go could B.goes }
  where
    its : without (has was) was.network (xs ++ ys) ≡ without (has mid) mid.network ys
    its = without_both (has was) was.network xs ys ∙ ap (λ o. o >>= λ u. without (has was) u ys) A.goes ∙ ap (λ piece. without piece mid.network ys) (sym (same_has was mid A.same))

    go : (b : Bool) → MatchBool b (without (has mid) mid.network ys ≡ Some now.network) (without (has mid) mid.network ys ≡ None)
        → MatchBool b (without (has was) was.network (xs ++ ys) ≡ Some now.network) (without (has was) was.network (xs ++ ys) ≡ None)
    go true h = its ∙ h
    go false h = its ∙ h

-- if the first ones aren't at the front, nothing is taken
pub tokens_stop : (was now : HeldPart) (xs ys : List (ℕ × Token)) → TakesTokens was xs false now → TakesTokens was (xs ++ ys) false now
tokens_stop was now xs ys A = record { same = A.same; goes = without_both (has was) was.network xs ys ∙ ap (λ o. o >>= λ u. without (has was) u ys) A.goes }

-- what is left has the wires and as many nodes
pub wires_kept : (was now : HeldPart) (ms : List (ℕ × Token)) → TakesTokens was ms true now → now.network.wires ≡ was.network.wires
wires_kept was now ms A =
    let L = bind_some (taken was.network.lines (from_piece (has was) (length was.network.nodes) ms)) (λ lines. Some (record was.network { lines = lines })) now.network A.goes in
    let is : record was.network { lines = L.0 } ≡ now.network = cc in
    ap (λ (s : Network NodeState). s.wires) (sym is)

pub nodes_kept : (was now : HeldPart) (ms : List (ℕ × Token)) → TakesTokens was ms true now → length now.network.nodes ≡ length was.network.nodes
nodes_kept was now ms A =
    let L = bind_some (taken was.network.lines (from_piece (has was) (length was.network.nodes) ms)) (λ lines. Some (record was.network { lines = lines })) now.network A.goes in
    let is : record was.network { lines = L.0 } ≡ now.network = cc in
    ap (λ (s : Network NodeState). length s.nodes) (sym is)

-- ## One token after the other

-- the next token of a turn, on the line that comes in on its link
module _ (was now : HeldPart) (node : ℕ) (tokens : List (ℕ × Token)) (i : ℕ) (d : ℕ × Token) (below : i < length tokens) where
  abbrev so_far : List (ℕ × Token) → List (ℕ × Token)
  so_far ms = by_line was.network.wires (length was.network.nodes) node ms

  abbrev it : ℕ × Token
  it = get_or tokens i d

  abbrev its_line : HeldPart → ℕ
  its_line h = incoming h.network.wires (length h.network.nodes) node it.0

  module _ (mid : HeldPart) (before : TakesTokens was (so_far (take i tokens)) true mid) (could : Bool) (one : TakesTokens mid ((its_line mid, it.1) ∷ []) could now) where
    same_line : its_line mid ≡ its_line was
    same_line = ap (λ wires. incoming wires (length mid.network.nodes) node it.0) (wires_kept was mid (so_far (take i tokens)) before)
        ∙ ap (λ N. incoming was.network.wires N node it.0) (nodes_kept was mid (so_far (take i tokens)) before)

    more : so_far (take (i + 1) tokens) ≡ so_far (take i tokens) ++ (its_line was, it.1) ∷ []
    more = map_more (λ m. (incoming was.network.wires (length was.network.nodes) node m.0, m.1)) tokens i d below

    pub fronts_more : TakesTokens was (so_far (take (i + 1) tokens)) could now
    fronts_more = subst (λ ms. TakesTokens was ms could now) (sym more)
        (tokens_then was mid now (so_far (take i tokens)) ((its_line was, it.1) ∷ []) could before (subst (λ l. TakesTokens mid ((l, it.1) ∷ []) could now) same_line one))

-- one that isn't at the front
pub fronts_stop : (was now : HeldPart) (node : ℕ) (tokens : List (ℕ × Token)) (i : ℕ) → TakesTokens was (by_line was.network.wires (length was.network.nodes) node (take i tokens)) false now
    → TakesTokens was (by_line was.network.wires (length was.network.nodes) node tokens) false now
fronts_stop was now node tokens i A =
    let f : ℕ × Token → ℕ × Token = λ m. (incoming was.network.wires (length was.network.nodes) node m.0, m.1) in
    let both : by_line was.network.wires (length was.network.nodes) node (take i tokens) ++ by_line was.network.wires (length was.network.nodes) node (drop i tokens) ≡ by_line was.network.wires (length was.network.nodes) node tokens =
    sym (map-append f (take i tokens) (drop i tokens)) ∙ ap (map f) (take-append-drop i tokens) in
    subst (λ ms. TakesTokens was ms false now) both (tokens_stop was now _ _ A)
