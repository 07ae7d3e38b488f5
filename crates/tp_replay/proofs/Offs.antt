-- Tokens are taken off the fronts of their lines, one after the other.
use Rattle.std.proofs.Common.{◌≡◌, ℕ, ◌+◌, ◌<◌, ◌≤◌, List, ◌∷◌, length, drop, get_or, sym, ap, ◌∙◌, add-one, drop-cons, Option, Some, IsSome}
use Rattle.std.specs.Prelude.{is_some}
use Rattle.tp_replay.proofs.Lower.{drop_all, Token, WireEnd, taken, by_line, incoming, line_there, taken_cons}
use Rattle.tp_replay.proofs.Applied.{there_is}
use Rattle.tp_replay.proofs.Steps.{without_front}

-- The tokens from a place on: the one there is at the front of its line, and the others can be taken after it.
pub record NextOff (wires : List (Option WireEnd)) (N i : ℕ) (lines : List (List Token)) (m : ℕ × Token) (ms rest : List (ℕ × Token)) : Type 0 where
  pub there : incoming wires N i m.0 < length lines
  pub some : IsSome (taken (without_front lines (incoming wires N i m.0)) (by_line wires N i rest))
  pub is : taken lines (by_line wires N i ms) ≡ taken (without_front lines (incoming wires N i m.0)) (by_line wires N i rest)

pub next_off : (wires : List (Option WireEnd)) (N i : ℕ) (lines : List (List Token)) (tokens : List (ℕ × Token)) (k : ℕ) (d : ℕ × Token) → k < length tokens
    → IsSome (taken lines (by_line wires N i (drop k tokens))) → NextOff wires N i lines (get_or tokens k d) (drop k tokens) (drop (k + 1) tokens)
next_off wires N i lines tokens k d below some =
    let m = get_or tokens k d in
    let line = incoming wires N i m.0 in
    let rest = by_line wires N i (drop (k + 1) tokens) in
    let from : by_line wires N i (drop k tokens) ≡ (line, m.1) ∷ rest = ap (by_line wires N i) (drop-cons tokens k d below ∙ ap (λ j. m ∷ drop j tokens) (sym (add-one k))) in
    let all = there_is (taken lines (by_line wires N i (drop k tokens))) some in
    let T = taken_cons lines (line, m.1) rest all.0 (ap (taken lines) (sym from) ∙ all.1) in
    record { there = line_there lines line m.1 T.0; some = ap is_some T.1; is = all.1 ∙ sym T.1 }

pub off_done : (wires : List (Option WireEnd)) (N i : ℕ) (lines : List (List Token)) (tokens : List (ℕ × Token)) (k : ℕ) → length tokens ≤ k → taken lines (by_line wires N i (drop k tokens)) ≡ Some lines
unfolding taken
off_done wires N i lines tokens k past = ap (λ ms. taken lines (by_line wires N i ms)) (drop_all k tokens past)
