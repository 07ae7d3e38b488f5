-- A queue that moved twice has moved.
use Rattle.std.proofs.Common.{ℕ, List, [], ◌++◌, sym, ap, ◌∙◌, arith, append-nil, append_assoc, length-append}
use Rattle.tp_law_processes.specs.Queue.{Moved}

pub unmoved : (from : ℕ) (was : List ℕ) → Moved [] from was from was
unmoved from was = record { gone = []; base = omega arith; are = append-nil was }

pub moved_then : (one two : List ℕ) (a b c : ℕ) (xs ys zs : List ℕ) → Moved one a xs b ys → Moved two b ys c zs → Moved (one ++ two) a xs c zs
moved_then one two a b c xs ys zs F G =
    let first = F.base in
    let second = G.base in
    let all = length-append F.gone G.gone in record {
      gone = F.gone ++ G.gone;
      base = omega (arith, first, second, all);
      are = sym (append_assoc xs one two) ∙ ap (λ more. more ++ two) F.are ∙ append_assoc F.gone ys two ∙ ap (λ more. F.gone ++ more) G.are ∙ sym (append_assoc F.gone G.gone zs);
    }
