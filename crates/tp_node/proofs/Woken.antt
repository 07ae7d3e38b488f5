-- The process of a descriptor is queued, after what a token puts into memory.
use Rattle.std.proofs.Common.{◌≡◌, ℕ, ◌%◌, true, false, List, [], ◌∷◌, ◌++◌, length, Option, Some, None, is_some, refl, sym, ap, ◌∙◌, true≢false}
use Rattle.std.specs.Prelude.{option_and_then, if◌then◌else◌}
use Rattle.tp_node.proofs.Lower.{word_at, stored, bad_address, with_memory, wake, NodeState, wake_ranges, queue_writes, queued, word_ranges, Cpu}
use Rattle.tp_model.specs.StepWrites.{◌>>=◌}
use Rattle.tp_node.specs.First.{first_stored, stored_behind, put_ranges, then_put}
use Rattle.tp_node.specs.Hears.{with_both}
use Rattle.tp_node.specs.declared.first.First.{First}
use Rattle.tp_node.proofs.FirstStored.{word_behind}

none_of : (o : Option (List ℕ)) → is_some o ≡ false → o ≡ None
none_of None is = refl
none_of (Some m) is = absurd (true≢false is)

-- what has its place after what the token puts
some_alone : (o : Option (List ℕ)) → is_some o ≡ true → is_some (option_and_then (λ m. stored m []) o) ≡ true
some_alone None is = absurd (true≢false (sym is))
some_alone (Some m) is = refl

pub is_some-stored_alone : (first : First) (memory : List ℕ) → is_some (first_stored first memory) ≡ true → is_some (stored_behind first [] memory) ≡ true
is_some-stored_alone first memory is = some_alone (first_stored first memory) is

some_behind : (o : Option (List ℕ)) (writes : List (ℕ × ℕ)) → is_some o ≡ true → ((m : List ℕ) → o ≡ Some m → is_some (stored m writes) ≡ true) → is_some (option_and_then (λ m. stored m writes) o) ≡ true
some_behind None writes is found = absurd (true≢false (sym is))
some_behind (Some m) writes is found = found m refl

pub is_some-stored_behind : (first : First) (memory : List ℕ) (link : ℕ × ℕ) → length memory % 4 ≡ 0 → is_some (first_stored first memory) ≡ true → is_some (word_at memory link.0) ≡ true → is_some (stored_behind first (link ∷ []) memory) ≡ true
is_some-stored_behind first memory link whole is found =
    some_behind (first_stored first memory) (link ∷ []) is (λ m there. word_behind first memory m link.0 link.1 whole there ∙ found)

module _ (first : First) (memory : List ℕ) (descriptor : ℕ) (cpu : Cpu) (writes : List (ℕ × ℕ)) (queued_is : writes ≡ queue_writes descriptor cpu) where
  -- its words have their places
  pub wake-stored : (now : List ℕ) (after : Cpu) → stored_behind first writes memory ≡ Some now → after ≡ queued descriptor cpu
      → (node : NodeState) (m : List ℕ) → first_stored first memory ≡ Some m → wake descriptor (with_both cpu m node) ≡ with_both after now node
  wake-stored now after is told node m there =
      let put : stored m (queue_writes descriptor cpu) ≡ Some now = ap (stored m) (sym queued_is) ∙ sym (ap (option_and_then (λ k. stored k writes)) there) ∙ is in
      ap (λ (o : Option (List ℕ)). with_memory o (queued descriptor cpu) (with_both cpu m node)) put ∙ ap (λ (c : Cpu). with_both c now node) (sym told)

  put_behind : (o : Option (List ℕ)) → is_some (option_and_then (λ m. stored m writes) o) ≡ true → (o >>= λ m. put_ranges first ++ wake_ranges descriptor cpu m) ≡ put_ranges first ++ word_ranges writes
  put_behind None is = absurd (true≢false (sym is))
  put_behind (Some m) is =
      ap (λ (ws : List (ℕ × ℕ)). put_ranges first ++ (if is_some (stored m ws) then word_ranges ws else [])) (sym queued_is) ∙ ap (λ b. put_ranges first ++ (if b then word_ranges writes else [])) is

  pub then_put-stored : is_some (stored_behind first writes memory) ≡ true → then_put first memory (wake_ranges descriptor cpu) ≡ put_ranges first ++ word_ranges writes
  then_put-stored is = put_behind (first_stored first memory) is

module _ (first : First) (memory : List ℕ) (descriptor : ℕ) (cpu : Cpu) (link : ℕ × ℕ) (queued_is : link ∷ [] ≡ queue_writes descriptor cpu) (whole : length memory % 4 ≡ 0) (lost : is_some (word_at memory link.0) ≡ false) where
  lost_behind : (m : List ℕ) → first_stored first memory ≡ Some m → is_some (stored m (link ∷ [])) ≡ false
  lost_behind m there = word_behind first memory m link.0 link.1 whole there ∙ lost

  -- its word has no place
  pub wake-lost : (now : List ℕ) (after : Cpu) → stored_behind first [] memory ≡ Some now → ((node : NodeState) (m : List ℕ) → bad_address (with_both cpu m node) ≡ with_both after m node)
      → (node : NodeState) (m : List ℕ) → first_stored first memory ≡ Some m → wake descriptor (with_both cpu m node) ≡ with_both after now node
  wake-lost now after is halts node m there =
      let here : Some m ≡ Some now = sym (ap (option_and_then (λ k. stored k [])) there) ∙ is in
      let same : m ≡ now = cc in
      let none : stored m (queue_writes descriptor cpu) ≡ None = ap (stored m) (sym queued_is) ∙ none_of (stored m (link ∷ [])) (lost_behind m there) in
      ap (λ (o : Option (List ℕ)). with_memory o (queued descriptor cpu) (with_both cpu m node)) none ∙ halts node m ∙ ap (λ (k : List ℕ). with_both after k node) same

  put_alone : (o : Option (List ℕ)) → is_some (option_and_then (λ m. stored m []) o) ≡ true → ((m : List ℕ) → o ≡ Some m → is_some (stored m (link ∷ [])) ≡ false)
      → (o >>= λ m. put_ranges first ++ wake_ranges descriptor cpu m) ≡ put_ranges first ++ word_ranges []
  put_alone None is none = absurd (true≢false (sym is))
  put_alone (Some m) is none =
      ap (λ (ws : List (ℕ × ℕ)). put_ranges first ++ (if is_some (stored m ws) then word_ranges ws else [])) (sym queued_is) ∙ ap (λ b. put_ranges first ++ (if b then word_ranges (link ∷ []) else [])) (none m refl)

  pub then_put-lost : is_some (stored_behind first [] memory) ≡ true → then_put first memory (wake_ranges descriptor cpu) ≡ put_ranges first ++ word_ranges []
  then_put-lost is = put_alone (first_stored first memory) is lost_behind
