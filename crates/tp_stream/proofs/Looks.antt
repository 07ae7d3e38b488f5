-- Checks whether a stream is asked to stop, one after the other.
use Rattle.std.proofs.Common.{◌≡◌, Bool, true, false, inl, inr, List, [], ◌∷◌, ◌++◌, Option, Some, None, Result, Ok, Err, refl, sym, ap, subst, ◌∙◌, append_assoc, append-nil}
use Rattle.std.specs.Prelude.{if◌then◌else◌, IfOk, IfSome}
use Rattle.tp_stream.proofs.Lower.{true≢false, All-append, All-cons, All-nil, NodeState, Network, Ending, Quiet, Turns, Gone, Halted, Stopped}
use Rattle.tp_stream.specs.declared.task.Task.{Task}
use Rattle.tp_stream.specs.declared.fault.StreamFault.{StreamFault}
use Rattle.tp_stream.specs.Looks.{HaveLooked, LooksAtMostOnce, is_stopped, looked}
use Rattle.tp_stream.specs.Quiet.{IsWhyEnded}

abbrev IsNo : Bool → Type 0
IsNo answer = answer ≡ false

-- none yet
pub none_looked : (task : Task) (old : List Bool) → HaveLooked task old old None
none_looked task old = record { noes = []; each = All-nil IsNo; are = sym (append-nil old); unasked = λ until. refl }

-- what is after a last answer that is no, or after one that is yes
behind_no : (old noes : List Bool) (ended : Option Ending) → is_stopped ended ≡ false → old ++ (noes ++ []) ≡ old ++ (noes ++ (if is_stopped ended then true ∷ [] else []))
behind_no old noes ended isnt = ap (λ answer. old ++ (noes ++ (if answer then true ∷ [] else []))) (sym isnt)

behind_yes : (old noes : List Bool) (ended : Option Ending) → is_stopped ended ≡ true → (old ++ (noes ++ [])) ++ true ∷ [] ≡ old ++ (noes ++ (if is_stopped ended then true ∷ [] else []))
behind_yes old noes ended is =
    append_assoc old (noes ++ []) (true ∷ []) ∙ ap (λ front. old ++ (front ++ true ∷ [])) (append-nil noes)
    ∙ ap (λ answer. old ++ (noes ++ (if answer then true ∷ [] else []))) (sym is)

-- one more check that answers no, if there is one
one_no : (until : Bool) (task : Task) (old mid new : List Bool) (ended : Option Ending) → task.until_asked ≡ until → is_stopped ended ≡ false → HaveLooked task old mid None
    → new ≡ mid ++ (if until then false ∷ [] else []) → HaveLooked task old new ended
one_no true task old mid new ended until isnt H grew =
    let noes = H.noes in
    record {
      noes = noes ++ false ∷ [];
      each = All-append IsNo noes (false ∷ []) H.each (All-cons IsNo false [] refl (All-nil IsNo));
      are =
          grew ∙ ap (λ front. front ++ false ∷ []) H.are ∙ append_assoc old (noes ++ []) (false ∷ []) ∙ ap (λ front. old ++ (front ++ false ∷ [])) (append-nil noes)
          ∙ ap (λ all. old ++ all) (sym (append-nil (noes ++ false ∷ []))) ∙ behind_no old (noes ++ false ∷ []) ended isnt;
      unasked = λ unasked. absurd (true≢false (sym until ∙ unasked));
    }
one_no false task old mid new ended until isnt H grew =
    record { noes = H.noes; each = H.each; are = grew ∙ append-nil mid ∙ H.are ∙ behind_no old H.noes ended isnt; unasked = H.unasked }

-- one that answers yes
one_yes : (task : Task) (old mid new : List Bool) (ended : Option Ending) → task.until_asked ≡ true → is_stopped ended ≡ true → HaveLooked task old mid None
    → new ≡ mid ++ looked task true → HaveLooked task old new ended
one_yes task old mid new ended until is H grew = record {
  noes = H.noes;
  each = H.each;
  are = grew ∙ ap (λ u. mid ++ (if u then true ∷ [] else [])) until ∙ ap (λ front. front ++ true ∷ []) H.are ∙ behind_yes old H.noes ended is;
  unasked = H.unasked;
}

-- if a stream is over because it was asked to stop, the task says so
stopped_until : (start : Network NodeState) (task : Task) (ended : Option Ending) → IfSome ended (IsWhyEnded start task) → is_stopped ended ≡ true → task.until_asked ≡ true
stopped_until start task None why is = absurd (true≢false (sym is))
stopped_until start task (Some Quiet) why is = absurd (true≢false (sym is))
stopped_until start task (Some Turns) why is = absurd (true≢false (sym is))
stopped_until start task (Some Gone) why is = absurd (true≢false (sym is))
stopped_until start task (Some Halted) why is = absurd (true≢false (sym is))
stopped_until start task (Some Stopped) why is = why

one_look : (answer : Bool) (start : Network NodeState) (task : Task) (old mid new : List Bool) (ended : Option Ending) → is_stopped ended ≡ answer
    → IfSome ended (IsWhyEnded start task) → HaveLooked task old mid None → new ≡ mid ++ looked task answer → HaveLooked task old new ended
one_look true start task old mid new ended is why H grew = one_yes task old mid new ended (stopped_until start task ended why is) is H grew
one_look false start task old mid new ended isnt why H grew = one_no task.until_asked task old mid new ended refl isnt H grew

-- what comes in a cycle, and after it
looks_more : (start : Network NodeState) (task : Task) (old mid new : List Bool) (ended : Option Ending) → IfSome ended (IsWhyEnded start task)
    → HaveLooked task old mid None → LooksAtMostOnce task mid new ended → HaveLooked task old new ended
looks_more start task old mid new ended why H once =
    elim once [
      | inl grew ↦ one_look (is_stopped ended) start task old mid new ended refl why H grew
      | inr still ↦ subst (λ e. HaveLooked task old new e) (sym still.0) (subst (λ n. HaveLooked task old n None) (sym still.1) H)
    ]

pub looks_then : (start : Network NodeState) (task : Task) (old mid new : List Bool) (last now : Result (Option Ending) StreamFault) → last ≡ Ok None
    → IfOk last (HaveLooked task old mid) → IfOk now (λ ended. IfSome ended (IsWhyEnded start task)) → IfOk now (LooksAtMostOnce task mid new)
    → IfOk now (HaveLooked task old new)
looks_then start task old mid new last (Ok ended) is H why once =
    looks_more start task old mid new ended why (subst (λ r. IfOk r (HaveLooked task old mid)) is H) once
looks_then start task old mid new last (Err fault) is H why once = tt
