-- An entry in its two halves: its tokens are taken off, and what is left of it is done.
use Rattle.std.proofs.Common.{◌≡◌, ℕ, Bool, true, false, cond, inl, List, [], ◌∷◌, length, refl, sym, ap, subst, ◌∙◌, Option, Some, None}
use Rattle.std.specs.Prelude.{MatchBool}
use Rattle.tp_replay.proofs.Lower.{Token, Entry, Run, Take, HostIn, Confirm, Turn, NodeState, ◌>>=◌, Network, own, taken, process, takes, acts, t414, process_same, Piece, from_piece, sends, next_in}
use Rattle.tp_replay.specs.Blocked.{IsBlocked}
use Rattle.tp_replay.specs.Whose.{whose}
use Rattle.tp_replay.specs.Held.{HeldPart, has}
use Rattle.tp_replay.specs.Behind.{behind_tokens, without, IsStuck, SameProcesses, DoesRest, TakesOff, TakesTokens}

-- ## Both halves

-- what a process does rests on the lines that are given alone
acts-lines : (s : Network NodeState) (xs ys : List (List Token)) (e : Entry) → acts t414 (record s { lines = xs }) ys e ≡ acts t414 s ys e
unfolding acts process own
acts-lines s xs ys (Run i k) = refl
acts-lines s xs ys (Take line token) = refl
acts-lines s xs ys (HostIn p x) = refl
acts-lines s xs ys (Confirm p upto) = refl
acts-lines s xs ys (Turn i links k) = refl

pub in_two : (piece : Piece) (s : Network NodeState) (e : Entry) → next_in t414 piece s e ≡ (without piece s (takes s.wires (length s.nodes) e) >>= λ u. behind_tokens piece u e)
unfolding next_in
in_two piece s e = go (taken s.lines (from_piece piece (length s.nodes) (takes s.wires (length s.nodes) e)))
  where
    go : (o : Option (List (List Token))) → (o >>= λ lines. cond (piece (process s.wires (length s.nodes) e)) (acts t414 s lines e) (Some (record s { lines = lines })))
        ≡ ((o >>= λ lines. Some (record s { lines = lines })) >>= λ u. behind_tokens piece u e)
    go None = refl
    go (Some lines) =
        ap (λ a. cond (piece (process s.wires (length s.nodes) e)) a (Some (record s { lines = lines }))) (sym (acts-lines s lines lines e))
        ∙ ap (λ p. cond (piece p) (acts t414 (record s { lines = lines }) lines e) (Some (record s { lines = lines }))) (sym (process_same s (record s { lines = lines }) refl refl e))

pub same_has : (was now : HeldPart) → SameProcesses was now → has now ≡ has was
same_has was now S = ap (λ first. whose first now.past) S.first ∙ ap (whose was.first) S.past

pub both_halves : (was mid now : HeldPart) (e : Entry) (could : Bool) → TakesOff was e true mid → DoesRest mid e could now
    → MatchBool could (next_in t414 (has was) was.network e ≡ Some now.network) (IsBlocked (has was) was.network e)
both_halves was mid now e could T D = go could D.goes
  where
    same : has mid ≡ has was
    same = same_has was mid T.same

    whole : next_in t414 (has was) was.network e ≡ behind_tokens (has mid) mid.network e
    whole = in_two (has was) was.network e ∙ ap (λ o. o >>= λ u. behind_tokens (has was) u e) T.goes ∙ ap (λ piece. behind_tokens piece mid.network e) (sym same)

    go : (b : Bool) → MatchBool b (behind_tokens (has mid) mid.network e ≡ Some now.network) (IsStuck (has mid) (behind_tokens (has mid) mid.network e))
        → MatchBool b (next_in t414 (has was) was.network e ≡ Some now.network) (IsBlocked (has was) was.network e)
    go true goes = whole ∙ goes
    go false stuck = subst (λ o. IsStuck (has was) o) (sym whole) (subst (λ piece. IsStuck piece (behind_tokens (has mid) mid.network e)) same stuck)

-- if the tokens can't be taken off, nothing is possible
pub first_half : (was mid : HeldPart) (e : Entry) → TakesOff was e false mid → IsBlocked (has was) was.network e
first_half was mid e T = inl (in_two (has was) was.network e ∙ ap (λ o. o >>= λ u. behind_tokens (has was) u e) T.goes)

-- ## Tokens

-- none
pub none_taken : (was : HeldPart) → TakesTokens was [] true was
unfolding taken from_piece
none_taken was = record {
  same = record { first = refl; past = refl };
  goes = refl;
}

-- another part sends the line
pub taken_elsewhere : (was : HeldPart) (line : ℕ) (token : Token) → sends (has was) (length was.network.nodes) line ≡ false → TakesTokens was ((line, token) ∷ []) true was
unfolding taken from_piece
taken_elsewhere was line token other = record {
  same = record { first = refl; past = refl };
  goes = ap (λ b. taken was.network.lines (cond b ((line, token) ∷ []) []) >>= λ lines. Some (record was.network { lines = lines })) other;
}

-- the part sends it
pub taken_here : (was now : HeldPart) (line : ℕ) (token : Token) (could : Bool) (lines : List (List Token)) → SameProcesses was now → now.network ≡ record was.network { lines = lines }
    → sends (has was) (length was.network.nodes) line ≡ true
    → MatchBool could (taken was.network.lines ((line, token) ∷ []) ≡ Some lines) (taken was.network.lines ((line, token) ∷ []) ≡ None) → TakesTokens was ((line, token) ∷ []) could now
unfolding from_piece
taken_here was now line token could lines same net mine took = record { same = same; goes = go could took }
  where
    its : without (has was) was.network ((line, token) ∷ []) ≡ (taken was.network.lines ((line, token) ∷ []) >>= λ lines. Some (record was.network { lines = lines }))
    its = ap (λ b. taken was.network.lines (cond b ((line, token) ∷ []) []) >>= λ lines. Some (record was.network { lines = lines })) mine

    go : (b : Bool) → MatchBool b (taken was.network.lines ((line, token) ∷ []) ≡ Some lines) (taken was.network.lines ((line, token) ∷ []) ≡ None)
        → MatchBool b (without (has was) was.network ((line, token) ∷ []) ≡ Some now.network) (without (has was) was.network ((line, token) ∷ []) ≡ None)
    go true all = its ∙ ap (λ o. o >>= λ lines. Some (record was.network { lines = lines })) all ∙ ap Some (sym net)
    go false none = its ∙ ap (λ o. o >>= λ lines. Some (record was.network { lines = lines })) none

-- it has what it had
pub same_all : (was mid now : HeldPart) → SameProcesses was mid → SameProcesses mid now → SameProcesses was now
same_all was mid now a b = record { first = b.first ∙ a.first; past = b.past ∙ a.past }
