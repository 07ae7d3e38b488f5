-- What a node receives on a link, by what it took.
use Rattle.std.proofs.Common.{◌≡◌, ℕ, List, [], ◌∷◌, ◌++◌, map, refl, sym, ap, subst, ◌∙◌, append_assoc, Some}
use Rattle.tp_turn.proofs.Lower.{append-nil, Token, Received, NodeState, t414, took, ◌>>=◌, took_ranges, LacksFrames, received, took_all, bind_some, NodeContents, memory_kept}
use Rattle.tp_turn.specs.Receiving.{Answered, TakesOne, TakesEach, ReceivesOf}

-- ## Several tokens

-- none
pub each_none : (link : ℕ) (n : NodeContents) (sent : List (ℕ × Token)) → Answered (TakesEach link []) n sent n sent
unfolding TakesEach
each_none link n sent = record { answers = []; are = sym (append-nil sent); did = (refl, refl) }

-- one, and then those after it
pub each_more : (link : ℕ) (token : Token) (tokens : List Token) (a b c : NodeContents) (first second third : List (ℕ × Token))
    → Answered (TakesOne link token) a first b second → Answered (TakesEach link tokens) b second c third → Answered (TakesEach link (token ∷ tokens)) a first c third
unfolding TakesEach
each_more link token tokens a b c first second third A B = record {
  answers = A.answers ++ B.answers;
  are = B.are ∙ ap (λ ms. ms ++ B.answers) A.are ∙ append_assoc first A.answers B.answers;
  did = record { between = b; first = A.answers; second = B.answers; are = refl; one_did = A.did; other_did = B.did };
}

-- just one
pub each_one : (link : ℕ) (token : Token) (a b : NodeContents) (first second : List (ℕ × Token)) → Answered (TakesOne link token) a first b second → Answered (TakesEach link (token ∷ [])) a first b second
each_one link token a b first second A = each_more link token [] a b b first second second A (each_none link b second)

-- two
pub each_two : (link : ℕ) (token other : Token) (a b c : NodeContents) (first second third : List (ℕ × Token)) → Answered (TakesOne link token) a first b second → Answered (TakesOne link other) b second c third
    → Answered (TakesEach link (token ∷ other ∷ [])) a first c third
each_two link token other a b c first second third A B = each_more link token (other ∷ []) a b c first second third A (each_one link other b c second third B)

-- ## A link

-- all that was there was received
pub of_all : (link : ℕ) (one : Received) (a b : NodeContents) (first second : List (ℕ × Token)) → Answered (TakesEach link (received one)) a first b second → Answered (ReceivesOf link (received one) one) a first b second
of_all link one a b first second A = record {
  answers = A.answers;
  are = A.are;
  did = record { rest = []; are = sym (append-nil (received one)); did = A.did; end = tt };
}

-- what comes before a token for which memory has no frame
pub of_front : (link : ℕ) (one : Received) (token : Token) (rest : List Token) (a b c : NodeContents) (first second third : List (ℕ × Token)) → Answered (TakesEach link (received one)) a first b second
    → (c ≡ b) × (third ≡ second) × LacksFrames (memory_kept b) (took_ranges b.live link token) → Answered (ReceivesOf link (received one ++ token ∷ rest) one) a first c third
of_front link one token rest a b c first second third A L =
    subst (λ n. Answered (ReceivesOf link (received one ++ token ∷ rest) one) a first n third) (sym L.0)
    (record {
      answers = A.answers;
      are = L.1 ∙ A.are;
      did = record { rest = token ∷ rest; are = refl; did = A.did; end = L.2 };
    })

-- ## What the node took

-- taken in one go, they lead there, too
pub each_took : (link : ℕ) (tokens : List Token) (s : NodeContents) (answers : List (ℕ × Token)) (t : NodeContents) → TakesEach link tokens s answers t
    → took_all t414 (map (λ token. (link, token)) tokens) s.live ≡ Some (t.live, answers)
unfolding TakesEach took_all
each_took link [] s answers t T = ap (λ (n : NodeContents). Some (n.live, [])) (sym T.1) ∙ ap (λ ms. Some (t.live, ms)) (sym T.0)
each_took link (token ∷ tokens) s answers t T =
    ap (λ o. o >>= λ first. took_all t414 (map (λ token. (link, token)) tokens) first.0 >>= λ rest. Some (rest.0, first.1 ++ rest.1)) T.one_did.took
    ∙ ap (λ o. o >>= λ rest. Some (rest.0, T.first ++ rest.1)) (each_took link tokens T.between T.second t T.other_did)
    ∙ ap (λ ms. Some (t.live, ms)) (sym T.are)

-- the first token, and then the others
took_first : (k : ℕ × Token) (ms : List (ℕ × Token)) (n : NodeState) (x y : NodeState × List (ℕ × Token)) → took n k.0 k.1 ≡ Some x → took_all t414 ms x.0 ≡ Some y → took_all t414 (k ∷ ms) n ≡ Some (y.0, x.1 ++ y.1)
unfolding took_all
took_first k ms n x y one rest =
    ap (λ o. o >>= λ first. took_all t414 ms first.0 >>= λ more. Some (more.0, first.1 ++ more.1)) one ∙ ap (λ o. o >>= λ more. Some (more.0, x.1 ++ more.1)) rest

record FirstTook (k : ℕ × Token) (ms : List (ℕ × Token)) (n m : NodeState) (answers : List (ℕ × Token)) : Type 0 where
  one : NodeState × List (ℕ × Token)
  rest : NodeState × List (ℕ × Token)
  took : took n k.0 k.1 ≡ Some one
  others : took_all t414 ms one.0 ≡ Some rest
  last : rest.0 ≡ m
  are : one.1 ++ rest.1 ≡ answers

first_took : (k : ℕ × Token) (ms : List (ℕ × Token)) (n m : NodeState) (answers : List (ℕ × Token)) → took_all t414 (k ∷ ms) n ≡ Some (m, answers) → FirstTook k ms n m answers
unfolding took_all
first_took k ms n m answers h =
    let F = bind_some (took n k.0 k.1) _ (m, answers) h in
    let R = bind_some (took_all t414 ms F.0.0) _ (m, answers) F.2 in
    let pair : ◌≡◌ {A = NodeState × List (ℕ × Token)} (R.0.0, F.0.1 ++ R.0.1) (m, answers) = cc in
    record { one = F.0; rest = R.0; took = F.1; others = R.1; last = ap (λ (x : NodeState × List (ℕ × Token)). x.0) pair; are = ap (λ (x : NodeState × List (ℕ × Token)). x.1) pair }

took_none : (n m : NodeState) (answers : List (ℕ × Token)) → took_all t414 [] n ≡ Some (m, answers) → (n ≡ m) × (answers ≡ [])
unfolding took_all
took_none n m answers h =
    let pair : ◌≡◌ {A = NodeState × List (ℕ × Token)} (n, []) (m, answers) = cc in
    (ap (λ (x : NodeState × List (ℕ × Token)). x.0) pair, sym (ap (λ (x : NodeState × List (ℕ × Token)). x.1) pair))

-- after other tokens
pub took_more : (ms ns : List (ℕ × Token)) (n m p : NodeState) (first second : List (ℕ × Token)) → took_all t414 ms n ≡ Some (m, first) → took_all t414 ns m ≡ Some (p, second) → took_all t414 (ms ++ ns) n ≡ Some (p, first ++ second)
took_more [] ns n m p first second A B =
    let N = took_none n m first A in
    ap (took_all t414 ns) N.0 ∙ B ∙ ap (λ ks. Some (p, ks ++ second)) (sym N.1)
took_more (k ∷ ms) ns n m p first second A B =
    let F = first_took k ms n m first A in
    let rest = took_more ms ns F.one.0 F.rest.0 p F.rest.1 second F.others (ap (took_all t414 ns) F.last ∙ B) in
    took_first k (ms ++ ns) n F.one (p, F.rest.1 ++ second) F.took rest ∙ ap (λ ks. Some (p, ks)) (sym (append_assoc F.one.1 F.rest.1 second) ∙ ap (λ ks. ks ++ second) F.are)

-- it stays frozen as it was, or not frozen
pub each_kept : (link : ℕ) (tokens : List Token) (s : NodeContents) (answers : List (ℕ × Token)) (t : NodeContents) → TakesEach link tokens s answers t → t.frozen ≡ s.frozen
unfolding TakesEach
each_kept link [] s answers t T = ap (λ (n : NodeContents). n.frozen) T.1
each_kept link (token ∷ tokens) s answers t T = each_kept link tokens T.between T.second t T.other_did ∙ T.one_did.kept
