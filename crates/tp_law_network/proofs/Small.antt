-- The small format: what is read of it depends on which bytes.
use Rattle.std.proofs.Common.{◌≡◌, ℕ, zero, suc, ◌+◌, ◌-◌, ◌*◌, ◌<◌, ◌≤◌, ◌⊎◌, inl, inr, Bool, true, false, cond, not, List, [], ◌∷◌, ◌++◌, length, refl, ap, subst, ◌∙◌, arith, append-nil, length-append, eq-eqb, eqb-true, Some, None}
use Rattle.std.specs.Prelude.{◌==◌, nat_lt}
use Rattle.tp_law_network.proofs.Lower.{cases_Bool, lt-ltb, le-ltb, Entry, HostIn, GATE_OPEN, ◌>>=◌, Machine, Network, after, Held}
use Rattle.tp_law_network.proofs.Partial.{bind_some, cond_some}
use Rattle.tp_law_network.specs.Small.{small_byte, is_small_open, begins, current_of, current, entries_at, held_at, if_possible, small_verdict}

-- an equal byte is an equal gate
pub same_gate : (bytes left : List ℕ) (place : ℕ) → small_byte left place ≡ small_byte bytes place → is_small_open left place ≡ is_small_open bytes place
same_gate bytes left place same = ap (λ x. x == GATE_OPEN) same

-- ## Groups

-- as many entries as there are places at most
pub entries_most : (bytes : List ℕ) (more place : ℕ) → length (entries_at bytes more place) ≤ more
unfolding entries_at
entries_most bytes zero place = omega arith
entries_most bytes (suc more) place = go (is_small_open bytes place) (entries_most bytes more (place + 2))
  where
    go : (b : Bool) → length (entries_at bytes more (place + 2)) ≤ more
        → length (cond b (HostIn 0 (small_byte bytes (place + 1)) ∷ entries_at bytes more (place + 2)) []) ≤ suc more
    go true h = omega arith
    go false h = omega arith

-- at an open gate, and at a closed one
entries_open : (bytes : List ℕ) (more place : ℕ) → is_small_open bytes place ≡ true → entries_at bytes (suc more) place ≡ HostIn 0 (small_byte bytes (place + 1)) ∷ entries_at bytes more (place + 2)
unfolding entries_at
entries_open bytes more place is = ap (λ b. cond b (HostIn 0 (small_byte bytes (place + 1)) ∷ entries_at bytes more (place + 2)) []) is

entries_closed : (bytes : List ℕ) (more place : ℕ) → (0 < more → is_small_open bytes place ≡ false) → entries_at bytes more place ≡ []
unfolding entries_at
entries_closed bytes zero place is = refl
entries_closed bytes (suc more) place is = ap (λ b. cond b (HostIn 0 (small_byte bytes (place + 1)) ∷ entries_at bytes more (place + 2)) []) (is (omega arith))

-- bytes that agree up to where groups were read are read alike up to there, and reading goes on there
entries_split : (bytes left : List ℕ) (more place : ℕ)
    → ((q : ℕ) → place ≤ q → q < place + 2 * length (entries_at bytes more place) → small_byte left q ≡ small_byte bytes q)
    → entries_at left more place
    ≡ entries_at bytes more place ++ entries_at left (more - length (entries_at bytes more place)) (place + 2 * length (entries_at bytes more place))
unfolding entries_at
entries_split bytes left zero place same = refl
entries_split bytes left (suc more) place same = go (is_small_open bytes place) refl same (entries_split bytes left more (place + 2))
  where
    rest : List Entry
    rest = entries_at bytes more (place + 2)

    go : (b : Bool) → is_small_open bytes place ≡ b
        → ((q : ℕ) → place ≤ q → q < place + 2 * length (cond b (HostIn 0 (small_byte bytes (place + 1)) ∷ rest) []) → small_byte left q ≡ small_byte bytes q)
        → (((q : ℕ) → place + 2 ≤ q → q < place + 2 + 2 * length rest → small_byte left q ≡ small_byte bytes q)
        → entries_at left more (place + 2) ≡ rest ++ entries_at left (more - length rest) (place + 2 + 2 * length rest))
        → entries_at left (suc more) place
        ≡ cond b (HostIn 0 (small_byte bytes (place + 1)) ∷ rest) []
        ++ entries_at left (suc more - length (cond b (HostIn 0 (small_byte bytes (place + 1)) ∷ rest) [])) (place + 2 * length (cond b (HostIn 0 (small_byte bytes (place + 1)) ∷ rest) []))
    go true is here there =
        entries_open left more place (same_gate bytes left place (here place (omega arith) (omega arith)) ∙ is)
        ∙ ap (λ x. HostIn 0 x ∷ entries_at left more (place + 2)) (here (place + 1) (omega arith) (omega arith))
        ∙ ap (λ es. HostIn 0 (small_byte bytes (place + 1)) ∷ es) (there (λ q low high. here q (omega arith) (omega arith)))
        ∙ ap (λ n. HostIn 0 (small_byte bytes (place + 1)) ∷ (rest ++ entries_at left n (place + 2 + 2 * length rest))) (omega arith)
        ∙ ap (λ p. HostIn 0 (small_byte bytes (place + 1)) ∷ (rest ++ entries_at left (suc more - suc (length rest)) p)) (omega arith)
    go false is here there =
        let all : suc more ≡ suc more - 0 = omega arith in
        let here_still : place ≡ place + 0 = omega arith in
        λ i. entries_at left (all i) (here_still i)

-- if the next gate is closed, what was read is read again
pub entries_same : (bytes left : List ℕ) (more place : ℕ)
    → ((q : ℕ) → place ≤ q → q < place + 2 * length (entries_at bytes more place) → small_byte left q ≡ small_byte bytes q)
    → (length (entries_at bytes more place) < more → is_small_open left (place + 2 * length (entries_at bytes more place)) ≡ false)
    → entries_at left more place ≡ entries_at bytes more place
entries_same bytes left more place same closed =
    entries_split bytes left more place same
    ∙ ap (λ es. entries_at bytes more place ++ es)
    (entries_closed left (more - length (entries_at bytes more place)) (place + 2 * length (entries_at bytes more place)) (λ some. closed (omega arith)))
    ∙ append-nil (entries_at bytes more place)

-- if it is open and the one after it is closed, one entry more
pub entries_added : (bytes left : List ℕ) (more place x : ℕ)
    → ((q : ℕ) → place ≤ q → q < place + 2 * length (entries_at bytes more place) → small_byte left q ≡ small_byte bytes q)
    → length (entries_at bytes more place) < more
    → is_small_open left (place + 2 * length (entries_at bytes more place)) ≡ true
    → small_byte left (place + 2 * length (entries_at bytes more place) + 1) ≡ x
    → is_small_open left (place + 2 * length (entries_at bytes more place) + 2) ≡ false
    → entries_at left more place ≡ entries_at bytes more place ++ HostIn 0 x ∷ []
entries_added bytes left more place x same room opened there closed =
    let gate = place + 2 * length (entries_at bytes more place) in
    let others = more - length (entries_at bytes more place) - 1 in
    entries_split bytes left more place same
    ∙ ap (λ n. entries_at bytes more place ++ entries_at left n gate) (omega arith)
    ∙ ap (λ es. entries_at bytes more place ++ es) (entries_open left others gate opened)
    ∙ ap (λ y. entries_at bytes more place ++ HostIn 0 y ∷ entries_at left others (gate + 2)) there
    ∙ ap (λ es. entries_at bytes more place ++ HostIn 0 x ∷ es) (entries_closed left others (gate + 2) (λ some. closed))

-- groups are read up to a closed gate
pub entries_end : (bytes : List ℕ) (more place : ℕ) → length (entries_at bytes more place) < more → is_small_open bytes (place + 2 * length (entries_at bytes more place)) ≡ false
entries_end bytes more place room = elim (cases_Bool (is_small_open bytes gate)) [ inr closed ↦ closed | inl opened ↦ absurd (too_many opened) ]
  where
    gate : ℕ
    gate = place + 2 * length (entries_at bytes more place)

    too_many : is_small_open bytes gate ≡ true → ⊥
    too_many opened =
        let others = more - length (entries_at bytes more place) - 1 in
        let whole = entries_split bytes bytes more place (λ q low high. refl) in
        let next : entries_at bytes (more - length (entries_at bytes more place)) gate ≡ HostIn 0 (small_byte bytes (gate + 1)) ∷ entries_at bytes others (gate + 2) =
        ap (λ n. entries_at bytes n gate) (omega arith) ∙ entries_open bytes others gate opened
        in
        omega (arith, ap length whole, length-append (entries_at bytes more place) (entries_at bytes (more - length (entries_at bytes more place)) gate), ap length next)

-- ## The current area

-- the two areas are side by side
pub places : (second : Bool) → ((begins second ≡ 0) × (begins (not second) ≡ 9)) ⊎ ((begins second ≡ 9) × (begins (not second) ≡ 0))
places false = inl (refl, refl)
places true = inr (refl, refl)

-- its gate is open
pub current_open : (bytes : List ℕ) (second : Bool) → current bytes ≡ Some second → is_small_open bytes (begins second) ≡ true
current_open bytes false is = go (is_small_open bytes 0) (is_small_open bytes 9) (nat_lt (small_byte bytes 1) (small_byte bytes 10)) is
  where
    go : (x y later : Bool) → current_of x y later ≡ Some false → x ≡ true
    go true y later e = refl
    go false true later e = cc
    go false false later e = cc
current_open bytes true is = go (is_small_open bytes 0) (is_small_open bytes 9) (nat_lt (small_byte bytes 1) (small_byte bytes 10)) is
  where
    go : (x y later : Bool) → current_of x y later ≡ Some true → y ≡ true
    go x true later e = refl
    go true false later e = cc
    go false false later e = cc

-- the only open one
pub current_alone : (bytes : List ℕ) (second : Bool) → is_small_open bytes (begins second) ≡ true → is_small_open bytes (begins (not second)) ≡ false → current bytes ≡ Some second
current_alone bytes false opened closed = λ i. current_of (opened i) (closed i) (nat_lt (small_byte bytes 1) (small_byte bytes 10))
current_alone bytes true opened closed = λ i. current_of (closed i) (opened i) (nat_lt (small_byte bytes 1) (small_byte bytes 10))

-- the one of higher generation
pub current_later : (bytes : List ℕ) (second : Bool) → is_small_open bytes (begins second) ≡ true → is_small_open bytes (begins (not second)) ≡ true
    → small_byte bytes (begins second + 1) < small_byte bytes (begins (not second) + 1) → current bytes ≡ Some (not second)
current_later bytes false own other later = λ i. current_of (own i) (other i) (lt-ltb (small_byte bytes 1) (small_byte bytes 10) later i)
current_later bytes true own other later = λ i. current_of (other i) (own i) (le-ltb (small_byte bytes 1) (small_byte bytes 10) (omega arith) i)

-- by equal gates and generations one area is chosen
pub current_same : (bytes left : List ℕ) (second : Bool)
    → is_small_open left (begins second) ≡ is_small_open bytes (begins second) → is_small_open left (begins (not second)) ≡ is_small_open bytes (begins (not second))
    → small_byte left (begins second + 1) ≡ small_byte bytes (begins second + 1) → small_byte left (begins (not second) + 1) ≡ small_byte bytes (begins (not second) + 1)
    → current left ≡ current bytes
current_same bytes left false own other age other_age = λ i. current_of (own i) (other i) (nat_lt (age i) (other_age i))
current_same bytes left true own other age other_age = λ i. current_of (other i) (own i) (nat_lt (other_age i) (age i))

-- ## The verdict

module _ {Node : Type 0} (M : Machine Node) (image : ℕ → Network Node) where
  pub record Verdict (bytes : List ℕ) (h : Held Node) : Type 0 where
    pub second : Bool
    pub size : length bytes ≡ 18
    pub is : current bytes ≡ Some second
    pub held : held_at image bytes (begins second) ≡ h
    pub last : Network Node
    pub possible : after M h.network h.entries ≡ Some last

  pub verdict_parts : (bytes : List ℕ) (h : Held Node) → small_verdict M image bytes ≡ Some h → Verdict bytes h
  unfolding small_verdict
  verdict_parts bytes h reads =
      let sized = cond_some (length bytes == 18) (current bytes >>= λ second. if_possible M (held_at image bytes (begins second))) h reads in
      let found = bind_some (current bytes) (λ second. if_possible M (held_at image bytes (begins second))) h sized.1 in
      let here = held_at image bytes (begins found.0) in
      let done = bind_some (after M here.network here.entries) (λ last. Some here) h found.2 in
      let same : held_at image bytes (begins found.0) ≡ h = let both = done.2 in cc in
      record {
        second = found.0;
        size = eqb-true (length bytes) 18 sized.0;
        is = found.1;
        held = same;
        last = done.0;
        possible = subst (λ k. after M k.network k.entries ≡ Some done.0) same done.1;
      }

  pub verdict_from : (bytes : List ℕ) (h : Held Node) → Verdict bytes h → small_verdict M image bytes ≡ Some h
  unfolding small_verdict
  verdict_from bytes h V =
      ap (λ b. cond b (current bytes >>= λ second. if_possible M (held_at image bytes (begins second))) None) (eq-eqb (length bytes) 18 V.size)
      ∙ ap (λ found. found >>= λ second. if_possible M (held_at image bytes (begins second))) V.is
      ∙ ap (if_possible M) V.held
      ∙ ap (λ done. done >>= λ last. Some h) V.possible
