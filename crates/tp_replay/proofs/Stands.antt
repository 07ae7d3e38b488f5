-- What a turn takes is at the front of its lines exactly if it is link by link: links have lines of their own.
use Rattle.std.proofs.Common.{◌≡◌, ◌≢◌, ℕ, ◌+◌, ◌*◌, ◌<◌, ◌≤◌, true, inl, inr, List, [], ◌∷◌, ◌++◌, length, map, drop, get_or, refl, sym, ap, subst, ◌∙◌, arith, add-one, drop-cons, append_assoc, Option, Some, None}
use Rattle.std.specs.Prelude.{Bool, ◌&&◌, is_some}
use Rattle.tp_replay.proofs.Lower.{both_ways, AllByRecursion, and_parts, and_from, cases_eq, true≢false, length-append, length-map, Token, Received, Nothing, JustData, JustAck, DataThenAck, AckThenData, WireEnd, Link, receiver, on_line, is_first, taken, for_line, received, by_link, by_line, incoming, is_link, comes_in, first_is, is_first-cons, for_line-here, for_line-other, for_line-append, taken_from, on_taken, link_is, comes_first, all_append}
use Rattle.tp_replay.specs.Stands.{starts_with, link_stands}

-- ## One line

starts_of : (line ts : List Token) → starts_with line ts ≡ true → (rest : List Token) × (line ≡ ts ++ rest)
starts_of line [] e = (line, refl)
starts_of line (t ∷ ts) e =
    let both = and_parts (is_first line t) (starts_with (drop 1 line) ts) e in
    let R = starts_of (drop 1 line) ts both.1 in
    (R.0, first_is line t both.0 ∙ ap (λ us. t ∷ us) R.1)

starts_from : (line ts rest : List Token) → line ≡ ts ++ rest → starts_with line ts ≡ true
starts_from line [] rest e = refl
starts_from line (t ∷ ts) rest e =
    and_from (is_first line t) (starts_with (drop 1 line) ts) (is_first-cons line t (ts ++ rest) e) (starts_from (drop 1 line) ts rest (ap (drop 1) e))

-- tokens that are all on one line
here_all : (l : ℕ) (ts : List Token) → for_line l (map (λ t. (l, t)) ts) ≡ ts
here_all l [] = refl
here_all l (t ∷ ts) = for_line-here l t (map (λ u. (l, u)) ts) ∙ ap (λ us. t ∷ us) (here_all l ts)

other_all : (k l : ℕ) (ts : List Token) → k ≢ l → for_line l (map (λ t. (k, t)) ts) ≡ []
other_all k l [] h = refl
other_all k l (t ∷ ts) h = for_line-other k l t (map (λ u. (k, u)) ts) h ∙ other_all k l ts h

-- ## One link

-- links from k on aren't j
links_one : (j k : ℕ) (ts : List Token) → k ≢ j → AllByRecursion (λ (m : ℕ × Token). m.0 ≢ j) (map (λ t. (k, t)) ts)
links_one j k [] h = tt
links_one j k (t ∷ ts) h = (h, links_one j k ts h)

links_above : (j k : ℕ) (links : List Received) → j < k → AllByRecursion (λ (m : ℕ × Token). m.0 ≢ j) (by_link k links)
links_above j k [] h = tt
links_above j k (one ∷ more) h =
    all_append (λ (m : ℕ × Token). m.0 ≢ j) (map (λ t. (k, t)) (received one)) (by_link (k + 1) more) (links_one j k (received one) (λ same. omega (arith, h, same))) (links_above j (k + 1) more (omega (arith, h)))

module _ (wires : List (Option WireEnd)) (N i : ℕ) where
  -- what came in on other links isn't on the line of this one
  no_other : (k : ℕ) (ms : List (ℕ × Token)) → comes_in wires N i ms ≡ true → AllByRecursion (λ (m : ℕ × Token). m.0 ≢ k) ms → (l : ℕ) → receiver wires l ≡ Some (Link i k) → for_line l (by_line wires N i ms) ≡ []
  no_other k [] into all l end = refl
  no_other k (m ∷ ms) into all l end =
      let C = comes_first wires N i m ms into in
      for_line-other (incoming wires N i m.0) l m.1 (by_line wires N i ms)
      (λ same.
      let ends : Some (Link i m.0) ≡ Some (Link i k) = sym C.0 ∙ ap (receiver wires) same ∙ end in
      let link : m.0 ≡ k = cc in
      all.0 link)
      ∙ no_other k ms C.1 all.1 l end

  by_line-one : (k : ℕ) (ts : List Token) (ms : List (ℕ × Token)) → by_line wires N i (map (λ t. (k, t)) ts ++ ms) ≡ map (λ t. (incoming wires N i k, t)) ts ++ by_line wires N i ms
  by_line-one k [] ms = refl
  by_line-one k (t ∷ ts) ms = ap (λ us. (incoming wires N i k, t) ∷ us) (by_line-one k ts ms)

  split : (l k : ℕ) (ts : List Token) (ms : List (ℕ × Token))
      → for_line l (by_line wires N i (map (λ t. (k, t)) ts ++ ms)) ≡ for_line l (map (λ t. (incoming wires N i k, t)) ts) ++ for_line l (by_line wires N i ms)
  split l k ts ms = ap (for_line l) (by_line-one k ts ms) ∙ for_line-append l (map (λ t. (incoming wires N i k, t)) ts) (by_line wires N i ms)

  linked_into : (k : ℕ) (ts : List Token) (ms : List (ℕ × Token)) → is_link i k (receiver wires (incoming wires N i k)) ≡ true → comes_in wires N i ms ≡ true → comes_in wires N i (map (λ t. (k, t)) ts ++ ms) ≡ true
  linked_into k [] ms link into = into
  linked_into k (t ∷ ts) ms link into =
      and_from (is_link i k (receiver wires (incoming wires N i k))) (comes_in wires N i (map (λ u. (k, u)) ts ++ ms)) link (linked_into k ts ms link into)

  into_behind : (k : ℕ) (ts : List Token) (ms : List (ℕ × Token)) → comes_in wires N i (map (λ t. (k, t)) ts ++ ms) ≡ true → comes_in wires N i ms ≡ true
  into_behind k [] ms into = into
  into_behind k (t ∷ ts) ms into = into_behind k ts ms (and_parts (is_link i k (receiver wires (incoming wires N i k))) (comes_in wires N i (map (λ u. (k, u)) ts ++ ms)) into).1

  module _ (lines : List (List Token)) where
    -- the tokens of each line are its first ones
    abbrev HasFronts : List (ℕ × Token) → Type 0
    HasFronts ms = (l : ℕ) → (rest : List Token) × (on_line lines l ≡ for_line l (by_line wires N i ms) ++ rest)

    -- what came in on link k and later ones is at the front, if it is for link k and for the later ones
    fronts_with : (k : ℕ) (ts : List Token) (ms : List (ℕ × Token)) → comes_in wires N i ms ≡ true → AllByRecursion (λ (m : ℕ × Token). m.0 ≢ k) ms → link_stands wires N lines i k ts ≡ true → HasFronts ms
        → HasFronts (map (λ t. (k, t)) ts ++ ms)
    fronts_with k [] ms into other stands behind l = behind l
    fronts_with k (t ∷ ts) ms into other stands behind l =
        let line = incoming wires N i k in
        let parts = and_parts (is_link i k (receiver wires line)) (starts_with (on_line lines line) (t ∷ ts)) stands in
        elim (cases_eq line l) [
          | inl same ↦
              let S = starts_of (on_line lines line) (t ∷ ts) parts.1 in
              let none = no_other k ms into other line (link_is i k (receiver wires line) parts.0) in
              let mine : for_line line (by_line wires N i (map (λ u. (k, u)) (t ∷ ts) ++ ms)) ≡ (t ∷ ts) ++ [] =
              split line k (t ∷ ts) ms ∙ ap (λ us. us ++ for_line line (by_line wires N i ms)) (here_all line (t ∷ ts)) ∙ ap (λ us. (t ∷ ts) ++ us) none in
              subst (λ m. (rest : List Token) × (on_line lines m ≡ for_line m (by_line wires N i (map (λ u. (k, u)) (t ∷ ts) ++ ms)) ++ rest)) same
              (S.0, S.1 ∙ sym (ap (λ us. us ++ S.0) mine ∙ append_assoc (t ∷ ts) [] S.0))
          | inr apart ↦
              let rest = behind l in
              (rest.0, rest.1 ∙ sym (ap (λ us. us ++ rest.0) (split l k (t ∷ ts) ms ∙ ap (λ us. us ++ for_line l (by_line wires N i ms)) (other_all line l (t ∷ ts) apart))))
        ]

    stands_from : (k : ℕ) (ts : List Token) (ms : List (ℕ × Token)) → comes_in wires N i (map (λ t. (k, t)) ts ++ ms) ≡ true → HasFronts (map (λ t. (k, t)) ts ++ ms) → link_stands wires N lines i k ts ≡ true
    stands_from k [] ms into front = refl
    stands_from k (t ∷ ts) ms into front =
        let line = incoming wires N i k in
        let first = front line in
        let mine = split line k (t ∷ ts) ms ∙ ap (λ us. us ++ for_line line (by_line wires N i ms)) (here_all line (t ∷ ts)) in
        and_from (is_link i k (receiver wires line)) (starts_with (on_line lines line) (t ∷ ts))
        (and_parts (is_link i k (receiver wires line)) (comes_in wires N i (map (λ u. (k, u)) ts ++ ms)) into).0
        (starts_from (on_line lines line) (t ∷ ts) (for_line line (by_line wires N i ms) ++ first.0) (first.1 ∙ ap (λ us. us ++ first.0) mine ∙ append_assoc (t ∷ ts) (for_line line (by_line wires N i ms)) first.0))

    fronts_behind : (k : ℕ) (ts : List Token) (ms : List (ℕ × Token)) → comes_in wires N i (map (λ t. (k, t)) ts ++ ms) ≡ true → AllByRecursion (λ (m : ℕ × Token). m.0 ≢ k) ms → HasFronts (map (λ t. (k, t)) ts ++ ms) → HasFronts ms
    fronts_behind k [] ms into other front l = front l
    fronts_behind k (t ∷ ts) ms into other front l =
        let line = incoming wires N i k in
        let linked = (and_parts (is_link i k (receiver wires line)) (comes_in wires N i (map (λ u. (k, u)) ts ++ ms)) into).0 in
        elim (cases_eq line l) [
          | inl same ↦
              let none = no_other k ms (into_behind k (t ∷ ts) ms into) other l (ap (receiver wires) (sym same) ∙ link_is i k (receiver wires line) linked) in
              (on_line lines l, sym (ap (λ us. us ++ on_line lines l) none))
          | inr apart ↦
              let rest = front l in
              (rest.0, rest.1 ∙ ap (λ us. us ++ rest.0) (split l k (t ∷ ts) ms ∙ ap (λ us. us ++ for_line l (by_line wires N i ms)) (other_all line l (t ∷ ts) apart)))
        ]

    -- ## All links

    -- link by link, from link k on
    abbrev pub all_stand : ℕ → List Received → Bool
    all_stand k [] = true
    all_stand k (one ∷ more) = link_stands wires N lines i k (received one) && all_stand (k + 1) more

    stand_into : (k : ℕ) (links : List Received) → all_stand k links ≡ true → comes_in wires N i (by_link k links) ≡ true
    stand_into k [] e = refl
    stand_into k (one ∷ more) e =
        let both = and_parts (link_stands wires N lines i k (received one)) (all_stand (k + 1) more) e in
        go (received one) both.0 (stand_into (k + 1) more both.1)
      where
        go : (ts : List Token) → link_stands wires N lines i k ts ≡ true → comes_in wires N i (by_link (k + 1) more) ≡ true → comes_in wires N i (map (λ t. (k, t)) ts ++ by_link (k + 1) more) ≡ true
        go [] stands into = into
        go (t ∷ ts) stands into =
            linked_into k (t ∷ ts) (by_link (k + 1) more)
            (and_parts (is_link i k (receiver wires (incoming wires N i k))) (starts_with (on_line lines (incoming wires N i k)) (t ∷ ts)) stands).0 into

    stand_fronts : (k : ℕ) (links : List Received) → all_stand k links ≡ true → HasFronts (by_link k links)
    stand_fronts k [] e = λ l. (on_line lines l, refl)
    stand_fronts k (one ∷ more) e =
        let both = and_parts (link_stands wires N lines i k (received one)) (all_stand (k + 1) more) e in
        fronts_with k (received one) (by_link (k + 1) more) (stand_into (k + 1) more both.1) (links_above k (k + 1) more (omega arith)) both.0 (stand_fronts (k + 1) more both.1)

    fronts_stand : (k : ℕ) (links : List Received) → comes_in wires N i (by_link k links) ≡ true → HasFronts (by_link k links) → all_stand k links ≡ true
    fronts_stand k [] into front = refl
    fronts_stand k (one ∷ more) into front =
        and_from (link_stands wires N lines i k (received one)) (all_stand (k + 1) more)
        (stands_from k (received one) (by_link (k + 1) more) into front)
        (fronts_stand (k + 1) more (into_behind k (received one) (by_link (k + 1) more) into)
        (fronts_behind k (received one) (by_link (k + 1) more) into (links_above k (k + 1) more (omega arith)) front))

    -- So it does for all of them at once.
    pub stand_is : (links : List Received) → all_stand 0 links ≡ (comes_in wires N i (by_link 0 links) && is_some (taken lines (by_line wires N i (by_link 0 links))))
    stand_is links =
        both_ways (all_stand 0 links) (comes_in wires N i (by_link 0 links) && is_some (taken lines (by_line wires N i (by_link 0 links))))
        (λ e. and_from (comes_in wires N i (by_link 0 links)) (is_some (taken lines (by_line wires N i (by_link 0 links)))) (stand_into 0 links e)
        (ap is_some (taken_from lines (by_line wires N i (by_link 0 links)) (stand_fronts 0 links e)).1))
        (λ e.
        let both = and_parts (comes_in wires N i (by_link 0 links)) (is_some (taken lines (by_line wires N i (by_link 0 links)))) e in
        fronts_stand 0 links both.0 (fronts (taken lines (by_line wires N i (by_link 0 links))) refl both.1))
      where
        fronts : (o : Option (List (List Token))) → taken lines (by_line wires N i (by_link 0 links)) ≡ o → is_some o ≡ true → HasFronts (by_link 0 links)
        fronts None e some = absurd (true≢false (sym some))
        fronts (Some out) e some = λ l. (on_line out l, on_taken lines (by_line wires N i (by_link 0 links)) out e l)

    -- ## One link after the other

    pub stand_from : (links : List Received) (k : ℕ) → k < length links → all_stand k (drop k links) ≡ (link_stands wires N lines i k (received (get_or links k Nothing)) && all_stand (k + 1) (drop (k + 1) links))
    stand_from links k below = ap (all_stand k) (drop-cons links k Nothing below ∙ ap (λ n. get_or links k Nothing ∷ drop n links) (sym (add-one k)))
