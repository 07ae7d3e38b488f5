-- What is replayed is a history: the kept entries lead from the cut's network to the one that is there.
use Rattle.std.proofs.Common.{◌≡◌, ℕ, ◌+◌, ◌-◌, ◌≤◌, true, List, [], ◌∷◌, ◌++◌, length, map, refl, sym, ap, subst, ◌∙◌, arith, Option, Some, None}
use Rattle.std.specs.Prelude.{Result, Ok, nat_le, nat_lt, ◌&&◌}
use Rattle.tp_replay.proofs.Lower.{length-append, option_map, option_and_then, and_parts, leb-true, length-map, map-append, Entry, Form, OpenFault, NUMBER_LIMIT, Machine, Network, next, after, AreNumbered, is_of, entry_at, only_if, or_damaged, Replay, row_entry, with_entry, is_number, after_entry, after_row, after_rows, replay_from, all_append, map_some, cond_some, after_last}
use Rattle.tp_model.specs.Results.{◌>>=◌}
use Rattle.tp_replay.specs.History.{IsHistory}

-- ## Numbers

-- the least number that may follow them
abbrev behind : ℕ → List ℕ → ℕ
behind least [] = least
behind least (n ∷ ns) = behind (n + 1) ns

behind-last : (least : ℕ) (ns : List ℕ) (n : ℕ) → behind least (ns ++ n ∷ []) ≡ n + 1
behind-last least [] n = refl
behind-last least (x ∷ ns) n = behind-last (x + 1) ns n

numbered_last : (least most : ℕ) (ns : List ℕ) (n : ℕ) → AreNumbered least most ns → behind least ns ≤ n → n ≤ most + length ns → AreNumbered least most (ns ++ n ∷ [])
numbered_last least most [] n all low high = (low, omega arith, tt)
numbered_last least most (x ∷ ns) n all low high = (all.0, all.1, numbered_last (x + 1) (most + 1) ns n all.2 low (omega arith))

-- ## One entry more

-- if all rows are replayed, the first one is
replayed_first : {A B : Type 0} (place : ℕ) (o : Option A) (rest : A → Result B OpenFault) (last : B) → (or_damaged place o >>= rest) ≡ Ok last → (x : A) × (o ≡ Some x) × (rest x ≡ Ok last)
replayed_first place None rest last e = cc
replayed_first place (Some x) rest last e = (x, refl, e)

-- the area's form may hold what is read of a row
row_of : (form : Form) (row : List ℕ) (entry : Entry × ℕ) → row_entry form row ≡ Some entry → is_of form entry.0 ≡ true
row_of form row entry e = go (entry_at row) e
  where
    go : (read : Option (Entry × ℕ)) → only_if (λ x. is_of form x.0) read ≡ Some entry → is_of form entry.0 ≡ true
    go None e = cc
    go (Some x) e =
        let C = cond_some (is_of form x.0) (Some x) entry e in
        let same : x ≡ entry = let both = C.1 in cc in
        subst (λ (x : Entry × ℕ). is_of form x.0 ≡ true) same C.0

module _ {Node : Type 0} (M : Machine Node) (form : Form) (start : Network Node) (base : ℕ) where
  -- with the least number that may follow
  record Leads (r : Replay Node) : Type 0 where
    history : IsHistory M form start base r
    least : r.least ≡ behind 0 (map (λ e. e.1) r.kept)

  leads_entry : (r : Replay Node) (entry : Entry × ℕ) (t : Network Node) → Leads r → is_of form entry.0 ≡ true → is_number r entry.1 ≡ true → next M r.now entry.0 ≡ Some t
      → Leads (with_entry r entry t)
  leads_entry r entry t L held number step =
      let parts = and_parts (nat_le r.least entry.1) (nat_le entry.1 r.next && nat_lt r.next (NUMBER_LIMIT - 1)) number in
      let last = and_parts (nat_le entry.1 r.next) (nat_lt r.next (NUMBER_LIMIT - 1)) parts.1 in
      let low : r.least ≤ entry.1 = leb-true r.least entry.1 parts.0 in
      let high : entry.1 ≤ r.next = leb-true entry.1 r.next last.0 in
      record {
        history = record {
          leads = ap (after M start) (map-append (λ e. e.0) r.kept (entry ∷ [])) ∙ after_last M start r.now (map (λ e. e.0) r.kept) entry.0 L.history.leads ∙ step;
          numbered = rw (map-append (λ e. e.1) r.kept (entry ∷ [])) (numbered_last 0 base (map (λ e. e.1) r.kept) entry.1 L.history.numbered (omega (arith, L.least, low)) (omega (arith, high, L.history.next, length-map r.kept (λ e. e.1))));
          next = omega (arith, L.history.next, length-append r.kept (entry ∷ []));
          form_is = L.history.form_is;
          of_form = all_append (λ (e : Entry × ℕ). is_of form e.0 ≡ true) r.kept (entry ∷ []) L.history.of_form (held, tt);
        };
        least = sym (ap (behind 0) (map-append (λ e. e.1) r.kept (entry ∷ [])) ∙ behind-last 0 (map (λ e. e.1) r.kept) entry.1);
      }

  leads_row : (r after : Replay Node) (row : List ℕ) → Leads r → after_row M r row ≡ Some after → Leads after
  leads_row r after row L e = go (row_entry r.form row) (λ entry read. subst (λ given. is_of given entry.0 ≡ true) L.history.form_is (row_of r.form row entry read)) e
    where
      go : (o : Option (Entry × ℕ)) → ((entry : Entry × ℕ) → o ≡ Some entry → is_of form entry.0 ≡ true) → option_and_then (after_entry M r) o ≡ Some after → Leads after
      go None held e = cc
      go (Some entry) held e =
          let C = cond_some (is_number r entry.1) (option_map (with_entry r entry) (next M r.now entry.0)) after e in
          let S = map_some (with_entry r entry) (next M r.now entry.0) after C.1 in
          subst Leads S.2 (leads_entry r entry S.0 L (held entry refl) C.0 S.1)

  leads_rows : (r last : Replay Node) (rows : List (ℕ × List ℕ)) → Leads r → after_rows M r rows ≡ Ok last → Leads last
  unfolding after_rows
  leads_rows r last [] L e = let same : r ≡ last = cc in subst Leads same L
  leads_rows r last (row ∷ rows) L e =
      let A = replayed_first row.0 (after_row M r row.1) (λ more. after_rows M more rows) last e in
      leads_rows A.0 last rows (leads_row r A.0 row.1 L A.1) A.2

  pub history_of : (last : Replay Node) (rows : List (ℕ × List ℕ)) → after_rows M (replay_from form start base) rows ≡ Ok last → IsHistory M form start base last
  unfolding after
  history_of last rows e =
      (leads_rows (replay_from form start base) last rows (record { history = record { leads = refl; numbered = tt; next = omega arith; form_is = refl; of_form = tt }; least = refl }) e).history
