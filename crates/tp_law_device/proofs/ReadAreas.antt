-- A device that opens is spelt as opening says.
use Rattle.std.proofs.Common.{◌≡◌, ℕ, ◌+◌, ◌-◌, ◌^◌, ◌<◌, ◌≤◌, ◌⊎◌, inl, inr, Bool, true, false, not, cond, List, ◌∷◌, ◌++◌, length, drop, refl, sym, ap, subst, ◌∙◌, arith, length-drop, Ok, Err}
use Rattle.std.specs.Prelude.{◌==◌, nat_lt, map}
use Rattle.tp_law_device.proofs.Lower.{and_parts, cases_Bool, ltb-true, HeadVersion, TwoAreas, Entry, AreNumbered, Damaged, NUMBER_LIMIT, u32_at, NodeState, Machine, after, EndsSeen, line_count, cut_length, AreOf, area_start, content_of, generation_of, Head, head_at, replay_from, front_bytes, entries_in, SpellsArea, DeviceSpells, Opened, base_field, base_of, groups_place, choice, chosen_area, opening, AreBytes, are_bytes-take, are_bytes-drop}
use Rattle.tp_law_device.proofs.Heads.{head_first, head_parts, wires_count}
use Rattle.tp_law_device.proofs.Forms.{base_below}
use Rattle.tp_law_device.proofs.Listings.{listing_ends}
use Rattle.tp_law_device.proofs.Chosen.{open_in, age_in, chosen_open}
use Rattle.tp_law_device.proofs.AreaReads.{AreaParts, area_parts, groups_at, groups_in}
use Rattle.tp_law_device.proofs.ReadCuts.{u64_below, cut_read}
use Rattle.tp_law_device.proofs.ReadGroups.{groups_read, entries_read, grouped}
use Rattle.tp_law_device.proofs.SpeltAreas.{end_of_groups}
use Rattle.tp_law_device.proofs.Opens.{reads_of}

-- ## The other area

-- it is closed, or of lower generation
choice_first : (at : ℕ) (x y : Bool) (first second : ℕ) → choice at x y first second ≡ Ok false → (y ≡ false) ⊎ (second < first)
choice_first at true false first second is = inl refl
choice_first at false true first second is = cc
choice_first at false false first second is = cc
choice_first at true true first second is = elim (cases_Bool (nat_lt second first)) [
  | inl lower ↦ inr (ltb-true second first lower)
  | inr higher ↦ absurd (not_taken (nat_lt second first) (nat_lt first second) higher is)
]
  where
    not_taken : (b c : Bool) → b ≡ false → cond b (Ok false) (cond c (Ok true) (Err (Damaged at))) ≡ Ok false → ⊥
    not_taken true c h e = absurd (cc)
    not_taken false true h e = absurd (cc)
    not_taken false false h e = absurd (cc)

choice_second : (at : ℕ) (x y : Bool) (first second : ℕ) → choice at x y first second ≡ Ok true → (x ≡ false) ⊎ (first < second)
choice_second at true false first second is = cc
choice_second at false true first second is = inl refl
choice_second at false false first second is = cc
choice_second at true true first second is = elim (cases_Bool (nat_lt first second)) [
  | inl lower ↦ inr (ltb-true first second lower)
  | inr higher ↦ absurd (not_taken (nat_lt second first) (nat_lt first second) higher is)
]
  where
    not_taken : (b c : Bool) → c ≡ false → cond b (Ok false) (cond c (Ok true) (Err (Damaged at))) ≡ Ok true → ⊥
    not_taken true c h e = absurd (cc)
    not_taken false true h e = absurd (cc)
    not_taken false false h e = absurd (cc)

chosen_over : (areas : TwoAreas) (bytes : List ℕ) (second : Bool) → chosen_area areas bytes ≡ Ok second → (open_in areas bytes (not second) ≡ false) ⊎ (age_in areas bytes (not second) < age_in areas bytes second)
unfolding chosen_area
chosen_over areas bytes false is = choice_first (area_start areas true) (open_in areas bytes false) (open_in areas bytes true) (age_in areas bytes false) (age_in areas bytes true) is
chosen_over areas bytes true is = choice_second (area_start areas true) (open_in areas bytes false) (open_in areas bytes true) (age_in areas bytes false) (age_in areas bytes true) is

-- ## The area that is taken

-- what is spelt in it
record AreaSpelt (M : Machine NodeState) (E : EndsSeen NodeState) (head : Head) (second : Bool) (content : List ℕ) (o : Opened) : Type 0 where
  groups : List (List (Entry × ℕ))
  spells : SpellsArea M E head.topology content o.generation o.form o.base o.cut groups o.now
  kept : entries_in groups ≡ o.kept
  end : o.end ≡ end_of_groups head second groups

area_read : (M : Machine NodeState) (E : EndsSeen NodeState) (head : Head) (second : Bool) (content : List ℕ) (o : Opened) → length head.topology.wires ≡ line_count head.topology
    → AreBytes content → AreaParts M E head second content o → AreaSpelt M E head second content o
area_read M E head second content o wires h A =
    let t = head.topology in
    let at = groups_at head second in
    let behind = drop (groups_place t) content in
    let gate = listing_ends 0 at behind A.closed in
    let room : 20 ≤ length content = omega (arith, gate.within, length-drop (groups_place t) content) in
    let C = cut_read E t (area_start head.areas second + 1) content A.form A.cut wires h room A.form_is A.front A.cut_is in
    let G = groups_read 0 at behind A.closed in
    let V = entries_read M (replay_from A.form A.cut (base_of content)) A.replay (groups_in head second content).rows A.leads in
    let D = grouped G.groups V.entries G.each V.spelt (V.rows_are ∙ G.rows) in
    let age : generation_of content ≡ o.generation = ap (λ (p : Opened). p.generation) A.is in
    let form : A.form ≡ o.form = ap (λ (p : Opened). p.form) A.is in
    let base : base_of content ≡ o.base = ap (λ (p : Opened). p.base) A.is in
    let cut : A.cut ≡ o.cut = ap (λ (p : Opened). p.cut) A.is in
    let kept : A.replay.kept ≡ o.kept = ap (λ (p : Opened). p.kept) A.is in
    let now : A.replay.now ≡ o.now = ap (λ (p : Opened). p.now) A.is in
    let end : (groups_in head second content).end ≡ o.end = ap (λ (p : Opened). p.end) A.is in
    let tests = and_parts (u32_at content 8 == cut_length t) (nat_lt (generation_of content) NUMBER_LIMIT) A.front in
    let base_low = base_below (base_field content) in
    let here : SpellsArea M E t content (generation_of content) A.form (base_of content) A.cut D.in_groups A.replay.now = record {
      gate = G.gate;
      rest = G.rest;
      shut = G.shut;
      spelled = C.are ∙ ap (λ zs. front_bytes t (generation_of content) A.form (base_of content) A.cut ++ zs) (G.are ∙ ap (λ zs. zs ++ G.gate ∷ G.rest) (sym D.bytes));
      generation_fits = ltb-true (generation_of content) NUMBER_LIMIT tests.1;
      cut = C.cut;
      each = D.each;
      of_form = subst (AreOf A.form) (sym D.are) V.of_form;
      numbers = subst (λ es. AreNumbered 0 (base_of content) (map (λ e. e.1) es)) (sym D.are) V.numbers;
      last = (let most = V.last (omega arith) in let same = ap length D.are in omega arith);
      leads = ap (λ es. after M A.cut (map (λ e. e.0) es)) D.are ∙ V.leads;
    } in
    let size = ap length D.bytes in
    record {
      groups = D.in_groups;
      spells = subst (λ g. SpellsArea M E t content g o.form o.base o.cut D.in_groups o.now) age
          (subst (λ f. SpellsArea M E t content (generation_of content) f o.base o.cut D.in_groups o.now) form
          (subst (λ b. SpellsArea M E t content (generation_of content) A.form b o.cut D.in_groups o.now) base
          (subst (λ s. SpellsArea M E t content (generation_of content) A.form (base_of content) s D.in_groups o.now) cut
          (subst (λ n. SpellsArea M E t content (generation_of content) A.form (base_of content) A.cut D.in_groups n) now here))));
      kept = D.are ∙ sym V.kept ∙ kept;
      end = sym end ∙ G.end ∙ omega arith;
    }

-- ## The device

area_below : (version : HeadVersion) (bytes : List ℕ) (head : Head) → AreBytes bytes → head_at version bytes ≡ head → head.areas.length < 2 ^ 64
unfolding head_at
area_below version bytes head h is = subst (λ (p : Head). p.areas.length < 2 ^ 64) is (u64_below bytes 16 h)

pub opens_stand : (M : Machine NodeState) (E : EndsSeen NodeState) (bytes : List ℕ) (o : Opened) → AreBytes bytes → opening M E bytes ≡ Ok o → DeviceSpells M E bytes o
opens_stand M E bytes o h is =
    let R = reads_of M E bytes o is in
    let H = head_parts bytes o.head R.head in
    let areas = o.head.areas in
    let content = content_of areas o.second bytes in
    let A = area_parts M E o.head o.second content o R.area in
    let age : age_in areas bytes o.second ≡ o.generation = ap (λ (p : Opened). p.generation) A.is in
    let S = area_read M E o.head o.second content o (wires_count o.head.topology H.topology) (are_bytes-take (areas.length - 1) (drop (area_start areas o.second + 1) bytes) (are_bytes-drop (area_start areas o.second + 1) bytes h)) A in
    record {
      starts = head_first bytes o.head R.head;
      head = H.front;
      topology = H.topology;
      limits = H.limits;
      room = H.room;
      area_fits = area_below o.head.version bytes o.head h H.read;
      gate = chosen_open areas bytes o.second R.chosen;
      groups = S.groups;
      spells = S.spells;
      kept = S.kept;
      end = S.end;
      first = elim (chosen_over areas bytes o.second R.chosen) [ inl closed ↦ inl closed | inr lower ↦ inr (omega (arith, age)) ];
    }
