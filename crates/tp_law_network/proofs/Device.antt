-- What the device holds at each position of the flusher, and what a crash may leave of it.
use Rattle.std.proofs.Common.{◌≡◌, ℕ, ◌+◌, ◌≤◌, ◌⊎◌, List, [], ◌∷◌, ◌++◌, length, refl, sym, ap, subst, ◌∙◌, arith, Some}
use Rattle.tp_law_network.proofs.Lower.{Entry, Machine, Moment, MayBe, Write, Sync, written, done, within, IsWithin, AreWithin, Areas, AreasHold, Held, with_more, gate_open, gate_closed, ArePossible}
use Rattle.tp_law_network.specs.Standing.{RestsBetweenGroups, Bodied, Readied, Gated, Clearing, Switching}
use Rattle.tp_law_network.proofs.Moments.{length-written, within_last, may_stand, may_be_written, write_may, synced_may, loose_may, loose_more}

module _ {Node : Type 0} (M : Machine Node) (A : Areas Node) (law : AreasHold M A) (h : Held Node) where
  -- ## Between groups

  pub rests_may : (disk : Moment) → RestsBetweenGroups A h disk → (left : List ℕ) → MayBe disk left → A.verdict left ≡ Some h
  rests_may disk r left may = (law.spare disk.bytes left h r.reads (loose_may disk (A.spare disk.bytes) left r.loose may)).0

  -- a piece is written after the other area's closed gate
  pub put_may : (disk : Moment) → RestsBetweenGroups A h disk → (at : ℕ) (bytes : List ℕ) → IsWithin (A.spare disk.bytes) (at, length bytes)
      → (left : List ℕ) → MayBe (within (Write at bytes) disk) left → (A.verdict left ≡ Some h) × (A.spare left ≡ A.spare disk.bytes)
  put_may disk r at bytes inside left may =
      law.spare disk.bytes left h r.reads
      (loose_may (within (Write at bytes) disk) (A.spare disk.bytes) left (within_last (A.spare disk.bytes) disk.unsynced (at, length bytes) r.loose inside) may)

  pub put_room : (disk : Moment) → RestsBetweenGroups A h disk → (at : ℕ) (bytes : List ℕ) → IsWithin (A.spare disk.bytes) (at, length bytes) → at + length bytes ≤ length disk.bytes
  put_room disk r at bytes inside = let room = law.spare_room disk.bytes h r.reads in let last = inside.1 in omega arith

  pub put_done : (disk : Moment) → RestsBetweenGroups A h disk → (at : ℕ) (bytes : List ℕ) → IsWithin (A.spare disk.bytes) (at, length bytes) → RestsBetweenGroups A h (done (Write at bytes) disk)
  put_done disk r at bytes inside =
      let after = put_may disk r at bytes inside (written disk.bytes at bytes) (may_be_written disk at bytes (put_room disk r at bytes inside)) in
      record {
        reads = after.0;
        loose = subst (λ range. AreWithin range (disk.unsynced ++ (at, length bytes) ∷ [])) (sym after.1)
            (within_last (A.spare disk.bytes) disk.unsynced (at, length bytes) r.loose inside);
      }

  pub rests_synced : (disk : Moment) → RestsBetweenGroups A h disk → RestsBetweenGroups A h (done Sync disk)
  rests_synced disk r = record { reads = r.reads; loose = tt }

  -- ## The other area's gate is written closed

  pub clear_within : (disk : Moment) → RestsBetweenGroups A h disk → (at : ℕ) → A.open_other disk.bytes ≡ Some at
      → (left : List ℕ) → MayBe (within (Write at gate_closed) disk) left → A.verdict left ≡ Some h
  clear_within disk r at was left may = law.clear disk.bytes left h at r.reads was (loose_more disk.bytes disk.unsynced (A.spare disk.bytes) (at, 1) left r.loose may)

  pub clear_written : (disk : Moment) → RestsBetweenGroups A h disk → (at : ℕ) → A.open_other disk.bytes ≡ Some at → Clearing A h (done (Write at gate_closed) disk)
  clear_written disk r at was = record { old = disk.bytes; ranges = disk.unsynced; place = at; reads = r.reads; loose = r.loose; other = was; is = refl }

  pub clear_may : (disk : Moment) → Clearing A h disk → (left : List ℕ) → MayBe disk left → A.verdict left ≡ Some h
  clear_may disk c left may =
      let before : Moment = record { bytes = c.old; unsynced = c.ranges } in
      clear_within before (record { reads = c.reads; loose = c.loose }) c.place c.other left
      (write_may before c.place gate_closed left (law.clear_room c.old h c.place c.reads c.other) (subst (λ m. MayBe m left) c.is may))

  pub clear_synced : (disk : Moment) → Clearing A h disk → RestsBetweenGroups A h (done Sync disk)
  clear_synced disk c = record { reads = clear_may disk c disk.bytes (may_stand disk); loose = tt }

  -- ## A group is written after its closed gate

  pub body_within : (disk : Moment) → RestsBetweenGroups A h disk → (place : ℕ) (es : List Entry) (body : List ℕ) → A.group disk.bytes es ≡ Some (place, body)
      → (left : List ℕ) → MayBe (within (Write (place + 1) body) disk) left → A.verdict left ≡ Some h
  body_within disk r place es body spelt left may =
      law.body disk.bytes left h es place body r.reads spelt (loose_more disk.bytes disk.unsynced (A.spare disk.bytes) (place + 1, length body) left r.loose may)

  pub body_written : (disk : Moment) → RestsBetweenGroups A h disk → (place : ℕ) (es : List Entry) (body : List ℕ) → A.group disk.bytes es ≡ Some (place, body)
      → Bodied A h (done (Write (place + 1) body) disk) place es
  body_written disk r place es body spelt = record { old = disk.bytes; ranges = disk.unsynced; body = body; reads = r.reads; loose = r.loose; group = spelt; is = refl }

  pub body_may : (disk : Moment) (place : ℕ) (es : List Entry) → Bodied A h disk place es → (left : List ℕ) → MayBe disk left → A.verdict left ≡ Some h
  body_may disk place es b left may =
      let before : Moment = record { bytes = b.old; unsynced = b.ranges } in
      body_within before (record { reads = b.reads; loose = b.loose }) place es b.body b.group left
      (write_may before (place + 1) b.body left (law.body_room b.old h es place b.body b.reads b.group) (subst (λ m. MayBe m left) b.is may))

  pub body_synced : (disk : Moment) (place : ℕ) (es : List Entry) → Bodied A h disk place es → Readied A h (done Sync disk) place es
  body_synced disk place es b = record { old = b.old; body = b.body; reads = b.reads; group = b.group; is = ap (done Sync) b.is }

  -- ## Its gate is written open

  pub ready_may : (disk : Moment) (place : ℕ) (es : List Entry) → Readied A h disk place es → (left : List ℕ) → MayBe disk left → A.verdict left ≡ Some h
  ready_may disk place es r left may =
      let before : Moment = record { bytes = r.old; unsynced = [] } in
      let stands = synced_may (written r.old (place + 1) r.body) left (subst (λ m. MayBe m left) r.is may) in
      body_within before (record { reads = r.reads; loose = tt }) place es r.body r.group left
      (subst (λ bytes. MayBe (within (Write (place + 1) r.body) before) bytes) (sym stands)
      (may_be_written before (place + 1) r.body (law.body_room r.old h es place r.body r.reads r.group)))

  pub gate_within : (disk : Moment) (place : ℕ) (es : List Entry) → Readied A h disk place es → ArePossible M h es
      → (left : List ℕ) → MayBe (within (Write place gate_open) disk) left → (A.verdict left ≡ Some h) ⊎ (A.verdict left ≡ Some (with_more h es))
  gate_within disk place es r possible left may =
      law.gate r.old left h es place r.body r.reads r.group possible (subst (λ m. MayBe (within (Write place gate_open) m) left) r.is may)

  pub gate_written : (disk : Moment) (place : ℕ) (es : List Entry) → Readied A h disk place es → Gated A h (done (Write place gate_open) disk) place es
  gate_written disk place es r = record { old = r.old; body = r.body; reads = r.reads; group = r.group; is = ap (done (Write place gate_open)) r.is }

  pub gate_may : (disk : Moment) (place : ℕ) (es : List Entry) → Gated A h disk place es → ArePossible M h es
      → (left : List ℕ) → MayBe disk left → (A.verdict left ≡ Some h) ⊎ (A.verdict left ≡ Some (with_more h es))
  gate_may disk place es g possible left may =
      let before : Moment = record { bytes = written g.old (place + 1) g.body; unsynced = [] } in
      let room = law.body_room g.old h es place g.body g.reads g.group in
      let size = length-written g.old (place + 1) g.body room in
      law.gate g.old left h es place g.body g.reads g.group possible
      (write_may before place gate_open left (omega arith) (subst (λ m. MayBe m left) g.is may))

  pub gate_synced : (disk : Moment) (place : ℕ) (es : List Entry) → Gated A h disk place es → ArePossible M h es → RestsBetweenGroups A (with_more h es) (done Sync disk)
  gate_synced disk place es g possible = record {
    reads = ap (λ m. A.verdict m.bytes) g.is ∙ law.added g.old h es place g.body g.reads g.group possible;
    loose = tt;
  }

  -- ## The other area's gate is written open

  pub switch_within : (disk : Moment) (copy : Held Node) → RestsBetweenGroups A h disk → (at : ℕ) → disk.unsynced ≡ [] → A.other disk.bytes ≡ Some (at, copy)
      → (left : List ℕ) → MayBe (within (Write at gate_open) disk) left → (A.verdict left ≡ Some h) ⊎ (A.verdict left ≡ Some copy)
  switch_within disk copy r at synced other left may =
      law.switch disk.bytes left h copy at r.reads other (subst (λ ranges. MayBe (record { bytes = disk.bytes; unsynced = ranges ++ (at, 1) ∷ [] }) left) synced may)

  pub switch_written : (disk : Moment) (copy : Held Node) → RestsBetweenGroups A h disk → (at : ℕ) → disk.unsynced ≡ [] → A.other disk.bytes ≡ Some (at, copy)
      → Switching A h (done (Write at gate_open) disk) copy
  switch_written disk copy r at synced other = record {
    old = disk.bytes;
    place = at;
    reads = r.reads;
    other = other;
    is = ap (λ ranges. record { bytes = written disk.bytes at gate_open; unsynced = ranges ++ (at, 1) ∷ [] }) synced;
  }

  pub switch_may : (disk : Moment) (copy : Held Node) → Switching A h disk copy → (left : List ℕ) → MayBe disk left → (A.verdict left ≡ Some h) ⊎ (A.verdict left ≡ Some copy)
  switch_may disk copy s left may =
      let before : Moment = record { bytes = s.old; unsynced = [] } in
      law.switch s.old left h copy s.place s.reads s.other
      (write_may before s.place gate_open left (law.switch_room s.old h copy s.place s.reads s.other) (subst (λ m. MayBe m left) s.is may))

  pub switch_synced : (disk : Moment) (copy : Held Node) → Switching A h disk copy → A.verdict disk.bytes ≡ Some copy
  switch_synced disk copy s = ap (λ m. A.verdict m.bytes) s.is ∙ law.switched s.old h copy s.place s.reads s.other
