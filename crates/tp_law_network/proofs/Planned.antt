-- Whatever a call of the store does to the device, done or broken, is a piece of a run.
use Rattle.std.proofs.Common.{◌≡◌, ℕ, ◌+◌, List, [], ◌∷◌, ◌++◌, length, drop, refl, sym, ap, subst, ◌∙◌, Option, Some, None, append-nil}
use Rattle.tp_law_network.proofs.Lower.{AllByRecursion, drop-append_seam, Entry, Machine, Moment, MayBe, Call, Write, Sync, Read, written, done, within, broken, IsWithin, State, all_done, moments_of, group_calls, clear_calls, put_calls, tail_calls, switch_calls, Areas, AreasHold, Held, gate_open, Position, Resting, Body, Tail, Opening, Opened, Broken, Allows, putting, looking, clearing, clear_done, add_body, body_done, add_gate, gate_done, tail_putting, tail_syncing, switching, switch_done, reached, left, World, Event, Does, Breaks, Chained, AreWalked}
use Rattle.tp_model.specs.Runs.{Run}
use Rattle.tp_law_network.specs.Standing.{RestsBetweenGroups}
use Rattle.tp_law_network.specs.Planned.{moved_on, ArePlanned, AreQuiet, calls_of, worlds_of, all_moved, all_does, group_plan, clear_plan, put_then, switch_plan}
use Rattle.tp_law_network.proofs.Moments.{may_be_written}
use Rattle.tp_law_network.proofs.Device.{put_may, put_room}
use Rattle.tp_law_network.proofs.Walks.{no_step, one_step, chained_from, disks}

-- ## All of a plan is done

module _ {Node : Type 0} (M : Machine Node) (A : Areas Node) where
  planned_chain : (w : World Node) (plan : List (Call × Position Node)) → ArePlanned A w plan → Chained M A w (worlds_of w plan) (all_moved w plan)
  planned_chain w [] planned = no_step M A w
  planned_chain w (step ∷ plan) planned =
      let u : World Node = moved_on w step.0 step.1 in
      (no_step M A w, chained_from M A w u (all_moved u plan) (worlds_of u plan) (one_step M A w u (Does step.0 step.1) refl (planned.0, refl)) (planned_chain u plan planned.1))

  pub planned_run : (w : World Node) (plan : List (Call × Position Node)) → ArePlanned A w plan → Run M A w (all_does plan) (all_moved w plan)
  planned_run w [] planned = refl
  planned_run w (step ∷ plan) planned = (moved_on w step.0 step.1, (planned.0, refl), planned_run (moved_on w step.0 step.1) plan planned.1)

  planned_disks : (w : World Node) (plan : List (Call × Position Node)) → disks M A (worlds_of w plan) ≡ moments_of (calls_of plan) w.disk
  planned_disks w [] = refl
  planned_disks w (step ∷ plan) = ap (λ ms. w.disk ∷ ms) (planned_disks (moved_on w step.0 step.1) plan)

  -- ## One of its calls breaks

  abbrev broken_off : World Node → List Call → Call → List ℕ → World Node
  broken_off u before call stands = record u { disk = broken call stands (all_done before u.disk); at = Broken }

  record BreaksOff (u : World Node) (before : List Call) (call : Call) (stands : List ℕ) : Type 0 where
    worlds : List (World Node)
    chain : Chained M A u worlds (broken_off u before call stands)
    moments : disks M A worlds ≡ moments_of (before ++ call ∷ []) u.disk

  breaks_off : (u : World Node) (plan : List (Call × Position Node)) → ArePlanned A u plan → AreQuiet u plan → (before : List Call) (call : Call) (after : List Call) (stands : List ℕ)
      → calls_of plan ≡ before ++ call ∷ after → MayBe (within call (all_done before u.disk)) stands → BreaksOff u before call stands
  breaks_off u [] planned quiet [] call after stands are may = cc
  breaks_off u [] planned quiet (c ∷ cs) call after stands are may = cc
  breaks_off u (step ∷ plan) planned quiet [] call after stands are may =
      let same : step.0 ≡ call = cc in
      record {
        worlds = u ∷ [];
        chain = (no_step M A u, one_step M A u (broken_off u [] call stands) (Breaks call step.1 stands) refl (subst (λ c. Allows A u.disk u.backlog u.at c step.1) same planned.0, may, refl));
        moments = refl;
      }
  breaks_off u (step ∷ []) planned quiet (c ∷ []) call after stands are may = cc
  breaks_off u (step ∷ []) planned quiet (c ∷ d ∷ cs) call after stands are may = cc
  breaks_off u (step ∷ next ∷ plan) planned quiet (c ∷ cs) call after stands are may =
      let same : step.0 ≡ c = cc in
      let more : calls_of (next ∷ plan) ≡ cs ++ call ∷ after = cc in
      let v : World Node = moved_on u step.0 step.1 in
      let there : all_done cs (done c u.disk) ≡ all_done cs (done step.0 u.disk) = ap (λ x. all_done cs (done x u.disk)) (sym same) in
      let R = breaks_off v (next ∷ plan) planned.1 quiet.2 cs call after stands more (subst (λ m. MayBe (within call m) stands) there may) in
      let end : broken_off v cs call stands ≡ broken_off u (c ∷ cs) call stands =
      ap (λ n. record u { disk = broken call stands (all_done cs (done step.0 u.disk)); at = Broken; stored = n; backlog = left u.at u.backlog }) quiet.0
      ∙ ap (λ b. record u { disk = broken call stands (all_done cs (done step.0 u.disk)); at = Broken; backlog = b }) quiet.1
      ∙ ap (λ m. record u { disk = broken call stands m; at = Broken }) (sym there) in
      record {
        worlds = u ∷ R.worlds;
        chain = (no_step M A u, chained_from M A u v (broken_off u (c ∷ cs) call stands) R.worlds (one_step M A u v (Does step.0 step.1) refl (planned.0, refl)) (subst (Chained M A v R.worlds) end R.chain));
        moments = ap (λ ms. u.disk ∷ ms) (R.moments ∙ ap (λ x. moments_of (cs ++ call ∷ []) (done x u.disk)) same);
      }

  -- Either way they are a piece of a run.
  plan_walks : (w v : World Node) (plan : List (Call × Position Node)) → ArePlanned A w plan → AreQuiet w plan → all_moved w plan ≡ record v { disk = all_done (calls_of plan) w.disk }
      → (old new : State) → w.disk ≡ old.now → AreWalked M A (calls_of plan) w v old new
  plan_walks w v plan planned quiet end old new was = record {
    done = λ called. record {
      worlds = worlds_of w plan;
      chain = subst (Chained M A w (worlds_of w plan)) (end ∙ ap (λ m. record v { disk = m }) (ap (all_done (calls_of plan)) was ∙ sym called.now)) (planned_chain w plan planned);
      past = called.past ∙ ap (λ m. old.past ++ moments_of (calls_of plan) m) (sym was) ∙ ap (λ ms. old.past ++ ms) (sym (planned_disks w plan));
      now = refl;
    };
    broken = λ broke.
        let B = broke.at in
        let R = breaks_off w plan planned quiet B.before B.call B.after B.left B.are (subst (λ m. MayBe (within B.call (all_done B.before m)) B.left) (sym was) B.may) in
        record {
          worlds = R.worlds;
          chain = subst (Chained M A w R.worlds) (ap (λ m. record w { disk = m; at = Broken }) (ap (λ m. broken B.call B.left (all_done B.before m)) was ∙ sym B.is)) R.chain;
          past = broke.past ∙ ap (λ m. old.past ++ moments_of (B.before ++ B.call ∷ []) m) (sym was) ∙ ap (λ ms. old.past ++ ms) (sym R.moments);
          now = refl;
        };
  }

  -- ## A group is appended

  pub group_walks : (w : World Node) (old new : State) (es more : List Entry) (gate : ℕ) (body : List ℕ) → w.at ≡ Resting → w.disk ≡ old.now → w.backlog ≡ es ++ more
      → A.group w.disk.bytes es ≡ Some (gate, body) → AreWalked M A (group_calls gate body) w (record w { stored = w.stored + length es; backlog = more }) old new
  group_walks w old new es more gate body rests was begins spelt =
      let r : reached w.at w.stored ≡ w.stored = ap (λ pos. reached pos w.stored) rests in
      let l : left w.at w.backlog ≡ w.backlog = ap (λ pos. left pos w.backlog) rests in
      let b : drop (length es) (left w.at w.backlog) ≡ more = ap (drop (length es)) (l ∙ begins) ∙ drop-append_seam es more in
      plan_walks w (record w { stored = w.stored + length es; backlog = more }) (group_plan gate body es) (
        subst (λ pos. Allows A w.disk w.backlog pos (Write (gate + 1) body) (Body gate es)) (sym rests) (add_body es more gate body begins spelt),
        (body_done es gate, (add_gate es gate, (gate_done es gate, tt))),
      ) (r, l, (refl, refl, (refl, refl, tt)))
      (λ i. record w { disk = all_done (group_calls gate body) w.disk; at = sym rests i; stored = r i + length es; backlog = b i })
      old new was

  -- ## The other area's gate is read, and closed

  pub clear_walks : (w : World Node) (old new : State) (gate : Option ℕ) → w.at ≡ Resting → w.disk ≡ old.now → A.open_other w.disk.bytes ≡ gate
      → AreWalked M A (clear_calls gate) w w old new
  clear_walks w old new None rests was other =
      let r : reached w.at w.stored ≡ w.stored = ap (λ pos. reached pos w.stored) rests in
      let l : left w.at w.backlog ≡ w.backlog = ap (λ pos. left pos w.backlog) rests in
      plan_walks w w (clear_plan None) (subst (λ pos. Allows A w.disk w.backlog pos Read Resting) (sym rests) looking, tt) tt
      (λ i. record w { disk = w.disk; at = sym rests i; stored = r i; backlog = l i }) old new was
  clear_walks w old new (Some gate) rests was other =
      let r : reached w.at w.stored ≡ w.stored = ap (λ pos. reached pos w.stored) rests in
      let l : left w.at w.backlog ≡ w.backlog = ap (λ pos. left pos w.backlog) rests in
      plan_walks w w (clear_plan (Some gate)) (
        subst (λ pos. Allows A w.disk w.backlog pos Read Resting) (sym rests) looking,
        (clearing gate other, (clear_done, tt)),
      ) (r, l, (refl, refl, tt))
      (λ i. record w { disk = all_done (clear_calls (Some gate)) w.disk; at = sym rests i; stored = r i; backlog = l i }) old new was

  -- ## Bytes are written after the other area's closed gate

  -- at a position in which the flusher stays, whatever it writes there
  record IsStill (pos : Position Node) : Type 0 where
    puts : (disk_ranges : List (ℕ × ℕ)) (bytes : List ℕ) (backlog : List Entry) (at : ℕ) (piece : List ℕ) → IsWithin (A.spare bytes) (at, length piece)
        → Allows A (record { bytes = bytes; unsynced = disk_ranges }) backlog pos (Write at piece) pos
    stored : (n : ℕ) → reached pos n ≡ n
    backlog : (es : List Entry) → left pos es ≡ es

  resting_still : IsStill Resting
  resting_still = record { puts = λ ranges bytes backlog at piece inside. putting at piece inside; stored = λ n. refl; backlog = λ es. refl }

  tail_still : (copy : Held Node) (upto : ℕ) → IsStill (Tail copy upto)
  tail_still copy upto = record { puts = λ ranges bytes backlog at piece inside. tail_putting copy upto at piece inside; stored = λ n. refl; backlog = λ es. refl }

  -- what follows a plan that stays at a position
  stays_moved : (pos : Position Node) → IsStill pos → (w : World Node) (plan : List (Call × Position Node)) → AllByRecursion (λ step. step.1 ≡ pos) plan → w.at ≡ pos
      → all_moved w plan ≡ record w { disk = all_done (calls_of plan) w.disk }
  stays_moved pos S w [] same at = refl
  stays_moved pos S w (step ∷ plan) same at =
      let r : reached w.at w.stored ≡ w.stored = ap (λ p. reached p w.stored) at ∙ S.stored w.stored in
      let l : left w.at w.backlog ≡ w.backlog = ap (λ p. left p w.backlog) at ∙ S.backlog w.backlog in
      let here : step.1 ≡ w.at = same.0 ∙ sym at in
      stays_moved pos S (moved_on w step.0 step.1) plan same.1 same.0
      ∙ (λ i. record w { disk = all_done (calls_of plan) (done step.0 w.disk); at = here i; stored = r i; backlog = l i })

  stays_quiet : (pos : Position Node) → IsStill pos → (w : World Node) (plan : List (Call × Position Node)) → AllByRecursion (λ step. step.1 ≡ pos) plan → w.at ≡ pos → AreQuiet w plan
  stays_quiet pos S w [] same at = tt
  stays_quiet pos S w (step ∷ []) same at = tt
  stays_quiet pos S w (step ∷ next ∷ plan) same at = (
    ap (λ p. reached p w.stored) at ∙ S.stored w.stored,
    ap (λ p. left p w.backlog) at ∙ S.backlog w.backlog,
    stays_quiet pos S (moved_on w step.0 step.1) (next ∷ plan) same.1 same.0,
  )

  put_stays : (pos : Position Node) (pieces : List (ℕ × List ℕ)) (last : List (Call × Position Node)) → AllByRecursion (λ step. step.1 ≡ pos) last → AllByRecursion (λ step. step.1 ≡ pos) (put_then pos pieces last)
  put_stays pos [] last all = all
  put_stays pos (piece ∷ pieces) last all = (refl, put_stays pos pieces last all)

  put_then_calls : (pos : Position Node) (pieces : List (ℕ × List ℕ)) (last : List (Call × Position Node)) → calls_of (put_then pos pieces last) ≡ put_calls pieces ++ calls_of last
  put_then_calls pos [] last = refl
  put_then_calls pos (piece ∷ pieces) last = ap (λ calls. Write piece.0 piece.1 ∷ calls) (put_then_calls pos pieces last)

  -- the pieces are after the other area's closed gate
  abbrev AreInside : ℕ × ℕ → List (ℕ × List ℕ) → Type 0
  AreInside spare pieces = AllByRecursion (λ piece. IsWithin spare (piece.0, length piece.1)) pieces

  module _ (law : AreasHold M A) (h : Held Node) (pos : Position Node) (S : IsStill pos) where
    -- a piece changes nothing of what is read
    put_reads : (bytes : List ℕ) → A.verdict bytes ≡ Some h → (at : ℕ) (piece : List ℕ) → IsWithin (A.spare bytes) (at, length piece)
        → (A.verdict (written bytes at piece) ≡ Some h) × (A.spare (written bytes at piece) ≡ A.spare bytes)
    put_reads bytes reads at piece inside =
        let m : Moment = record { bytes = bytes; unsynced = [] } in
        let r : RestsBetweenGroups A h m = record { reads = reads; loose = tt } in
        put_may M A law h m r at piece inside (written bytes at piece) (may_be_written m at piece (put_room M A law h m r at piece inside))

    put_planned : (w : World Node) (pieces : List (ℕ × List ℕ)) (last : List (Call × Position Node)) → ((u : World Node) → u.at ≡ pos → ArePlanned A u last)
        → w.at ≡ pos → A.verdict w.disk.bytes ≡ Some h → AreInside (A.spare w.disk.bytes) pieces → ArePlanned A w (put_then pos pieces last)
    put_planned w [] last then at reads inside = then w at
    put_planned w (piece ∷ pieces) last then at reads inside =
        let behind = put_reads w.disk.bytes reads piece.0 piece.1 inside.0 in (
          subst (λ p. Allows A w.disk w.backlog p (Write piece.0 piece.1) pos) (sym at) (S.puts w.disk.unsynced w.disk.bytes w.backlog piece.0 piece.1 inside.0),
          put_planned (moved_on w (Write piece.0 piece.1) pos) pieces last then refl behind.0 (subst (λ spare. AreInside spare pieces) (sym behind.1) inside.1),
        )

    put_then_walks : (w : World Node) (old new : State) (pieces : List (ℕ × List ℕ)) (last : List (Call × Position Node)) → ((u : World Node) → u.at ≡ pos → ArePlanned A u last)
        → AllByRecursion (λ step. step.1 ≡ pos) last → w.at ≡ pos → w.disk ≡ old.now → A.verdict w.disk.bytes ≡ Some h → AreInside (A.spare w.disk.bytes) pieces
        → AreWalked M A (put_calls pieces ++ calls_of last) w w old new
    put_then_walks w old new pieces last then all at was reads inside =
        let stay = put_stays pos pieces last all in
        subst (λ calls. AreWalked M A calls w w old new) (put_then_calls pos pieces last)
        (plan_walks w w (put_then pos pieces last) (put_planned w pieces last then at reads inside) (stays_quiet pos S w (put_then pos pieces last) stay at)
        (stays_moved pos S w (put_then pos pieces last) stay at) old new was)

    put_walks : (w : World Node) (old new : State) (pieces : List (ℕ × List ℕ)) → w.at ≡ pos → w.disk ≡ old.now → A.verdict w.disk.bytes ≡ Some h → AreInside (A.spare w.disk.bytes) pieces
        → AreWalked M A (put_calls pieces) w w old new
    put_walks w old new pieces at was reads inside =
        subst (λ calls. AreWalked M A calls w w old new) (append-nil (put_calls pieces)) (put_then_walks w old new pieces [] (λ u there. tt) tt at was reads inside)

  -- pieces of images, while the flusher rests
  pub pieces_walk : AreasHold M A → (w : World Node) (old new : State) (h : Held Node) (pieces : List (ℕ × List ℕ)) → w.at ≡ Resting → w.disk ≡ old.now
      → A.verdict w.disk.bytes ≡ Some h → AreInside (A.spare w.disk.bytes) pieces → AreWalked M A (put_calls pieces) w w old new
  pieces_walk law w old new h pieces = put_walks law h Resting resting_still w old new pieces

  -- the tail, once it is copied, and a sync
  pub tail_walks : AreasHold M A → (w : World Node) (old new : State) (h copy : Held Node) (upto : ℕ) (pieces : List (ℕ × List ℕ)) → w.at ≡ Tail copy upto → w.disk ≡ old.now
      → A.verdict w.disk.bytes ≡ Some h → AreInside (A.spare w.disk.bytes) pieces → AreWalked M A (tail_calls pieces) w w old new
  tail_walks law w old new h copy upto pieces =
      put_then_walks law h (Tail copy upto) (tail_still copy upto) w old new pieces ((Sync, Tail copy upto) ∷ [])
      (λ u there. (subst (λ pos. Allows A u.disk u.backlog pos Sync (Tail copy upto)) (sym there) (tail_syncing copy upto), tt)) (refl, tt)

  -- the events of this, and the world after them
  pub tail_run : AreasHold M A → (w : World Node) (h copy : Held Node) (upto : ℕ) (pieces : List (ℕ × List ℕ)) → w.at ≡ Tail copy upto
      → A.verdict w.disk.bytes ≡ Some h → AreInside (A.spare w.disk.bytes) pieces
      → (events : List (Event Node)) × Run M A w events (record w { disk = all_done (tail_calls pieces) w.disk })
  tail_run law w h copy upto pieces at reads inside =
      let pos : Position Node = Tail copy upto in
      let last : List (Call × Position Node) = (Sync, pos) ∷ [] in
      let S = tail_still copy upto in
      let plan = put_then pos pieces last in
      let planned = put_planned law h pos S w pieces last
      (λ u there. (subst (λ p. Allows A u.disk u.backlog p Sync pos) (sym there) (tail_syncing copy upto), tt)) at reads inside in
      let end : all_moved w plan ≡ record w { disk = all_done (tail_calls pieces) w.disk } =
      stays_moved pos S w plan (put_stays pos pieces last (refl, tt)) at ∙ ap (λ calls. record w { disk = all_done calls w.disk }) (put_then_calls pos pieces last) in
      (all_does plan, subst (λ (v : World Node). Run M A w (all_does plan) v) end (planned_run w plan planned))

  -- ## The areas are switched

  pub switch_walks : (w : World Node) (old new : State) (copy : Held Node) (upto gate : ℕ) → w.at ≡ Tail copy upto → w.disk ≡ old.now → w.disk.unsynced ≡ []
      → A.other w.disk.bytes ≡ Some (gate, copy) → AreWalked M A (switch_calls gate) w (record w { at = Opened copy upto; stored = upto }) old new
  switch_walks w old new copy upto gate at was synced other =
      let r : reached w.at w.stored ≡ w.stored = ap (λ pos. reached pos w.stored) at in
      let l : left w.at w.backlog ≡ w.backlog = ap (λ pos. left pos w.backlog) at in
      plan_walks w (record w { at = Opened copy upto; stored = upto }) (switch_plan gate copy upto) (
        subst (λ pos. Allows A w.disk w.backlog pos (Write gate gate_open) (Opening copy upto)) (sym at) (switching copy upto gate synced other),
        (switch_done copy upto, tt),
      ) (r, l, tt)
      (λ i. record w { disk = all_done (switch_calls gate) w.disk; at = Opened copy upto; stored = upto; backlog = l i })
      old new was
