-- A node's turn in its stages.
use Rattle.std.proofs.Common.{◌≡◌, ℕ, zero, suc, true, false, cond, inl, inr, List, [], ◌∷◌, set, get_or, refl, sym, ap, subst, ◌∙◌, Some, None, slice_get, eq-eqb, ne_eqb, length, map}
use Rattle.std.specs.Prelude.{Err}
use Rattle.tp_turn.proofs.Lower.{AllByRecursion, cases_eq, Token, Run, NodeState, Network, t414, process, Act, Journal, acted, node_steps, slice_get-set_same, node_ranges, kept_behind_steps, LacksFrames, NodeContents, memory_kept, RunEnd, IsWhy, on_lines, has_recorded_in, run_acts, BookValue, agreed, world_of, with_run, without_run, with_journalled, after_run, HasRun, RunIsAgreed, Refusal}
use Rattle.tp_turn.specs.Books.{Grew}
use Rattle.tp_turn.specs.Turns.{Then}
use Rattle.tp_turn.specs.Moments.{TurnMoment, IsNodeOf, entries_among, Added, Done}
use Rattle.tp_turn.specs.Settled.{SettlesWith, SettledAs}
use Rattle.tp_turn.specs.Stages.{IsOpen, Breaks, HasRunOn, Runs}
use Rattle.tp_turn.proofs.Grown.{grew_none}
use Rattle.tp_turn.proofs.Adding.{then_more}
use Rattle.tp_turn.proofs.Fronted.{collected_recorded, node_stays}

-- ## A turn is opened

pub breaks_at : (number : ℕ) (e : Refusal) (s t : TurnMoment) → Done number (SettledAs number (Err e)) s t → Done number (Breaks number e) s t
breaks_at number e s t D = record { acts = D.acts; added = D.added; did = inl D.did }

-- ## A run is journalled

pub run_made : (b : BookValue) (number count : ℕ) (tokens : List (ℕ × Token)) (node : NodeContents) → HasRunOn b number count tokens node → HasRun b number count tokens
run_made b number count tokens node R = record { before = R.before.live; after = node.live; there = R.is.there; few = R.few; made = R.made }

run_own : (s : Network NodeState) (number count : ℕ) → process s.wires (length s.nodes) (Run number count) ≡ number
unfolding process
run_own s number count = refl

module _ (b new : BookValue) (number count : ℕ) (tokens : List (ℕ × Token)) (m : NodeContents) (R : HasRunOn b number count tokens m) (is : new ≡ after_run b number count tokens)
    (agrees : RunIsAgreed b new number count tokens) (act : acted t414 (world_of b) (run_acts number count) ≡ Some (world_of new)) where
  abbrev w : BookValue
  w = without_run b number

  abbrev j : BookValue
  j = with_journalled w (Run number count) b.state.ports (on_lines number tokens)

  nodes : agreed new.state ≡ set (agreed b.state) number m.live
  nodes = agrees R.before.live m.live R.is.there R.made

  -- what a book after the run is, with an entry or without one
  either : (P : List Act → BookValue → Type 0) → P [] w → P (Journal (Run number count) ∷ []) j → P (run_acts number count) new
  either P idle ran =
      elim (cases_eq count 0) [
        | inl none ↦
            subst (P (run_acts number count)) (sym (is ∙ ap (λ test. cond test w j) (eq-eqb count 0 none)))
            (subst (λ acts. P acts w) (sym (ap (λ test. map Journal (cond test [] (Run number count ∷ []))) (eq-eqb count 0 none))) idle)
        | inr some ↦
            subst (P (run_acts number count)) (sym (is ∙ ap (λ test. cond test w j) (ne_eqb count 0 some)))
            (subst (λ acts. P acts j) (sym (ap (λ test. map Journal (cond test [] (Run number count ∷ []))) (ne_eqb count 0 some))) ran)
      ]

  recorded : (p : ℕ) → has_recorded_in new.state.snapshot p ≡ has_recorded_in b.state.snapshot p
  recorded p = either (λ acts x. has_recorded_in x.state.snapshot p ≡ has_recorded_in b.state.snapshot p) refl (collected_recorded b.state.snapshot _ p _)

  frozen : new.frozen ≡ b.frozen
  frozen = either (λ acts x. x.frozen ≡ b.frozen) refl refl

  pub run_added : Added number m.live (run_acts number count) (without_run b number) new
  run_added = record {
    did = act;
    grew = either (λ acts x. Grew (entries_among acts) w x) (grew_none w)
        (record { start = refl; entries_are = refl; numbers = refl; base = refl; runs = refl; ready = refl; broken = refl; room = refl; history = refl; generation = refl; floor = refl; form = refl });
    own = either (λ acts x. AllByRecursion (λ e. process b.state.start.wires (length b.state.start.nodes) e ≡ number) (entries_among acts)) tt (run_own b.state.start number count, tt);
    nodes = nodes;
    recorded = λ other apart. recorded other;
    frozen = λ other apart. ap (λ xs. get_or xs other None) frozen;
    marks = either (λ acts x. x.marks ≡ b.marks) refl refl;
  }

  pub run_is : IsNodeOf new number m
  run_is =
      node_stays b new number R.before m R.is (ap (λ ns. slice_get ns number) nodes ∙ slice_get-set_same (agreed b.state) number m.live R.before.live R.is.there)
      (node_steps count R.before.live (m.live, tokens) R.is.image R.made).0 R.kept (recorded number) frozen

-- ## A whole turn

pub set_twice : {A : Type 0} (xs : List A) (i : ℕ) (x y : A) → slice_get xs i ≡ Some x → set (set xs i y) i x ≡ xs
set_twice [] i x y e = cc
set_twice (z ∷ xs) zero x y e = let same : z ≡ x = cc in ap (λ w. w ∷ xs) (sym same)
set_twice (z ∷ xs) (suc i) x y e = ap (λ ws. z ∷ ws) (set_twice xs i x y e)

pub freed : (b : BookValue) (number : ℕ) → slice_get b.runs number ≡ Some false → without_run (with_run b number) number ≡ b
freed b number free = ap (λ runs. record b { runs = runs }) (set_twice b.runs number false true free)

pub turn_done : (number takes quantum : ℕ) (ran : RunEnd) (s o t : TurnMoment) → slice_get s.book.runs number ≡ Some false → IsOpen number takes s o → Added number t.node.live (run_acts number ran.count) (without_run o.book number) t.book
    → ran.max ≡ quantum → IsWhy ran.why quantum ran.count (LacksFrames (memory_kept t.node) (node_ranges t.node.live)) t.node.live → t.node.frozen ≡ o.node.frozen
    → memory_kept t.node ≡ kept_behind_steps ran.count o.node.live (memory_kept o.node) → Done number (Then (SettlesWith number takes) (Runs number quantum ran)) s t
turn_done number takes quantum ran s o t free O A max why kept shared =
    let b = O.between in
    let there : slice_get b.book.runs number ≡ Some false = ap (λ runs. slice_get runs number) O.settled.added.grew.runs ∙ free in
    let book : without_run o.book number ≡ b.book = ap (λ (m : TurnMoment). without_run m.book number) O.is ∙ freed b.book number there in
    let node : o.node ≡ b.node = ap (λ (m : TurnMoment). m.node) O.is in
    let added : Added number t.node.live (run_acts number ran.count) b.book t.book = subst (λ x. Added number t.node.live (run_acts number ran.count) x t.book) book A in
    then_more number (SettlesWith number takes) (Runs number quantum ran) s b t O.settled
    (record {
      acts = run_acts number ran.count;
      added = added;
      did = record {
        are = refl;
        added = added;
        max = max;
        why = why;
        kept = kept ∙ ap (λ n. n.frozen) node;
        shared = shared ∙ ap (λ n. kept_behind_steps ran.count n.live (memory_kept n)) node;
      };
    })
