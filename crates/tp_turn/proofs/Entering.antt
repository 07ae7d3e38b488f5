-- A turn is journalled as one entry.
use Rattle.std.proofs.Common.{◌≡◌, ℕ, zero, suc, Bool, true, false, cond, List, [], ◌∷◌, set, get_or, refl, sym, ap, subst, ◌∙◌, Some, None, slice_get, length, map}
use Rattle.std.specs.Prelude.{nat_lt}
use Rattle.tp_turn.proofs.Lower.{AllByRecursion, Token, Received, Entry, Run, Turn, t414, by_link, process, Journal, acted, turn_acts, turn_entries, slice_get-set_same, run_of, NodeContents, on_lines, has_recorded_in, BookValue, agreed, world_of, without_run, with_journalled, after_turn, with_entries, TurnIsAgreed}
use Rattle.tp_turn.specs.Books.{Grew}
use Rattle.tp_turn.specs.Moments.{IsNodeOf, entries_among, Added}
use Rattle.tp_turn.specs.Whole.{HasTurnedOn}
use Rattle.tp_turn.proofs.Grown.{grew_none}
use Rattle.tp_turn.proofs.Fronted.{collected_recorded, node_stays}

-- what a turn's entry may be
pub entries_either : (P : List Entry → Type 0) (number : ℕ) (takes : List Received) (count : ℕ) → P [] → P (Turn number takes count ∷ []) → ((k : ℕ) → P (Run number k ∷ [])) → P (turn_entries number takes count)
entries_either P number takes count none turn run = go (nat_lt 0 (length (by_link 0 takes)))
  where
    runs : (k : ℕ) → P (run_of number k)
    runs zero = none
    runs (suc k) = run (suc k)

    go : (c : Bool) → P (cond c (Turn number takes count ∷ []) (run_of number count))
    go true = turn
    go false = runs count

module _ (b : BookValue) (number : ℕ) (takes : List Received) (count : ℕ) (tokens : List (ℕ × Token)) (m : NodeContents) (R : HasTurnedOn b number takes count tokens m) where
  module _ (new : BookValue) (is : new ≡ after_turn b number takes count tokens) (agrees : TurnIsAgreed b new number takes count tokens) (act : acted t414 (world_of b) (turn_acts number takes count) ≡ Some (world_of new)) where
    abbrev w : BookValue
    w = without_run b number

    abbrev j : Entry → BookValue
    j e = with_journalled w e b.state.ports (on_lines number tokens)

    nodes : agreed new.state ≡ set (agreed b.state) number m.live
    nodes = agrees R.before.live m.live R.is.there R.made

    -- what a book after the turn is, with an entry or without one
    either : (P : List Entry → BookValue → Type 0) → P [] w → P (Turn number takes count ∷ []) (j (Turn number takes count)) → ((k : ℕ) → P (Run number k ∷ []) (j (Run number k)))
        → P (turn_entries number takes count) new
    either P none turn run =
        subst (P (turn_entries number takes count)) (sym is) (entries_either (λ es. P es (with_entries w es (on_lines number tokens))) number takes count none turn run)

    recorded : (p : ℕ) → has_recorded_in new.state.snapshot p ≡ has_recorded_in b.state.snapshot p
    recorded p =
        either (λ es x. has_recorded_in x.state.snapshot p ≡ has_recorded_in b.state.snapshot p) refl (collected_recorded b.state.snapshot _ p _) (λ k. collected_recorded b.state.snapshot _ p _)

    frozen : new.frozen ≡ b.frozen
    frozen = either (λ es x. x.frozen ≡ b.frozen) refl refl (λ k. refl)

    grown : (e : Entry) → Grew (e ∷ []) w (j e)
    grown e = record { start = refl; entries_are = refl; numbers = refl; base = refl; runs = refl; ready = refl; broken = refl; room = refl; history = refl; generation = refl; floor = refl; form = refl }

    turn_own : AllByRecursion (λ e. process b.state.start.wires (length b.state.start.nodes) e ≡ number) (entries_among (turn_acts number takes count))
    unfolding process
    turn_own =
        entries_either (λ es. AllByRecursion (λ e. process b.state.start.wires (length b.state.start.nodes) e ≡ number) (entries_among (map Journal es))) number takes count tt (refl, tt) (λ k. (refl, tt))

    pub turn_added : Added number m.live (turn_acts number takes count) (without_run b number) new
    turn_added = record {
      did = act;
      grew = either (λ es x. Grew (entries_among (map Journal es)) w x) (grew_none w) (grown (Turn number takes count)) (λ k. grown (Run number k));
      own = turn_own;
      nodes = nodes;
      recorded = λ other apart. recorded other;
      frozen = λ other apart. ap (λ xs. get_or xs other None) frozen;
      marks = either (λ es x. x.marks ≡ b.marks) refl refl (λ k. refl);
    }

    pub turn_is : IsNodeOf new number m
    turn_is =
        node_stays b new number R.before m R.is (ap (λ ns. slice_get ns number) nodes ∙ slice_get-set_same (agreed b.state) number m.live R.before.live R.is.there)
        R.image R.kept (recorded number) frozen
