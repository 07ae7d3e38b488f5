-- What is left to do for the nodes that were read so far.
use Rattle.std.proofs.Common.{◌≡◌, ℕ, ◌+◌, ◌<◌, ◌≤◌, Bool, true, false, cond, List, [], ◌∷◌, length, map, drop, refl, sym, ap, ◌∙◌, arith, Some, slice_get}
use Rattle.std.specs.Prelude.{◌&&◌}
use Rattle.tp_shared.proofs.Lower.{list_all, drop_all, Token, NodeState, is_marker, plain, plain_network, rest_of, Rest, Halted, Quiet, Busy, BookValue, world_of, is_clear, drop_here}
use Rattle.tp_shared.specs.Resting.{IsRestAt, leaves_nothing, is_empty, is_halted, rest_in}

-- ## Lines

empty_clear : (line : List Token) → is_empty (plain line) ≡ is_clear line
empty_clear [] = refl
empty_clear (t ∷ ts) = by_marker (is_marker t) (empty_clear ts)
  where
    by_marker : (b : Bool) → is_empty (plain ts) ≡ is_clear ts → is_empty (cond b (plain ts) (t ∷ plain ts)) ≡ cond b (is_clear ts) false
    by_marker true rest = rest
    by_marker false rest = refl

pub lines_clear : (lines : List (List Token)) → list_all is_empty (map plain lines) ≡ list_all is_clear lines
lines_clear [] = refl
lines_clear (line ∷ lines) = ap (λ b. b && list_all is_empty (map plain lines)) (empty_clear line) ∙ ap (λ b. is_clear line && b) (lines_clear lines)

-- ## Nodes

and_false : (b : Bool) → (b && false) ≡ false
and_false true = refl
and_false false = refl

and_true : (b : Bool) → (b && true) ≡ b
and_true true = refl
and_true false = refl

abbrev pub all_halted : List NodeState → Bool
all_halted nodes = list_all (λ node. is_halted (rest_of node)) nodes

abbrev pub all_done : List NodeState → Bool
all_done nodes = list_all (λ node. leaves_nothing (rest_of node)) nodes

-- Of the nodes before a number it is known whether all have halted, and that nothing is left to do for any of them.
pub record HaveRested (nodes : List NodeState) (number : ℕ) (have_halted : Bool) : Type 0 where
  pub halted : all_halted nodes ≡ (have_halted && all_halted (drop number nodes))
  pub done : all_done nodes ≡ all_done (drop number nodes)

module _ (b : BookValue) (number : ℕ) (have_halted : Bool) (H : HaveRested (world_of b).live.nodes number have_halted) (rest : Rest) (R : IsRestAt b number rest) where
  halted_here : all_halted (world_of b).live.nodes ≡ (have_halted && (is_halted rest && all_halted (drop (number + 1) (world_of b).live.nodes)))
  halted_here =
      H.halted ∙ ap (λ xs. have_halted && all_halted xs) (drop_here (world_of b).live.nodes number R.node R.there)
      ∙ ap (λ r. have_halted && (is_halted r && all_halted (drop (number + 1) (world_of b).live.nodes))) (sym R.is)

  done_here : all_done (world_of b).live.nodes ≡ (leaves_nothing rest && all_done (drop (number + 1) (world_of b).live.nodes))
  done_here = H.done ∙ ap all_done (drop_here (world_of b).live.nodes number R.node R.there) ∙ ap (λ r. leaves_nothing r && all_done (drop (number + 1) (world_of b).live.nodes)) (sym R.is)

  pub one_halted : rest ≡ Halted → HaveRested (world_of b).live.nodes (number + 1) have_halted
  one_halted is = record {
    halted = halted_here ∙ ap (λ r. have_halted && (is_halted r && all_halted (drop (number + 1) (world_of b).live.nodes))) is;
    done = done_here ∙ ap (λ r. leaves_nothing r && all_done (drop (number + 1) (world_of b).live.nodes)) is;
  }

  pub one_quiet : rest ≡ Quiet → HaveRested (world_of b).live.nodes (number + 1) false
  one_quiet is = record {
    halted = halted_here ∙ ap (λ r. have_halted && (is_halted r && all_halted (drop (number + 1) (world_of b).live.nodes))) is ∙ and_false have_halted;
    done = done_here ∙ ap (λ r. leaves_nothing r && all_done (drop (number + 1) (world_of b).live.nodes)) is;
  }

  pub one_busy : rest ≡ Busy → Busy ≡ rest_in (plain_network (world_of b).live)
  one_busy is =
      let h : all_halted (world_of b).live.nodes ≡ false = halted_here ∙ ap (λ r. have_halted && (is_halted r && all_halted (drop (number + 1) (world_of b).live.nodes))) is ∙ and_false have_halted in
      let d : all_done (world_of b).live.nodes ≡ false = done_here ∙ ap (λ r. leaves_nothing r && all_done (drop (number + 1) (world_of b).live.nodes)) is in
      rw (h, d) refl

-- all were read
pub all_rested : (b : BookValue) (number : ℕ) (have_halted : Bool) → HaveRested (world_of b).live.nodes number have_halted → length (world_of b).live.nodes ≤ number
    → cond have_halted Halted (cond (list_all is_clear b.state.lines) Quiet Busy) ≡ rest_in (plain_network (world_of b).live)
all_rested b number have_halted H all =
    let none : drop number (world_of b).live.nodes ≡ [] = drop_all number (world_of b).live.nodes all in
    let h : all_halted (world_of b).live.nodes ≡ have_halted = H.halted ∙ ap (λ xs. have_halted && all_halted xs) none ∙ and_true have_halted in
    let d : all_done (world_of b).live.nodes ≡ true = H.done ∙ ap all_done none in
    rw (h, d, lines_clear b.state.lines) refl
