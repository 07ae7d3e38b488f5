-- A node records.
use Rattle.std.proofs.Common.{◌≡◌, ◌≢◌, ℕ, zero, suc, Bool, true, false, cond, List, [], ◌∷◌, set, get_or, get_or-set_other, refl, sym, ap, subst, ◌∙◌, Option, Some, None, slice_get}
use Rattle.std.specs.Prelude.{not, is_some, IsNone}
use Rattle.tp_turn.proofs.Lower.{option_map, append-nil, NodeState, t414, Snapshot, has_recorded, with_count, Record, happens, NodeContents, set_back, has_recorded_in, is_asked, BookValue, agreed, world_of, after_record, one_act}
use Rattle.tp_turn.specs.Books.{Grew}
use Rattle.tp_turn.specs.Moments.{moment_of, IsNodeOf, Added, Done}
use Rattle.tp_turn.specs.Settled.{frozen_now, Records}
use Rattle.tp_turn.proofs.Adding.{added_none}

-- a node that is asked hasn't recorded
asked_not : (given : Option Snapshot) (p : ℕ) → is_asked given p ≡ true → has_recorded_in given p ≡ false
asked_not None p e = cc
asked_not (Some snap) p e = go (has_recorded snap p) e
  where
    go : (b : Bool) → not b ≡ true → b ≡ false
    go true e = cc
    go false e = refl

pub asked_thawed : (b : BookValue) (number : ℕ) (n : NodeContents) → IsNodeOf b number n → is_asked b.state.snapshot number ≡ true → IsNone n.frozen
asked_thawed b number n N asked = go n.frozen refl
  where
    go : (o : Option NodeState) → n.frozen ≡ o → IsNone o
    go None is = refl
    go (Some state) is =
        let yes : has_recorded_in b.state.snapshot number ≡ true = N.recorded (ap is_some is) in
        let no = asked_not b.state.snapshot number asked in
        cc

-- a process that records has recorded, and the others as before
counted : (counts : List (Option ℕ)) (p count : ℕ) → is_some (get_or (set counts p (Some count)) p (Some 0)) ≡ true
counted [] p count = refl
counted (c ∷ counts) zero count = refl
counted (c ∷ counts) (suc p) count = counted counts p count

count_recorded : (given : Option Snapshot) (p : ℕ) (count : ℕ) → is_asked given p ≡ true → has_recorded_in (option_map (λ snap. with_count snap p count) given) p ≡ true
count_recorded None p count asked = cc
count_recorded (Some snap) p count asked = counted snap.counts p count

count_others : (given : Option Snapshot) (p other : ℕ) (count : ℕ) → other ≢ p → has_recorded_in (option_map (λ snap. with_count snap p count) given) other ≡ has_recorded_in given other
count_others None p other count apart = refl
count_others (Some snap) p other count apart = ap is_some (get_or-set_other snap.counts p other (Some count) (Some 0) apart)

-- what was put into a list is there
set_there : {A : Type 0} (xs : List (Option A)) (i : ℕ) (x y : A) → get_or (set xs i (Some x)) i None ≡ Some y → x ≡ y
set_there [] i x y e = cc
set_there (z ∷ xs) zero x y e = cc
set_there (z ∷ xs) (suc i) x y e = set_there xs i x y e

record_agreed : (b : BookValue) (node : ℕ) → agreed (after_record b node).state ≡ agreed b.state
unfolding agreed
record_agreed b node = refl

module _ (b new : BookValue) (number : ℕ) (n : NodeContents) (asked : is_asked b.state.snapshot number ≡ true) (is : new ≡ after_record b number) (N : IsNodeOf b number n) where
  abbrev m : NodeContents
  m = frozen_now n

  nodes : agreed new.state ≡ agreed b.state
  nodes = ap (λ x. agreed x.state) is ∙ record_agreed b number

  frozen_is : new.frozen ≡ set b.frozen number (Some n.live)
  frozen_is = ap (λ x. x.frozen) is ∙ ap (set b.frozen number) N.there

  added : happens t414 (world_of b) (Record number) ≡ Some (world_of new) → Added number n.live (Record number ∷ []) b new
  added act = record {
    did = one_act (world_of b) (world_of new) (Record number) act;
    grew = subst (Grew [] b) (sym is)
        (record { start = refl; entries_are = sym (append-nil b.state.entries); numbers = sym (append-nil b.numbers); base = refl; runs = refl; ready = refl; broken = refl; room = refl; history = sym (append-nil b.history); generation = refl; floor = refl; form = refl });
    own = tt;
    nodes = nodes ∙ sym (set_back (agreed b.state) number n.live N.there);
    recorded = λ other apart. ap (λ x. has_recorded_in x.state.snapshot other) is ∙ count_others b.state.snapshot number other _ apart;
    frozen = λ other apart. ap (λ xs. get_or xs other None) frozen_is ∙ get_or-set_other b.frozen number other (Some n.live) None apart;
    marks = ap (λ x. x.marks) is;
  }

  pub recorded_done : happens t414 (world_of b) (Record number) ≡ Some (world_of new) → Done number (Records number) (moment_of b n) (moment_of new m)
  recorded_done act = record {
    acts = Record number ∷ [];
    added = added act;
    did = record {
      are = sym (ap (λ test. cond test (Record number ∷ []) []) asked);
      added = added act;
      node = sym (ap (λ test. cond test m n) asked);
    };
  }

  pub recorded_is : IsNodeOf new number m
  recorded_is = record {
    there = ap (λ ns. slice_get ns number) nodes ∙ N.there;
    image = N.image;
    recorded = λ some. ap (λ x. has_recorded_in x.state.snapshot number) is ∙ count_recorded b.state.snapshot number _ asked;
    kept = λ here its h t.
        let mine : n.live ≡ here = cc in
        sym mine ∙ set_there b.frozen number n.live its (ap (λ xs. get_or xs number None) (sym frozen_is) ∙ t);
  }

-- a node that isn't asked doesn't record
pub unasked_done : (b : BookValue) (number : ℕ) (n : NodeContents) → is_asked b.state.snapshot number ≡ false → IsNodeOf b number n → Done number (Records number) (moment_of b n) (moment_of b n)
unasked_done b number n unasked N =
    let nothing = added_none number n.live b N.there in
    record {
      acts = [];
      added = nothing;
      did = record {
        are = sym (ap (λ test. cond test (Record number ∷ []) []) unasked);
        added = nothing;
        node = sym (ap (λ test. cond test (frozen_now n) n) unasked);
      };
    }
