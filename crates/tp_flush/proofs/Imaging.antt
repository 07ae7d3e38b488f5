-- What a turn does with images.
use Rattle.std.proofs.Common.{◌≡◌, ◌⊎◌, inl, inr, ℕ, ◌<◌, Bool, true, false, List, [], ◌∷◌, ◌++◌, length, get_or, Option, Some, refl, sym, ap, subst, ◌∙◌, arith, get_or-set_other}
use Rattle.tp_flush.proofs.Lower.{true≢false, eqb_tells, Topology, BookValue}
use Rattle.tp_flush.specs.declared.imaged.Image.{Image}
use Rattle.tp_flush.specs.declared.imaged.Image.TheVariants.{WasOut, Unrecorded, Lacking, Copied}
use Rattle.tp_flush.specs.declared.imaged.Images.{Images}
use Rattle.tp_flush.specs.declared.imaged.Images.TheVariants.{NoSnapshot, Out, Enough, Unkept}
use Rattle.tp_flush.specs.declared.progress.Progress.{Progress}
use Rattle.tp_flush.specs.Progress.{is_out, with_out}
use Rattle.tp_flush.specs.Flushing.{Flushing}
use Rattle.tp_flush.specs.Images.{HasNextImage, Imaged, ImagedIn, NodeImaged, OneWentOut, StayOut}

-- ## Images that are out stay out

pub stay_same : (old new : Progress) → new ≡ old → StayOut old new
stay_same old new same i out = ap (λ (p : Progress). is_out p i) same ∙ out

pub stay_then : (a b c : Progress) → StayOut a b → StayOut b c → StayOut a c
stay_then a b c first then i out = then i (first i out)

pub stay_with : (old new : Progress) (node : ℕ) → new ≡ with_out old node → is_out new node ≡ true → StayOut old new
stay_with old new node with is i out = elim (eqb_tells i node) [
  | inl same ↦ ap (is_out new) same.1 ∙ is
  | inr other ↦ ap (λ (p : Progress). is_out p i) with ∙ get_or-set_other old.out node i true false other.1 ∙ out
]

-- ## One node

-- the turn goes on after a node that has recorded: its image is out
pub imaged_on : (done : Image) (recorded : Bool) (node : ℕ) (old new : Progress) → NodeImaged done recorded node old new → HasNextImage done → recorded ≡ true → is_out new node ≡ true
imaged_on WasOut recorded node old new is on here = is
imaged_on Unrecorded recorded node old new is on here = absurd (true≢false (sym here ∙ is))
imaged_on Lacking recorded node old new is on here = absurd on
imaged_on (Copied pages) recorded node old new is on here = is.1

-- ## All of them

module _ (ran_a ran_b : Bool) (a b : ℕ → Bool) (nodes all_a all_b : ℕ) (old_a new_a old_b new_b : Progress) (ran : ran_a ≡ ran_b) (alike : (i : ℕ) → i < nodes → a i ≡ b i) (all : all_a ≡ all_b)
    (old : old_a.out ≡ old_b.out) (new : new_a.out ≡ new_b.out) where
  -- told of otherwise
  pub imaged_as : (images : Images) → Imaged ran_a a nodes all_a images old_a new_a → Imaged ran_b b nodes all_b images old_b new_b
  imaged_as NoSnapshot did = sym ran ∙ did
  imaged_as Out did = λ i low there here. ap (λ (xs : List Bool). get_or xs i false) (sym new) ∙ did i low (omega (arith, there, all)) (alike i low ∙ here)
  imaged_as Enough did = record {
    node = did.node;
    waited = ap (λ (xs : List Bool). get_or xs did.node false) (sym old) ∙ did.waited;
    is = ap (λ (xs : List Bool). get_or xs did.node false) (sym new) ∙ did.is;
  }
  imaged_as (Unkept i) did = (did.0, sym (alike i did.0) ∙ did.1, ap (λ (xs : List Bool). get_or xs i false) (sym new) ∙ did.2)

-- between a turn's begin and its end
pub imaged_between : (nodes : ℕ) (images : Images) (before front seen : List BookValue) (a b c d : Flushing) → ImagedIn nodes images before seen b c → before ≡ front → b.progress ≡ a.progress
    → d.progress ≡ c.progress → d.topology ≡ c.topology → ImagedIn nodes images front seen a d
imaged_between nodes images before front seen a b c d I is old new topology = record {
  found = I.found;
  shown = subst (λ (xs : List BookValue). seen ≡ xs ++ I.found ∷ []) is I.shown;
  did = imaged_as _ _ _ _ nodes (length c.topology.pages) (length d.topology.pages) b.progress c.progress a.progress d.progress refl (λ i low. refl) (ap (λ (t : Topology). length t.pages) (sym topology))
      (ap (λ (p : Progress). p.out) old) (ap (λ (p : Progress). p.out) (sym new)) images I.did;
}
