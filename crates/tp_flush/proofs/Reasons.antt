-- Why the store didn't switch.
use Rattle.std.proofs.Common.{◌≡◌, ◌∙◌, ℕ, Bool, true, false, List, Option, Some, None, refl, sym, subst}
use Rattle.std.specs.Prelude.{◌&&◌, if◌then◌else◌, is_some}
use Rattle.tp_flush.proofs.Lower.{Bor, option_copied, NodeState, MarkedNetwork, Topology, whole, Place, none_kept}
use Rattle.tp_flush.specs.declared.imaged.Images.{Images}
use Rattle.tp_flush.specs.declared.progress.Progress.{Progress}
use Rattle.tp_flush.specs.declared.unswitched.Unswitched.{Unswitched}
use Rattle.tp_flush.specs.declared.unswitched.Unswitched.TheVariants.{CutOpen, PagesKept}
use Rattle.tp_flush.specs.Flushing.{Flushing}
use Rattle.tp_flush.specs.Unswitched.{IsReason, WhyUnswitched}

-- an option of a borrow and its copy are both `Some`, or both `None`
pub some_copied : {T : Type 0} → (o : Option (Bor T)) → is_some o ≡ is_some (option_copied o)
some_copied None = refl
some_copied (Some x) = refl

pub unfound : {A : Type 0} (o : Option A) → ((x : A) → o ≡ Some x → ⊥) → is_some o ≡ false
unfound None never = refl
unfound (Some x) never = absurd (never x refl)

left_false : (a b : Bool) → b ≡ true → (a && b) ≡ false → a ≡ false
left_false false b is both = refl
left_false true b is both = sym is ∙ both

-- no copy was to be had of the book that was told of
pub unready_reason : (why : Unswitched) (is_whole : Bool) (t : Topology) (p : Progress) (generation : ℕ) (net : MarkedNetwork NodeState) (frozen : List Bool) → why ≡ (if is_whole then PagesKept else CutOpen)
    → is_whole ≡ is_some (whole net) → (none_kept frozen && is_some (whole net)) ≡ false → IsReason why t p generation net frozen
unready_reason why true t p generation net frozen is tells none = subst (λ (x : Unswitched). IsReason x t p generation net frozen) (sym is) (sym tells, left_false (none_kept frozen) (is_some (whole net)) (sym tells) none)
unready_reason why false t p generation net frozen is tells none = subst (λ (x : Unswitched). IsReason x t p generation net frozen) (sym is) (sym tells)

-- the reason stays, if nothing that it speaks of changed
pub why_still : (why : Option Unswitched) (images : Images) (a b : Flushing) → b.topology ≡ a.topology → b.progress ≡ a.progress → b.place ≡ a.place → b.world.net ≡ a.world.net → b.frozen ≡ a.frozen
    → WhyUnswitched why images a → WhyUnswitched why images b
why_still None images a b topology progress place net frozen is = is
why_still (Some why) images a b topology progress place net frozen is =
    subst (λ (x : Topology). IsReason why x b.progress b.place.generation b.world.net b.frozen) (sym topology)
    (subst (λ (x : Progress). IsReason why a.topology x b.place.generation b.world.net b.frozen) (sym progress)
    (subst (λ (x : Place). IsReason why a.topology a.progress x.generation b.world.net b.frozen) (sym place)
    (subst (λ (x : MarkedNetwork NodeState). IsReason why a.topology a.progress a.place.generation x b.frozen) (sym net)
    (subst (λ (x : List Bool). IsReason why a.topology a.progress a.place.generation a.world.net x) (sym frozen) is))))
