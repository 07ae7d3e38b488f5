-- Moments of a trace, and what is printed of them.
use Rattle.std.proofs.Common.{◌≡◌, ◌∙◌, ℕ, Bool, true, false, cond, List, [], ◌∷◌, ◌++◌, Option, Some, None, Result, Ok, Err, refl, sym, ap, subst, append_assoc, append-nil, bytes_eq, IfOk}
use Rattle.std.specs.Prelude.{not}
use Rattle.tp_views.proofs.Lower.{NodeState, standing, stop_line, Attended}
use Rattle.tp_views.specs.Maps.{Row}
use Rattle.tp_views.specs.Stops.{steps_line, watch_text, watched}
use Rattle.tp_views.specs.Traced.{Happens, Moment, PassesText, ended_text, last_line, moment_by, text_behind}
use Rattle.tp_views.specs.declared.trace.stops.Stops.{Stops}

-- what is so where a call was done, by two things that are
pub if_both : {T E : Type 0} (P Q R : T → Type 0) (r : Result T E) → ((x : T) → P x → Q x → R x) → IfOk r P → IfOk r Q → IfOk r R
if_both P Q R (Ok x) turn p q = turn x p q
if_both P Q R (Err e) turn p q = p

-- ## Behind a line

behind_passes : (rows : List Row) (stops : Stops) (now : Attended) (line old mid new : List ℕ) (goes same : Bool) → goes ≡ same → mid ≡ old ++ line → new ≡ mid ++ text_behind goes rows stops now.node
    → PassesText (cond (not same) (record { text = line ++ watch_text rows stops now.node; next = None }) (record { text = line; next = Some now })) goes now old new
behind_passes rows stops now line old mid new true true is first then = record { next = refl; text = then ∙ append-nil mid ∙ first }
behind_passes rows stops now line old mid new true false is first then = absurd (cc is)
behind_passes rows stops now line old mid new false true is first then = absurd (cc is)
behind_passes rows stops now line old mid new false false is first then = record {
  next = refl;
  text = then ∙ ap (λ (xs : List ℕ). xs ++ watch_text rows stops now.node) first ∙ append_assoc old line (watch_text rows stops now.node);
}

-- something happened, and the trace goes on, or stops after that
pub happened : (rows : List Row) (stops : Stops) (was : NodeState) (there : Option (List ℕ × Attended)) (a now : Attended) (goes : Bool) (old mid new : List ℕ) → Happens true there a now old mid
    → goes ≡ bytes_eq (watched stops.watch was) (watched stops.watch now.node) → new ≡ mid ++ text_behind goes rows stops now.node → PassesText (moment_by rows stops was there) goes now old new
happened rows stops was there a now goes old mid new (line, is, text) tested then =
    subst (λ (o : Option (List ℕ × Attended)). PassesText (moment_by rows stops was o) goes now old new) (sym is)
    (behind_passes rows stops now line old mid new goes (bytes_eq (watched stops.watch was) (watched stops.watch now.node)) tested text then)

-- ## A stop before a line

pub until_passes : (b : Bool) (text : List ℕ) (m : Moment) (now : Attended) (old new : List ℕ) → b ≡ true → new ≡ old ++ text
    → PassesText (cond b (record { text = text; next = None }) m) false now old new
until_passes true text m now old new is said = record { next = refl; text = said }
until_passes false text m now old new is said = absurd (cc is)

-- ## Behind the last line

pub more_there : (stops : Stops) (node : NodeState) (there : Option (List ℕ × Attended)) (a now : Attended) (old new : List ℕ) → Happens true there a now old new → last_line stops node there ≡ steps_line stops
more_there stops node there a now old new (line, is, text) = ap (last_line stops node) is

pub none_there : (stops : Stops) (there : Option (List ℕ × Attended)) (a now : Attended) (old new : List ℕ) → Happens false there a now old new
    → last_line stops a.node there ≡ stop_line (standing now.node)
none_there stops there a now old new (is, same, text) = ap (last_line stops a.node) is ∙ sym (ap (λ (x : Attended). stop_line (standing x.node)) same)

pub other_last : (b : Bool) (u v old new : List ℕ) → b ≡ false → new ≡ old ++ v → new ≡ old ++ cond b u v
other_last true u v old new is said = absurd (cc is)
other_last false u v old new is said = said
