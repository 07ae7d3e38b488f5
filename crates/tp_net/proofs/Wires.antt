-- Wires that lead back.
use Rattle.std.proofs.Common.{◌≡◌, ℕ, ◌+◌, ◌<◌, ◌≤◌, List, ◌∷◌, length, drop, get_or, ap, ◌∙◌, sym, Bool, true, false, refl, Option, None}
use Rattle.std.specs.Prelude.{◌&&◌}
use Rattle.tp_net.proofs.Lower.{at_drop_more, at_drop_all, WireEnd, all_lead_back, leads_back}

all_lead_back-cons : (N H line : ℕ) (wires ends : List (Option WireEnd)) (end : Option WireEnd)
    → all_lead_back N H wires line (end ∷ ends) ≡ (leads_back N H wires line end && all_lead_back N H wires (line + 1) ends)
unfolding all_lead_back
all_lead_back-cons N H line wires ends end = refl

-- the wires from one on, by that one and those after it
pub all_lead_back_more : (N H line : ℕ) (wires : List (Option WireEnd)) (end : Option WireEnd) → line < length wires
    → all_lead_back N H wires line (drop line wires) ≡ (leads_back N H wires line (get_or wires line end) && all_lead_back N H wires (line + 1) (drop (line + 1) wires))
all_lead_back_more N H line wires end lt =
    at_drop_more (all_lead_back N H wires line) wires line end lt
    ∙ all_lead_back-cons N H line wires (drop (line + 1) wires) (get_or wires line end)

-- one that doesn't lead back decides, and one that does leaves it to those after it
pub all_lead_back-fails : (N H line : ℕ) (wires : List (Option WireEnd)) (result : Bool) → line < length wires
    → result ≡ leads_back N H wires line (get_or wires line None) → result ≡ false → all_lead_back N H wires line (drop line wires) ≡ false
all_lead_back-fails N H line wires result lt is fails =
    all_lead_back_more N H line wires None lt ∙ ap (λ b. b && all_lead_back N H wires (line + 1) (drop (line + 1) wires)) (sym is ∙ fails)

pub all_lead_back-goes_on : (N H line : ℕ) (wires : List (Option WireEnd)) (result : Bool) → line < length wires
    → result ≡ leads_back N H wires line (get_or wires line None) → result ≡ true
    → all_lead_back N H wires (line + 1) (drop (line + 1) wires) ≡ all_lead_back N H wires line (drop line wires)
all_lead_back-goes_on N H line wires result lt is holds =
    sym (all_lead_back_more N H line wires None lt ∙ ap (λ b. b && all_lead_back N H wires (line + 1) (drop (line + 1) wires)) (sym is ∙ holds))

-- no wire is left
pub all_lead_back_all : (N H line : ℕ) (wires : List (Option WireEnd)) → length wires ≤ line
    → all_lead_back N H wires line (drop line wires) ≡ true
unfolding all_lead_back
all_lead_back_all N H line wires le = at_drop_all (all_lead_back N H wires line) wires line le
