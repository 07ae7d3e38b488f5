-- Seats that have a hand each and no slip.
use Rattle.std.proofs.Common.{◌≡◌, ◌∙◌, ◌<◌, List, [], map, length, sym, ap, subst, Option}
use Rattle.std.specs.Prelude.{All, slice_index_or}
use Rattle.tp_work.proofs.Lower.{get_or-map, length-map, Numbers, HandValue, IsNew, Ghosts}
use Rattle.tp_work.specs.declared.seat.Seat.{Seat}

module _ {J : Type 0} {g : Ghosts J} where
  -- its hand is one of the queue's
  hand_at : (seats : List (Seat J g)) (hands : List HandValue) → map (λ (seat : Seat J g). seat.hand) seats ≡ hands → (P : HandValue → Type 0) → All P hands → All (λ (seat : Seat J g). P seat.hand) seats
  hand_at seats hands are P all k d below =
      subst P (sym (sym (get_or-map (λ (seat : Seat J g). seat.hand) seats k d d.hand below) ∙ ap (λ xs. slice_index_or xs k d.hand) are))
      (all k d.hand (subst (λ n. k < n) (sym (length-map seats (λ (seat : Seat J g). seat.hand)) ∙ ap length are) below))

  -- each has the queue's hand
  pub all_seated : (seats : List (Seat J g)) (hands : List HandValue) (free : Option Numbers) → map (λ (seat : Seat J g). seat.hand) seats ≡ hands → All (λ hand. hand.of ≡ free) hands
      → All (λ (seat : Seat J g). seat.slips ≡ []) seats → All (λ (seat : Seat J g). (seat.hand.of ≡ free) × (seat.slips ≡ [])) seats
  all_seated seats hands free are all none k d below = (hand_at seats hands are (λ hand. hand.of ≡ free) all k d below, none k d below)

  -- which has made no call
  pub all_new : (seats : List (Seat J g)) (hands : List HandValue) → map (λ (seat : Seat J g). seat.hand) seats ≡ hands → All (λ hand. IsNew hand.past) hands
      → All (λ (seat : Seat J g). IsNew seat.hand.past) seats
  all_new seats hands are all = hand_at seats hands are (λ hand. IsNew hand.past) all
