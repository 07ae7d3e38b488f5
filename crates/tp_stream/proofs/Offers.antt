-- What comes of an offer.
use Rattle.std.proofs.Common.{inl, inr, true, refl, ap, Option, Some, None, Ok, Err}
use Rattle.tp_stream.proofs.Lower.{RefusesFor, OfferFault, Memory}
use Rattle.tp_stream.specs.Outcomes.{OfferAnswer, offer_left}

pub offer_taken : {A : Type 0} (reason : Option OfferFault) (given : A) → RefusesFor Memory reason (Ok given) → OfferAnswer reason (Ok true)
offer_taken None given taken = inl refl
offer_taken (Some reason) given taken = absurd taken

pub offer_refused : (A : Type 0) (reason : Option OfferFault) (fault : OfferFault) → RefusesFor {A = A} Memory reason (Err fault) → OfferAnswer reason (offer_left fault)
offer_refused A None fault is = inr (ap offer_left is)
offer_refused A (Some reason) fault is = ap offer_left is
