-- What the open area may hold, compared with what is told of the book.
use Rattle.std.proofs.Common.{◌≡◌, List, ap, subst, sym, ◌∙◌, true, ℕ, Bool, Option, Result, Ok, Err}
use Rattle.tp_flush.proofs.Lower.{All-weaker, Entry, Form, Turns, AreOf, is_of, Place, StoreFault, Told, ToldSince}
use Rattle.tp_flush.specs.Flushing.{HoldsAllOf}
use Rattle.tp_flush.proofs.Appends.{Answered}

-- an area of the book's form holds what the book does; an area with turns does so for a book of either form
pub holds_same : (area book : Form) → book ≡ area → HoldsAllOf area book
holds_same area book same entry holds = ap (λ form. is_of form entry) (sym same) ∙ holds

pub holds_turns : (area book : Form) → area ≡ Turns → HoldsAllOf area book
holds_turns area book turns entry holds = ap (λ form. is_of form entry) turns

-- the book's form stays after all acts except a trim
pub holds_since : (area : Form) (old now : Told) → ToldSince old now → HoldsAllOf area old.form → HoldsAllOf area now.form
holds_since area old now since holds = subst (HoldsAllOf area) (sym since.form) holds

-- and the area's, in another place of it
pub holds_at : (place to : Place) (book : Form) → to.form ≡ place.form → HoldsAllOf place.form book → HoldsAllOf to.form book
holds_at place to book same holds = subst (λ area. HoldsAllOf area book) (sym same) holds

-- entries of the book are entries that the area may hold
pub holds_all : (area book : Form) (entries : List (Entry × ℕ)) → HoldsAllOf area book → AreOf book entries → AreOf area entries
holds_all area book entries holds are = All-weaker (λ (e : Entry × ℕ). is_of book e.0 ≡ true) (λ (e : Entry × ℕ). is_of area e.0 ≡ true) (λ e. holds e.0) entries are

-- a group leaves the area's form
pub group_form : (r : Result Unit StoreFault) (es : List Entry) (place to : Place) (broke : Bool) (filled : Option Place) (failures_old failures_new : ℕ) → Answered r es place to broke filled failures_old failures_new → to.form ≡ place.form
group_form (Ok x) es place to broke filled failures_old failures_new A = ap (λ (p : Place). p.form) A.done.0
group_form (Err e) es place to broke filled failures_old failures_new A = ap (λ (p : Place). p.form) A.failed.1
