-- What a listener is told, one notice after the other.
use Rattle.std.proofs.Common.{◌≡◌, ◌<◌, ◌≤◌, ◌+◌, ℕ, Bool, true, false, not, List, [], ◌∷◌, ◌++◌, map, take, set, length, get_or, get_or-set_other, get_or-set_same, Option, Some, None, Result, Ok, Err, sym, ap, subst, ◌∙◌, append_assoc, append-nil, arith, below_more}
use Rattle.std.specs.Prelude.{OnOk, slice_get}
use Rattle.tp_stream.proofs.Lower.{true≢false, map-append, take_all, take_more, All-append, All-cons, All-nil, slice_get-get_or, slice_get_within, JournalRoom, Flushing, GivenInput, Notice, OutputBegins, InputBegins, HasCome, Noticed, Given, OutputValue, given_of}
use Rattle.tp_stream.specs.declared.standing.Standing.{Standing}
use Rattle.tp_stream.specs.Standing.{from_of}
use Rattle.tp_stream.specs.Told.{HasTold, IsLater, TellsProgress, ToldFirst, ToldLater, input_begins, output_begins, put_in}

pub noticed_none : (told : Option (List Notice)) → Noticed [] told told
noticed_none None = tt
noticed_none (Some old) = sym (append-nil old)

pub noticed_then : (first then : List Notice) (old mid new : Option (List Notice)) → Noticed first old mid → Noticed then mid new → Noticed (first ++ then) old new
noticed_then first then None None None one other = tt
noticed_then first then None None (Some c) one other = absurd other
noticed_then first then None (Some b) c one other = absurd one
noticed_then first then (Some a) None c one other = absurd one
noticed_then first then (Some a) (Some b) None one other = absurd other
noticed_then first then (Some a) (Some b) (Some c) one other = other ∙ ap (λ front. front ++ then) one ∙ append_assoc a first then

pub told_both : {A E : Type 0} (first then : List Notice) (r : Result A E) (old mid new : Option (List Notice)) → Noticed first old mid → OnOk r (Noticed then mid new) → OnOk r (Noticed (first ++ then) old new)
told_both first then (Ok x) old mid new one other = noticed_then first then old mid new one other
told_both first then (Err e) old mid new one other = tt

-- ## One of a list

same_one : {A : Type 0} (x y : A) → Some x ≡ Some y → x ≡ y
same_one x y e = cc

map_taken : {A B : Type 0} (f : A → B) (xs : List A) (i : ℕ) (x : A) → slice_get xs i ≡ Some x → map f (take (i + 1) xs) ≡ map f (take i xs) ++ f x ∷ []
map_taken f xs i x is =
    let low = slice_get_within xs i x is in
    let here : get_or xs i x ≡ x = same_one (get_or xs i x) x (sym (slice_get-get_or xs i x low) ∙ is) in
    ap (map f) (take_more xs i x low) ∙ map-append f (take i xs) (get_or xs i x ∷ []) ∙ ap (λ z. map f (take i xs) ++ f z ∷ []) here

pub told_more : {A : Type 0} (f : A → Notice) (xs : List A) (i : ℕ) (x : A) (old mid new : Option (List Notice)) → slice_get xs i ≡ Some x → Noticed (map f (take i xs)) old mid
    → Noticed (f x ∷ []) mid new → Noticed (map f (take (i + 1) xs)) old new
told_more f xs i x old mid new is before now =
    subst (λ notices. Noticed notices old new) (sym (map_taken f xs i x is)) (noticed_then (map f (take i xs)) (f x ∷ []) old mid new before now)

pub told_all : {A : Type 0} (f : A → Notice) (xs : List A) (i : ℕ) (old new : Option (List Notice)) → length xs ≤ i → Noticed (map f (take i xs)) old new → Noticed (map f xs) old new
told_all f xs i old new all told = subst (λ ys. Noticed (map f ys) old new) (take_all i xs all) told

-- the notice of an output that was set out
pub said_output : (stands : ℕ → Standing) (old new : OutputValue) (port position : ℕ) (was is : Option (List Notice)) → given_of new ≡ given_of old
    → new.next ≡ from_of (stands old.port) (given_of old) → port ≡ new.port → position ≡ new.next → Noticed (OutputBegins port position ∷ []) was is
    → Noticed (output_begins stands (given_of old) ∷ []) was is
said_output stands old new port position was is same next there at told =
    let here : port ≡ old.port = there ∙ ap (λ (g : Given). g.port) same in
    subst (λ p. Noticed (OutputBegins p (from_of (stands old.port) (given_of old)) ∷ []) was is) here
    (subst (λ n. Noticed (OutputBegins port n ∷ []) was is) (at ∙ next) told)

-- how much of its input a port has accepted
pub said_input : (accepted_at : ℕ → ℕ) (given : GivenInput) (port accepted : ℕ) (was is : Option (List Notice)) → port ≡ given.port → accepted ≡ accepted_at port
    → Noticed (InputBegins port accepted ∷ []) was is → Noticed (input_begins accepted_at given ∷ []) was is
said_input accepted_at given port accepted was is here there told =
    subst (λ p. Noticed (InputBegins p (accepted_at p) ∷ []) was is) here (subst (λ n. Noticed (InputBegins port n ∷ []) was is) there told)

-- of ports that are so
pub told_where : (stands at : ℕ → Standing) (taken had : ℕ → ℕ) (gs : List Given) (is : List GivenInput) (was now : Option (List Notice)) → stands ≡ at → taken ≡ had
    → Noticed (map (output_begins stands) gs ++ map (input_begins taken) is) was now → Noticed (map (output_begins at) gs ++ map (input_begins had) is) was now
told_where stands at taken had gs is was now where_ accept told =
    subst (λ s. Noticed (map (output_begins s) gs ++ map (input_begins had) is) was now) where_
    (subst (λ t. Noticed (map (output_begins stands) gs ++ map (input_begins t) is) was now) accept told)

-- up to where the outputs of one more port were put
pub put_more : (outputs : List OutputValue) (put : List (Option ℕ)) (port : ℕ) (here : Option ℕ) → port < length put → here ≡ put_in outputs port
    → ((p : ℕ) → p < port → get_or put p None ≡ put_in outputs p) → (p : ℕ) → p < port + 1 → get_or (set put port here) p None ≡ put_in outputs p
put_more outputs put port here there is before =
    below_more (λ p. get_or (set put port here) p None ≡ put_in outputs p) port
    (λ p low. get_or-set_other put port p here None (λ same. omega (arith, low, same)) ∙ before p low) (get_or-set_same put port here None there ∙ is)

-- ## What comes later

pub later_none : (nodes : ℕ) (told : Option (List Notice)) → ToldLater nodes told told
later_none nodes told = record { notices = []; each = All-nil (IsLater nodes); told = noticed_none told }

pub later_one : (nodes : ℕ) (notice : Notice) (old new : Option (List Notice)) → IsLater nodes notice → Noticed (notice ∷ []) old new → ToldLater nodes old new
later_one nodes notice old new is told = record { notices = notice ∷ []; each = All-cons (IsLater nodes) notice [] is (All-nil (IsLater nodes)); told = told }

pub later_then : (nodes : ℕ) (old mid new : Option (List Notice)) → ToldLater nodes old mid → ToldLater nodes mid new → ToldLater nodes old new
later_then nodes old mid new one other = record {
  notices = one.notices ++ other.notices;
  each = All-append (IsLater nodes) one.notices other.notices one.each other.each;
  told = noticed_then one.notices other.notices old mid new one.told other.told;
}

-- whether it is told
pub tells_nothing : (tells : Bool) (journal : JournalRoom) (f : Flushing) (made : ℕ) (outputs : List OutputValue) (told : Option (List Notice)) → not tells ≡ true
    → TellsProgress tells journal f made outputs told told
tells_nothing true journal f made outputs told isnt = absurd (true≢false (sym isnt))
tells_nothing false journal f made outputs told isnt = noticed_none told

pub tells_once : (tells : Bool) (journal : JournalRoom) (f : Flushing) (made : ℕ) (outputs : List OutputValue) (old new : Option (List Notice)) → not tells ≡ false
    → HasTold journal f made outputs old new → TellsProgress tells journal f made outputs old new
tells_once true journal f made outputs old new is told = told
tells_once false journal f made outputs old new is told = absurd (true≢false is)

-- how far it has come, if that is told
pub later_progress : (nodes : ℕ) (tells : Bool) (journal : JournalRoom) (f : Flushing) (made : ℕ) (outputs : List OutputValue) (old new : Option (List Notice))
    → TellsProgress tells journal f made outputs old new → ToldLater nodes old new
later_progress nodes true journal f made outputs old new told = later_one nodes (HasCome told.progress) old new tt told.told
later_progress nodes false journal f made outputs old new told = record { notices = []; each = All-nil (IsLater nodes); told = told }

pub first_later : (first : List Notice) (nodes : ℕ) (old mid new : Option (List Notice)) → Noticed first old mid → ToldLater nodes mid new → ToldFirst first nodes old new
first_later first nodes old mid new told later = record { between = mid; told = told; later = later }
