-- What is wrong with ends is never told as what is wrong with one of the texts that were typed.
use Rattle.std.proofs.Common.{◌≡◌, ℕ, Bool, true, false, Option, Some, None, List, [], ◌∷◌, refl, sym, subst, nat_lt}
use Rattle.std.specs.Prelude.{if◌then◌else◌}
use Rattle.tp_words.proofs.Lower.{option_or, Global, String, standard_port, Ends, PortNumber}
use Rattle.tp_words.specs.Ends.{IsFaultOf, IsFirstFault, IsRefused, WereTyped, fault_at, fault_behind, input_count, is_port, places, reader_fault, second_reader, standard_count}
use Rattle.tp_words.specs.declared.stream_ends.EndsFault.{EndsFault}
use Rattle.tp_words.specs.declared.stream_ends.EndsFault.TheVariants.{File, Have, Discard, TwoOutputs, TwoInputs, TwoStandard, NoReader, Memory}
use Rattle.tp_words.specs.declared.stream_ends.FileOption.TheVariants.{Out, In}

abbrev is_of_ends : EndsFault → Bool
is_of_ends (File option) = false
is_of_ends Have = false
is_of_ends Discard = false
is_of_ends (TwoOutputs port) = true
is_of_ends (TwoInputs port) = true
is_of_ends (TwoStandard option) = true
is_of_ends (NoReader port) = true
is_of_ends Memory = false

abbrev AreOfEnds : Option EndsFault → Type 0
AreOfEnds None = Unit {0}
AreOfEnds (Some fault) = is_of_ends fault ≡ true

either : (p : Bool) (one other : Option EndsFault) → AreOfEnds one → AreOfEnds other → AreOfEnds (if p then one else other)
either true one other first second = first
either false one other first second = second

at_port : (ends : Ends) (port : ℕ) → AreOfEnds (fault_at ends port)
at_port ends port =
    either (nat_lt 1 (places ends port)) (Some (TwoOutputs port)) (if nat_lt 1 (input_count ends port) then Some (TwoInputs port) else None) refl
    (either (nat_lt 1 (input_count ends port)) (Some (TwoInputs port)) None refl tt)

second : (haves : List PortNumber) → AreOfEnds (second_reader haves)
second [] = tt
second (have ∷ haves) = refl

readers : (out : Option ℕ) (haves : List PortNumber) → AreOfEnds (reader_fault out haves)
readers out [] = tt
readers out (have ∷ haves) = either (is_port out have.port) (second_reader haves) (Some (NoReader have.port)) (second haves) refl

behind : (ends : Ends) → AreOfEnds (fault_behind ends)
behind ends =
    let last = reader_fault (standard_port ends.outs.items) ends.haves.items in
    either (nat_lt 1 (standard_count ends.outs.items)) (Some (TwoStandard Out)) (if nat_lt 1 (standard_count ends.ins.items) then Some (TwoStandard In) else last) refl
    (either (nat_lt 1 (standard_count ends.ins.items)) (Some (TwoStandard In)) last refl (readers (standard_port ends.outs.items) ends.haves.items))

first_of : (ends : Ends) (first : Option EndsFault) → IsFirstFault ends first → AreOfEnds first
first_of ends None is = tt
first_of ends (Some fault) is = subst (λ (o : Option EndsFault). AreOfEnds o) is.3 (at_port ends is.0)

chosen : (ends : Ends) (first : Option EndsFault) (fault : EndsFault) → IsFirstFault ends first → Some fault ≡ option_or first (fault_behind ends)
    → AreOfEnds (Some fault)
chosen ends None fault is told = subst (λ (o : Option EndsFault). AreOfEnds o) (sym told) (behind ends)
chosen ends (Some other) fault is told = subst (λ (o : Option EndsFault). AreOfEnds o) (sym told) (first_of ends (Some other) is)

fault_is : (ends : Ends) (fault : EndsFault) → IsFaultOf ends (Some fault) → is_of_ends fault ≡ true
fault_is ends fault is = chosen ends is.0 fault is.1 is.2

-- what is wrong with ends that stand for all that was typed is told of the words
pub of_ends : (words : List (String Global)) (ends : Ends) (fault : EndsFault) → WereTyped words ends → IsFaultOf ends (Some fault)
    → IsRefused words fault
of_ends words ends (File option) typed is = let bad = fault_is ends (File option) is in absurd (cc)
of_ends words ends Have typed is = let bad = fault_is ends Have is in absurd (cc)
of_ends words ends Discard typed is = let bad = fault_is ends Discard is in absurd (cc)
of_ends words ends (TwoOutputs port) typed is = (ends, typed, is)
of_ends words ends (TwoInputs port) typed is = (ends, typed, is)
of_ends words ends (TwoStandard option) typed is = (ends, typed, is)
of_ends words ends (NoReader port) typed is = (ends, typed, is)
of_ends words ends Memory typed is = tt
