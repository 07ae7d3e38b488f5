-- Streams whose ends aren't opened, or whose stop file isn't taken.
use Rattle.std.proofs.Common.{◌≡◌, ◌∙◌, ℕ, List, map, Option, None, Err, Result, refl, sym, ap, subst}
use Rattle.tp_program.proofs.Lower.{NodeState, Network, State, map-map, StreamedInto, OutputValue, GivenInput, NamedInput, given_input, named_input, input_from, inputs_named, outputs_named, Ends, Ended, StreamFault}
use Rattle.tp_program.specs.Streaming.{IsOfEnds, IsUnopened, FindsNothingNew, OnOpened, StreamedOn, inputs_for}
use Rattle.tp_program.specs.declared.streaming.FilesFault.{FilesFault}
use Rattle.tp_program.specs.declared.streaming.FilesFault.TheVariants.{End, Stop, Stream}

-- the device is as it was
pub ends_streamed : (start : Network NodeState) (ends : Ends) (fault : FilesFault) (s : State) → IsOfEnds fault → StreamedOn start ends (Err fault) s s
ends_streamed start ends (End fault) s is = refl
ends_streamed start ends (Stop fault) s is = refl
ends_streamed start ends (Stream fault) s is = absurd is

pub ends_unwritten : (fault : FilesFault) (s : State) → IsOfEnds fault → FindsNothingNew (Err fault) s s
ends_unwritten (End fault) s is = refl
ends_unwritten (Stop fault) s is = refl
ends_unwritten (Stream fault) s is = absurd is

-- and wasn't read
pub ends_unopened : (fault : FilesFault) → IsOfEnds fault → IsUnopened (Err fault)
ends_unopened (End fault) is = tt
ends_unopened (Stop fault) is = tt
ends_unopened (Stream fault) is = absurd is

-- and no output or input was opened
pub ends_own : (fault : FilesFault) (P : Type 0) → IsOfEnds fault → OnOpened (Err fault) P
ends_own (End fault) P of = tt
ends_own (Stop fault) P of = tt
ends_own (Stream fault) P of = absurd of

-- ## Streams that went on

-- the inputs that were opened are those that were named
inputs_given : {I : Type 0} (port : I → ℕ) (path : I → Option (List ℕ)) (inputs : List I) (ends : Ends) → map (λ i. named_input (port i) (path i)) inputs ≡ inputs_named ends
    → map (λ i. given_input (port i) None) inputs ≡ inputs_for ends
inputs_given port path inputs ends named =
    let given : NamedInput → GivenInput = λ n. given_input n.port None in
    sym (map-map given (λ i. named_input (port i) (path i)) inputs) ∙ ap (map given) named ∙ map-map given input_from ends.ins.items

-- and so are the outputs
pub got_named : {I : Type 0} (port : I → ℕ) (path : I → Option (List ℕ)) (inputs : List I) (start : Network NodeState) (done is : Result Ended StreamFault) (ends : Ends)
    → (was got : List OutputValue) (old new : State) → done ≡ is → map (λ i. named_input (port i) (path i)) inputs ≡ inputs_named ends → was ≡ outputs_named ends
    → StreamedInto start (map (λ i. given_input (port i) None) inputs) done was got old new
    → (got : List OutputValue) × StreamedInto start (inputs_for ends) is (outputs_named ends) got old new
got_named port path inputs start done is ends was got old new same fed named into = (
  got,
  subst (λ (given : List GivenInput). StreamedInto start given is (outputs_named ends) got old new) (inputs_given port path inputs ends fed)
      (subst (λ (done : Result Ended StreamFault). StreamedInto start (map (λ i. given_input (port i) None) inputs) done (outputs_named ends) got old new) same
      (subst (λ (was : List OutputValue). StreamedInto start (map (λ i. given_input (port i) None) inputs) done was got old new) named into)),
)
