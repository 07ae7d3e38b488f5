-- What a step does that asks something of an end of a link.
use Rattle.std.proofs.Common.{◌≡◌, ℕ, zero, suc, ◌<◌, ◌≤◌, List, [], ◌∷◌, length, Option, Some, None, get_or, set, refl, sym, ap, subst, ◌∙◌, arith}
use Rattle.std.specs.Prelude.{option_to_list, slice_get}
use Rattle.tp_node.proofs.Lower.{slice_get_past, LinkOutcome, Did, Fails, begin_output, begin_input, halted, on_link, after_output, after_input, asks_output, asks_input, NodeState, begin_output_ranges, begin_input_ranges, where_done, asks_output_ranges, asks_input_ranges, past, Kept, LacksFrames, InEnd, OutEnd, Token, Cpu, Fault, InRequest, OutRequest}
use Rattle.tp_node.specs.LinkEnds.{IsDone}
use Rattle.tp_node.specs.Makes.{Makes}
use Rattle.tp_node.specs.StateWith.{state_with}
use Rattle.tp_node.specs.declared.head.Head.{Head}
use Rattle.tp_node.specs.declared.step.StepOutcome.TheVariants.{Step, Idle, NoFrame}

-- an end that is read
pub slice_get-here : {A : Type 0} (xs : List A) (i : ℕ) (x : A) → i < length xs → slice_get xs i ≡ Some (get_or xs i x)
slice_get-here [] i x within = absurd (omega arith)
slice_get-here (y ∷ xs) zero x within = refl
slice_get-here (y ∷ xs) (suc i) x within = slice_get-here xs i x (omega arith)

-- what a call that makes a step answers and leaves, by what the step is
Makes-step : (after : Option (NodeState × List (ℕ × Token))) (cause : Type 0) (before now : NodeState) (leaves : Option (ℕ × Token)) (tokens : List (ℕ × Token)) → after ≡ Some (now, tokens) → option_to_list leaves ≡ tokens → Makes after cause before (Step leaves) now
Makes-step None cause before now leaves tokens is same = absurd (cc)
Makes-step (Some made) cause before now leaves tokens is same =
    let here : made ≡ (now, tokens) = cc in
    (sym (ap (λ (m : NodeState × List (ℕ × Token)). m.0) here), same ∙ sym (ap (λ (m : NodeState × List (ℕ × Token)). m.1) here))

Makes-no_frame : (after : Option (NodeState × List (ℕ × Token))) (cause : Type 0) (before now : NodeState) (made : NodeState × List (ℕ × Token)) → after ≡ Some made → cause → now ≡ before → Makes after cause before NoFrame now
Makes-no_frame None cause before now made is lacks same = absurd (cc)
Makes-no_frame (Some other) cause before now made is lacks same = (lacks, same)

where_done-is : {End : Type 0} (outcome : LinkOutcome End) (ranges : List (ℕ × ℕ)) → IsDone outcome → where_done outcome ranges ≡ ranges
where_done-is (Did cpu memory end token) ranges done = refl
where_done-is (Fails fault) ranges done = absurd done

-- what an instruction asks of an output end: the node after it, and what is written
module _ (request : OutRequest) (head : Head) (memory : List ℕ) (end : OutEnd) (told : Cpu) (get : slice_get head.outputs request.link ≡ Some end) (told_is : told ≡ past request.next head.cpu) where
  asks_output-is : asks_output request (state_with head memory) ≡ Some (after_output request.link (begin_output request end told memory) (state_with head memory))
  asks_output-is = rw get (ap (λ (cpu : Cpu). Some (after_output request.link (begin_output request end cpu memory) (state_with head memory))) (sym told_is))

  asks_output_ranges-is : asks_output_ranges request (state_with head memory) ≡ where_done (begin_output request end told memory) (begin_output_ranges request told)
  asks_output_ranges-is = rw get (ap (λ (cpu : Cpu). where_done (begin_output request end cpu memory) (begin_output_ranges request cpu)) (sym told_is))

  module _ (cpu : Cpu) (now : List ℕ) (new : OutEnd) (token : Option Token) (did : begin_output request end told memory ≡ Did cpu now new token) where
    pub Makes-output_did : (cause : Type 0) (leaves : Option (ℕ × Token)) → option_to_list leaves ≡ on_link request.link token
        → Makes (asks_output request (state_with head memory)) cause (state_with head memory) (Step leaves) (state_with (record head { cpu = cpu; outputs = set head.outputs request.link new }) now)
    Makes-output_did cause leaves same =
        Makes-step (asks_output request (state_with head memory)) cause (state_with head memory) (state_with (record head { cpu = cpu; outputs = set head.outputs request.link new }) now) leaves (on_link request.link token)
        (asks_output-is ∙ ap (λ (outcome : LinkOutcome OutEnd). Some (after_output request.link outcome (state_with head memory))) did) same

    pub output_did-ranges : asks_output_ranges request (state_with head memory) ≡ begin_output_ranges request told
    output_did-ranges = asks_output_ranges-is ∙ ap (λ (outcome : LinkOutcome OutEnd). where_done outcome (begin_output_ranges request told)) did

  module _ (fault : Fault) (failed : begin_output request end told memory ≡ Fails fault) where
    pub Makes-output_failed : (cause : Type 0) (now : List ℕ) → now ≡ memory
        → Makes (asks_output request (state_with head memory)) cause (state_with head memory) (Step None) (halted fault (state_with head now))
    Makes-output_failed cause now same =
        Makes-step (asks_output request (state_with head memory)) cause (state_with head memory) (halted fault (state_with head now)) None []
        (asks_output-is ∙ ap (λ (outcome : LinkOutcome OutEnd). Some (after_output request.link outcome (state_with head memory))) failed ∙ ap (λ (m : List ℕ). Some (halted fault (state_with head m), [])) (sym same)) refl

    pub output_failed-ranges : asks_output_ranges request (state_with head memory) ≡ []
    output_failed-ranges = asks_output_ranges-is ∙ ap (λ (outcome : LinkOutcome OutEnd). where_done outcome (begin_output_ranges request told)) failed

  pub Makes-output_no_frame : (kept : Kept) (now : List ℕ) → IsDone (begin_output request end told memory) → LacksFrames kept (begin_output_ranges request told) → now ≡ memory
      → Makes (asks_output request (state_with head memory)) (LacksFrames kept (asks_output_ranges request (state_with head memory))) (state_with head memory) NoFrame (state_with head now)
  Makes-output_no_frame kept now done lacks same =
      let ranges = asks_output_ranges-is ∙ where_done-is (begin_output request end told memory) (begin_output_ranges request told) done in
      Makes-no_frame (asks_output request (state_with head memory)) _ (state_with head memory) (state_with head now) _ asks_output-is (subst (λ (rs : List (ℕ × ℕ)). LacksFrames kept rs) (sym ranges) lacks) (ap (state_with head) same)

pub asks_output-past : (request : OutRequest) (head : Head) (memory : List ℕ) (cause : Type 0) → length head.outputs ≤ request.link → Makes (asks_output request (state_with head memory)) cause (state_with head memory) Idle (state_with head memory)
asks_output-past request head memory cause past_all = rw (slice_get_past head.outputs request.link past_all) refl

-- what an instruction asks of an input end: the node after it, and what is written
module _ (request : InRequest) (head : Head) (memory : List ℕ) (end : InEnd) (told : Cpu) (get : slice_get head.inputs request.link ≡ Some end) (told_is : told ≡ past request.next head.cpu) where
  asks_input-is : asks_input request (state_with head memory) ≡ Some (after_input request.link (begin_input request.wish end told memory) (state_with head memory))
  asks_input-is = rw get (ap (λ (cpu : Cpu). Some (after_input request.link (begin_input request.wish end cpu memory) (state_with head memory))) (sym told_is))

  asks_input_ranges-is : asks_input_ranges request (state_with head memory) ≡ where_done (begin_input request.wish end told memory) (begin_input_ranges request.wish end told memory)
  asks_input_ranges-is = rw get (ap (λ (cpu : Cpu). where_done (begin_input request.wish end cpu memory) (begin_input_ranges request.wish end cpu memory)) (sym told_is))

  module _ (cpu : Cpu) (now : List ℕ) (new : InEnd) (token : Option Token) (did : begin_input request.wish end told memory ≡ Did cpu now new token) where
    pub Makes-input_did : (cause : Type 0) (leaves : Option (ℕ × Token)) → option_to_list leaves ≡ on_link request.link token
        → Makes (asks_input request (state_with head memory)) cause (state_with head memory) (Step leaves) (state_with (record head { cpu = cpu; inputs = set head.inputs request.link new }) now)
    Makes-input_did cause leaves same =
        Makes-step (asks_input request (state_with head memory)) cause (state_with head memory) (state_with (record head { cpu = cpu; inputs = set head.inputs request.link new }) now) leaves (on_link request.link token)
        (asks_input-is ∙ ap (λ (outcome : LinkOutcome InEnd). Some (after_input request.link outcome (state_with head memory))) did) same

    pub input_did-ranges : asks_input_ranges request (state_with head memory) ≡ begin_input_ranges request.wish end told memory
    input_did-ranges = asks_input_ranges-is ∙ ap (λ (outcome : LinkOutcome InEnd). where_done outcome (begin_input_ranges request.wish end told memory)) did

  module _ (fault : Fault) (failed : begin_input request.wish end told memory ≡ Fails fault) where
    pub Makes-input_failed : (cause : Type 0) (now : List ℕ) → now ≡ memory
        → Makes (asks_input request (state_with head memory)) cause (state_with head memory) (Step None) (halted fault (state_with head now))
    Makes-input_failed cause now same =
        Makes-step (asks_input request (state_with head memory)) cause (state_with head memory) (halted fault (state_with head now)) None []
        (asks_input-is ∙ ap (λ (outcome : LinkOutcome InEnd). Some (after_input request.link outcome (state_with head memory))) failed ∙ ap (λ (m : List ℕ). Some (halted fault (state_with head m), [])) (sym same)) refl

    pub input_failed-ranges : asks_input_ranges request (state_with head memory) ≡ []
    input_failed-ranges = asks_input_ranges-is ∙ ap (λ (outcome : LinkOutcome InEnd). where_done outcome (begin_input_ranges request.wish end told memory)) failed

  pub Makes-input_no_frame : (kept : Kept) (now : List ℕ) → IsDone (begin_input request.wish end told memory) → LacksFrames kept (begin_input_ranges request.wish end told memory) → now ≡ memory
      → Makes (asks_input request (state_with head memory)) (LacksFrames kept (asks_input_ranges request (state_with head memory))) (state_with head memory) NoFrame (state_with head now)
  Makes-input_no_frame kept now done lacks same =
      let ranges = asks_input_ranges-is ∙ where_done-is (begin_input request.wish end told memory) (begin_input_ranges request.wish end told memory) done in
      Makes-no_frame (asks_input request (state_with head memory)) _ (state_with head memory) (state_with head now) _ asks_input-is (subst (λ (rs : List (ℕ × ℕ)). LacksFrames kept rs) (sym ranges) lacks) (ap (state_with head) same)

pub asks_input-past : (request : InRequest) (head : Head) (memory : List ℕ) (cause : Type 0) → length head.inputs ≤ request.link → Makes (asks_input request (state_with head memory)) cause (state_with head memory) Idle (state_with head memory)
asks_input-past request head memory cause past_all = rw (slice_get_past head.inputs request.link past_all) refl
