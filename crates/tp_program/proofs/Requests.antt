-- Devices that are asked for again, and requests to stop that are made again.
use Rattle.std.proofs.Common.{◌≡◌, ◌∙◌, ℕ, ◌+◌, Bool, List, [], ◌∷◌, ◌++◌, map, ap, sym, append_assoc}
use Rattle.std.specs.Prelude.{replicate}
use Rattle.std.proofs.lemmas.List.{map_push, replicate_more}
use Rattle.tp_program.specs.Devices.{DeviceCall, Requests}
use Rattle.tp_program.specs.Stops.{request_path}
use Rattle.tp_program.specs.Uses.{AsksAgain}

-- one more call of a kind is made
pub once_more : (call : DeviceCall) (times : ℕ) (old mid new : List DeviceCall) → mid ≡ old ++ replicate times call → new ≡ mid ++ call ∷ [] → new ≡ old ++ replicate (times + 1) call
once_more call times old mid new before then =
    then ∙ ap (λ calls. calls ++ call ∷ []) before ∙ append_assoc old (replicate times call) (call ∷ []) ∙ ap (λ calls. old ++ calls) (replicate_more times call)

-- one more request is made
pub asks_once_more : (device : List ℕ) (old mid new : List DeviceCall) (ok : Bool) → AsksAgain device old mid → new ≡ mid ++ Requests (request_path device) ok ∷ []
    → AsksAgain device old new
asks_once_more device old mid new ok again more = record {
  made = again.made ++ ok ∷ [];
  uses = more ∙ ap (λ calls. calls ++ Requests (request_path device) ok ∷ []) again.uses
      ∙ append_assoc old (map (Requests (request_path device)) again.made) (Requests (request_path device) ok ∷ [])
      ∙ ap (λ calls. old ++ calls) (sym (map_push (Requests (request_path device)) again.made ok));
}
