-- Calls of an outlet, one more.
use Rattle.std.proofs.Common.{◌≡◌, ℕ, ◌+◌, ◌<◌, inl, List, [], ◌∷◌, ◌++◌, length, drop, length-append, length-drop, arith, Option, Some, None, Result, refl, sym, ap, subst, ◌∙◌, append_assoc}
use Rattle.tp_model.specs.DiskHistory.{State}
use Rattle.tp_run.specs.declared.outlet.OutletFault.{OutletFault}
use Rattle.tp_run.specs.Outlet.{AreCalls, CallsMore, OutletCall, OutletValue, WasCalled, left_behind, rest_behind}

calls_on : (there : State) (bytes : List ℕ) (calls : List OutletCall) (call : OutletCall) → AreCalls there bytes calls → 0 < length (left_behind bytes calls) → call.bytes ≡ left_behind bytes calls
    → call.there ≡ there → AreCalls there bytes (calls ++ call ∷ [])
calls_on there bytes [] call are some is at = (some, is, at, tt)
calls_on there bytes (first ∷ calls) call are some is at = (are.0, are.1, are.2, calls_on there (rest_behind bytes first.answer) calls call are.3 some is at)

rest_on : (bytes : List ℕ) (calls : List OutletCall) (call : OutletCall) → left_behind bytes (calls ++ call ∷ []) ≡ rest_behind (left_behind bytes calls) call.answer
rest_on bytes [] call = refl
rest_on bytes (first ∷ calls) call = rest_on (rest_behind bytes first.answer) calls call

more_on : (was then now : Option (List OutletCall)) (calls more : List OutletCall) → CallsMore was then calls → CallsMore then now more → CallsMore was now (calls ++ more)
more_on None then now calls more first second = tt
more_on (Some xs) None now calls more first second = absurd first
more_on (Some xs) (Some ys) None calls more first second = absurd second
more_on (Some xs) (Some ys) (Some zs) calls more first second = second ∙ ap (λ noted. noted ++ more) first ∙ append_assoc xs calls more

-- an outlet that was called for bytes `count` times, and what is left of them
pub record CalledFor (there : State) (bytes left : List ℕ) (count : ℕ) (was now : OutletValue) : Type 0 where
  pub calls : List OutletCall
  pub more : CallsMore was.calls now.calls calls
  pub are : AreCalls there bytes calls
  pub rest : left_behind bytes calls ≡ left
  pub many : length calls ≡ count

pub called_on : (there : State) (bytes left : List ℕ) (count : ℕ) (was then now : OutletValue) (answer : Result ℕ OutletFault) → 0 < length left → CalledFor there bytes left count was then
    → CallsMore then.calls now.calls (record { bytes = left; answer = answer; there = there } ∷ []) → CalledFor there bytes (rest_behind left answer) (count + 1) was now
called_on there bytes left count was then now answer some C more =
    let call : OutletCall = record { bytes = left; answer = answer; there = there } in
    let long = length-append C.calls (call ∷ []) in
    let many = C.many in
    record {
      calls = C.calls ++ call ∷ [];
      more = more_on was.calls then.calls now.calls C.calls (call ∷ []) C.more more;
      are = calls_on there bytes C.calls call C.are (subst (λ rest. 0 < length rest) (sym C.rest) some) (sym C.rest) refl;
      rest = rest_on bytes C.calls call ∙ ap (λ rest. rest_behind rest answer) C.rest;
      many = omega (arith, long, many);
    }

-- none is left of them
pub was_called : (there : State) (bytes left : List ℕ) (count : ℕ) (was now : OutletValue) → CalledFor there bytes left count was now → left ≡ [] → WasCalled there bytes was now
was_called there bytes left count was now C none = record { calls = C.calls; more = C.more; are = C.are; over = inl (C.rest ∙ none) }

-- some of the first bytes are taken, and some are left
pub some_left : (taken : ℕ) (bytes : List ℕ) → taken < length bytes → 0 < length (drop taken bytes)
some_left taken bytes below = let long = length-drop taken bytes in omega (arith, long, below)
