use Rattle.std.proofs.Common.{◌≡◌, ◌∷◌, [], ◌≤◌, ℕ, Result, Ok, Err, ap, ◌∙◌, arith, IfOk, IsOk, OnOk, OnErr, ◌<◌, true, false, refl}
use Rattle.tp_mem.proofs.Lower.{list_any, touches, block_ranges}
use Rattle.tp_mem.proofs.Touches.{or_none, shared_from-same, wanted_from-same}
use Rattle.tp_mem.proofs.cow.CowMemory.make_private.Goals as goal

if_ok : {E : Type 0} (r : Result (Unit {0}) E) (P Q : Type 0) → (P → Q) → IfOk r (λ _. P) → IfOk r (λ _. Q)
if_ok (Ok u) P Q step so = step so
if_ok (Err e) P Q step so = tt

exactly : {E : Type 0} (r : Result (Unit {0}) E) (wanted others free : ℕ) (P Q : Type 0) → wanted ≡ others → OnOk r (wanted ≤ free) → OnErr r (P × Q × (free < wanted)) → (IsOk r → others ≤ free) × (others ≤ free → IsOk r)
exactly (Ok u) wanted others free P Q same fits err = ((λ ok. omega arith), (λ few. refl))
exactly (Err e) wanted others free P Q same fits err = ((λ ok. absurd (let no : false ≡ true = ok in cc)), (λ few. absurd (omega (arith, err.2))))

pub returns-clause-ok : goal.returns-clause-ok
returns-clause-ok c =
    let same : (p : ℕ) → list_any (touches p) (c.block.result ∷ (0, 0) ∷ []) ≡ list_any (touches p) (block_ranges c.args.address c.args.count) = λ p. or_none (touches p c.block.result) ∙ c.block.ensures.pages p in
    if_ok c.separate.result _ _ (λ is. is ∙ ap (λ pages. record c.args.self.now { shared = pages }) (shared_from-same 0 c.args.self.now.shared (c.block.result ∷ (0, 0) ∷ []) (block_ranges c.args.address c.args.count) same)) c.separate.ensures.ok

pub returns-clause-exact : goal.returns-clause-exact
returns-clause-exact c =
    let same : (p : ℕ) → list_any (touches p) (c.block.result ∷ (0, 0) ∷ []) ≡ list_any (touches p) (block_ranges c.args.address c.args.count) = λ p. or_none (touches p c.block.result) ∙ c.block.ensures.pages p in
    let wanted = wanted_from-same 0 c.args.self.now.shared (c.block.result ∷ (0, 0) ∷ []) (block_ranges c.args.address c.args.count) same in
    exactly c.separate.result _ _ _ _ _ wanted c.separate.ensures.fits c.separate.ensures.err
