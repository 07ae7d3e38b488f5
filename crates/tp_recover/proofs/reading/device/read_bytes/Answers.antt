use Rattle.std.proofs.Common.{◌≡◌, ℕ, ◌≤◌, List, ◌++◌, Err, Vec, length, take, ◌∙◌, arith, Global}
use Rattle.tp_recover.proofs.Lower.{take-append-le, take_all, err_from_is_err_and}
use Rattle.tp_recover.specs.declared.unopened.Unopened.{Unopened}
use Rattle.tp_recover.specs.declared.unopened.Unopened.TheVariants.{Fault, ReadFailed, Memory}
use Rattle.tp_recover.specs.Reading.{ReadAnswer, found}
use Rattle.tp_recover.proofs.Leaving.{none_leaves}
use Rattle.tp_recover.proofs.reading.device.read_bytes.Goals as goal

-- the front of as many items as there are
take-whole : (n : ℕ) (xs ys : List ℕ) → length xs ≡ n → take n (xs ++ ys) ≡ xs
take-whole n xs ys is = let inside : n ≤ length xs = omega arith in rw take-append-le (take_all n xs (omega arith))

-- if a value is there whatever the bytes are, a fault is no answer
no_fault : {A B C : Type 0} (one : A → C) (other : B → C) (x y : C) (error : Unopened) → ReadAnswer one (found x) (Err error) → ReadAnswer other (found y) (Err error)
no_fault one other x y (Fault fault) is = absurd (cc)
no_fault one other x y ReadFailed is = tt
no_fault one other x y Memory is = tt

pub returns-then-is_err-clause-leaves : goal.returns-then-is_err-clause-leaves
returns-then-is_err-clause-leaves g c = none_leaves (g.D.Disk.state c.args.disk.now)

pub returns-in_err-fill-clause-counts : goal.returns-in_err-fill-clause-counts
returns-in_err-fill-clause-counts g c =
    let p = err_from_is_err_and c.from_residual.result c.from_residual.ensures.1 in
    rw (p.1, p.2) c.in_err-fill.ensures.counts

pub returns-in_err-fill-clause-kept : goal.returns-in_err-fill-clause-kept
returns-in_err-fill-clause-kept g c =
    let p = err_from_is_err_and c.from_residual.result c.from_residual.ensures.1 in
    rw (p.1, p.2) c.in_err-fill.ensures.kept

pub returns-in_err-fill-clause-leaves : goal.returns-in_err-fill-clause-leaves
returns-in_err-fill-clause-leaves g c = c.fill.ensures.leaves

pub returns-in_err-fill-clause-bytes : goal.returns-in_err-fill-clause-bytes
returns-in_err-fill-clause-bytes g c k =
    let p = err_from_is_err_and c.from_residual.result c.from_residual.ensures.1 in
    rw (p.1, p.2) (no_fault {A = Unit {0}} {B = Vec ℕ Global} (λ done. c.fill.new.out) (λ bytes. bytes.items) _ _ c.in_err-fill.field-0.0 (c.in_err-fill.ensures.bytes k))

pub returns-clause-len : goal.returns-clause-len
returns-clause-len g c =
    let is_count : length c.deref_mut.result.now ≡ c.args.count = grind arith in
    let is_len : length c.fill.new.out ≡ c.resize.new.self.len = grind arith in
    rw (take-whole c.resize.new.self.len c.fill.new.out _ is_len) (c.fill.ensures.len ∙ is_count)

pub returns-clause-fit : goal.returns-clause-fit
returns-clause-fit g c =
    let is_len : length c.fill.new.out ≡ c.resize.new.self.len = grind arith in
    rw (take-whole c.resize.new.self.len c.fill.new.out _ is_len) c.fill.ensures.fit

pub returns-clause-kept : goal.returns-clause-kept
returns-clause-kept g c = c.in_ok-fill.ensures.kept

pub returns-clause-leaves : goal.returns-clause-leaves
returns-clause-leaves g c = c.fill.ensures.leaves

pub returns-clause-bytes : goal.returns-clause-bytes
returns-clause-bytes g c k =
    let is_count : c.args.count ≡ length c.deref_mut.result.now = grind arith in
    let is_len : length c.fill.new.out ≡ c.resize.new.self.len = grind arith in
    rw (take-whole c.resize.new.self.len c.fill.new.out _ is_len, is_count) (c.in_ok-fill.ensures.bytes k)
