use Rattle.std.proofs.Common.{◌≡◌, ℕ, ◌≤◌, ◌++◌, ◌∙◌, ap, arith, List, length, take, drop, OnOk, Ok, Err}
use Rattle.std.specs.Prelude.{Result}
use Rattle.tp_recover.proofs.Lower.{common_steps, read_gave, Moment, Read, done}
use Rattle.tp_recover.proofs.Leaving.{read_leaves}
use Rattle.tp_recover.proofs.reading.fetching.read_front.Goals as goal

pub returns-clause-leaves : goal.returns-clause-leaves
returns-clause-leaves g c =
    read_leaves c.read.result (g.D.Disk.state c.args.disk.now) (g.D.Disk.state c.read.new.self) c.read.ensures.goes c.read.ensures.after c.read.ensures.failed

-- what came is put in front of what was there
came_front : {E : Type 0} (r : Result Unit E) (count at : ℕ) (came were : List ℕ) (old new : Moment) → count ≤ length were → length came ≡ length (take count were)
    → OnOk r (came ≡ take (length (take count were)) (drop at old.bytes)) → OnOk r (new ≡ done Read old)
    → OnOk r (take count (came ++ drop count were) ≡ take count (drop at new.bytes))
came_front (Ok u) count at came were old new few sized is after = grind (arith, common_steps, is, after, sized, few)
came_front (Err e) count at came were old new few sized is after = tt

pub returns-clause-bytes : goal.returns-clause-bytes
returns-clause-bytes g c k =
    let old = g.D.Disk.state c.args.disk.now in
    let new = g.D.Disk.state c.read.new.self in
    came_front c.read.result c.args.count c.args.at c.read.new.out c.args.bytes.now old.now new.now c.requires.few c.read.auto.out
    (read_gave c.read.result c.args.at _ c.read.new.out old.now.bytes _ _ c.read.auto.out c.read.ensures.noted k) c.read.ensures.after
