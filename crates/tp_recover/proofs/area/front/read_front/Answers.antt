use Rattle.std.proofs.Common.{◌≡◌, ◌∙◌, sym, ap, arith}
use Rattle.tp_recover.proofs.Lower.{area_start, content_of, cut_length, front_given, AreTrue}
use Rattle.tp_recover.proofs.Ages.{front_age}
use Rattle.tp_recover.proofs.Areas.{front_given-read}
use Rattle.tp_recover.proofs.Passing.{found_is}
use Rattle.tp_recover.proofs.Room.{area_room}
use Rattle.tp_recover.proofs.area.front.read_front.Given as given
use Rattle.tp_recover.proofs.area.front.read_front.Goals as goal
use Rattle.tp_recover.proofs.area.front.read_front.Goals.{After-cut_front}

-- the answer was what the fields say
is_front : (g : given.Over) (c : After-cut_front g) → AreTrue (g.D.Disk.reads c.read_array.new.disk)
    → front_given c.args.head.now.topology (area_start c.args.head.now.areas c.args.second) (content_of c.args.head.now.areas c.args.second (g.D.Disk.state c.args.disk.now).now.bytes) ≡ c.cut_front.result
is_front g c k =
    let t = c.args.head.now.topology in
    let areas = c.args.head.now.areas in
    let xs = (g.D.Disk.state c.args.disk.now).now.bytes in
    let wanted : c.cut_length-wanted.result ≡ cut_length t = c.cut_length-wanted.ensures.value ∙ ap cut_length c.topology.ensures.value in
    let start : c.area_start-start.result ≡ area_start areas c.args.second = c.area_start-start.ensures ∙ ap (λ a. area_start a c.args.second) c.areas.ensures.value in
    front_given-read t (area_start areas c.args.second) areas c.args.second c.area_start-start.result xs c.in_ok-bytes.bytes
    (omega (arith, area_room t areas.length c.areas.ensures.roomy)) start (sym (found_is _ _ (c.in_ok-bytes.ensures.bytes k)))
    ∙ ap (λ s. front_given t s c.in_ok-bytes.bytes) (sym start)
    ∙ sym (c.cut_front.ensures.is t wanted)

pub returns-in-Ok-clause-is : goal.returns-in-Ok-clause-is
returns-in-Ok-clause-is g c k = is_front g (goal.at.returns-in-Ok-clause-is g c).After-cut_front k ∙ c.in-Ok.is

pub returns-in-Err-clause-is : goal.returns-in-Err-clause-is
returns-in-Err-clause-is g c k = is_front g (goal.at.returns-in-Err-clause-is g c).After-cut_front k ∙ c.in-Err.is

pub returns-in-Ok-clause-age : goal.returns-in-Ok-clause-age
returns-in-Ok-clause-age g c =
    let t = c.args.head.now.topology in
    let wanted : c.cut_length-wanted.result ≡ cut_length t = c.cut_length-wanted.ensures.value ∙ ap cut_length c.topology.ensures.value in
    front_age t c.area_start-start.result c.in_ok-bytes.bytes _ (sym (c.cut_front.ensures.is t wanted) ∙ c.in-Ok.is)
