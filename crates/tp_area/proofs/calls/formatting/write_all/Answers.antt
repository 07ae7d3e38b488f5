use Rattle.std.proofs.Common.{◌+◌, ◌*◌, arith, ◌++◌, ◌∷◌, []}
use Rattle.std.specs.Prelude.{flat_map}
use Rattle.tp_area.proofs.Lower.{zeros, Write, Sync, Called}
use Rattle.tp_area.specs.Formatting.{area_front, with_areas, Wrote}
use Rattle.tp_area.specs.Puts.{ButFor}
use Rattle.tp_area.proofs.Results.{from_ok}
use Rattle.tp_area.proofs.FormatCalls.{front_size, wrote_all, first_leaves, second_leaves, sync_leaves, areas_leave, head_leaves}
use Rattle.tp_area.proofs.calls.formatting.write_all.Goals as goal

pub returns-clause-wrote : goal.returns-clause-wrote
returns-clause-wrote g c =
    let s = g.D.Disk.state c.args.disk.now in
    let t = g.D.Disk.state c.put_first_area.new.disk in
    let u = g.D.Disk.state c.put_piece.new.disk in
    let v = g.D.Disk.state c.sync.new.self in
    let w = g.D.Disk.state c.write_through.new.disk in
    let head = c.args.head.now in
    let first = (area_front c.args.lengths.cut ++ flat_map (λ image. image.items) c.args.images.now) ++ zeros c.args.lengths.rest in
    from_ok c.write_through.result (Called (Write 0 head ∷ Sync ∷ []) v w) (Wrote first head c.args.areas s w)
    (wrote_all first head c.args.areas s t u v w c.in_ok-put_first_area.ensures.put (rw c.area_start.ensures at c.in_ok-put_piece.ensures.put) c.in_ok-sync.ensures.after c.sync.ensures.goes)
    c.write_through.ensures.called

pub returns-in_err-put_first_area-clause-leaves : goal.returns-in_err-put_first_area-clause-leaves
returns-in_err-put_first_area-clause-leaves g c =
    let s = g.D.Disk.state c.args.disk.now in
    let t = g.D.Disk.state c.put_first_area.new.disk in
    let complete = with_areas ((area_front c.args.lengths.cut ++ flat_map (λ image. image.items) c.args.images.now) ++ zeros c.args.lengths.rest) c.args.areas s.now.bytes in
    areas_leave c.args.areas complete s t
    (first_leaves c.args.areas (front_size + c.args.lengths.images + c.args.lengths.rest) s t c.requires.inside c.put_first_area.ensures.leaves)

pub returns-in_err-put_piece-clause-leaves : goal.returns-in_err-put_piece-clause-leaves
returns-in_err-put_piece-clause-leaves g c =
    let s = g.D.Disk.state c.args.disk.now in
    let t = g.D.Disk.state c.put_first_area.new.disk in
    let u = g.D.Disk.state c.put_piece.new.disk in
    let complete = with_areas ((area_front c.args.lengths.cut ++ flat_map (λ image. image.items) c.args.images.now) ++ zeros c.args.lengths.rest) c.args.areas s.now.bytes in
    let inside = c.requires.inside in
    let one = first_leaves c.args.areas (front_size + c.args.lengths.images + c.args.lengths.rest) s t c.requires.inside c.put_first_area.ensures.leaves in
    areas_leave c.args.areas complete s u (second_leaves c.args.areas s t u (omega arith) one (rw c.area_start.ensures at c.put_piece.ensures.leaves))

pub returns-in_err-sync-clause-leaves : goal.returns-in_err-sync-clause-leaves
returns-in_err-sync-clause-leaves g c =
    let s = g.D.Disk.state c.args.disk.now in
    let t = g.D.Disk.state c.put_first_area.new.disk in
    let u = g.D.Disk.state c.put_piece.new.disk in
    let v = g.D.Disk.state c.sync.new.self in
    let complete = with_areas ((area_front c.args.lengths.cut ++ flat_map (λ image. image.items) c.args.images.now) ++ zeros c.args.lengths.rest) c.args.areas s.now.bytes in
    let inside = c.requires.inside in
    let one = first_leaves c.args.areas (front_size + c.args.lengths.images + c.args.lengths.rest) s t c.requires.inside c.put_first_area.ensures.leaves in
    let two = second_leaves c.args.areas s t u (omega arith) one (rw c.area_start.ensures at c.put_piece.ensures.leaves) in
    areas_leave c.args.areas complete s v
    (sync_leaves c.sync.result s u v (ButFor c.args.areas.first (2 * c.args.areas.length) s.now) two c.sync.ensures.goes c.sync.ensures.after c.sync.ensures.failed)

pub returns-clause-leaves : goal.returns-clause-leaves
returns-clause-leaves g c =
    let s = g.D.Disk.state c.args.disk.now in
    let t = g.D.Disk.state c.put_first_area.new.disk in
    let u = g.D.Disk.state c.put_piece.new.disk in
    let v = g.D.Disk.state c.sync.new.self in
    let w = g.D.Disk.state c.write_through.new.disk in
    let written_first = (area_front c.args.lengths.cut ++ flat_map (λ image. image.items) c.args.images.now) ++ zeros c.args.lengths.rest in
    let inside = c.requires.inside in
    let one = first_leaves c.args.areas (front_size + c.args.lengths.images + c.args.lengths.rest) s t c.requires.inside c.put_first_area.ensures.leaves in
    let two = second_leaves c.args.areas s t u (omega arith) one (rw c.area_start.ensures at c.put_piece.ensures.leaves) in
    head_leaves written_first c.args.head.now c.args.areas s t u v w c.requires.head c.in_ok-put_first_area.ensures.put (rw c.area_start.ensures at c.in_ok-put_piece.ensures.put) c.in_ok-sync.ensures.after
    (sync_leaves c.sync.result s u v (ButFor c.args.areas.first (2 * c.args.areas.length) s.now) two c.sync.ensures.goes c.sync.ensures.after c.sync.ensures.failed)
    c.write_through.ensures.any_moment
