use Rattle.std.proofs.Common.{◌≡◌, ◌∙◌, ℕ, List, Vec, Global, map, length, true, sym, ap, subst, Ok}
use Rattle.std.specs.Prelude.{sum_by}
use Rattle.tp_area.proofs.Lower.{image_length, fresh_nodes, fits_device, LeavesOnly, areas_of_length, head_bytes, version_for, TwoAreas}
use Rattle.tp_area.specs.Formatting.{Checks, Formatted, IsOldOrNew}
use Rattle.tp_area.proofs.FormatBytes.{start_with, checked_length, formatted_by, format_leaves, early_leaves, answers_done}
use Rattle.tp_area.proofs.calls.formatting.format.Goals as goal

abbrev items : Vec ℕ Global → List ℕ
items image = image.items

pub write_all-requires-clause-images : goal.write_all-requires-clause-images
write_all-requires-clause-images g c =
    c.lengths_of-lengths.ensures.images ∙ ap (sum_by image_length) (sym c.pages.ensures.value)
    ∙ sym (checked_length items c.pages.result.now c.args.images.now c.in_ok-check_images.ensures)

pub returns-clause-answer : goal.returns-clause-answer
returns-clause-answer g c =
    let t = c.args.topology.now in
    let images = map items c.args.images.now in
    let are = c.areas_of_length-areas.ensures ∙ ap (λ v. areas_of_length v c.args.area) c.version_for-version.ensures.value in
    let size = g.D.Disk.size_of c.args.disk.now in
    let large : fits_device size t (areas_of_length (version_for t) c.args.area) ≡ true =
    ap (fits_device size t) (sym are) ∙ ap (λ n. fits_device n t c.areas_of_length-areas.result) (sym c.size.ensures) ∙ sym c.fits.ensures ∙ c.if-not-fits.false in
    answers_done (fresh_nodes t.pages images) (start_with t) (fits_device size t (areas_of_length (version_for t) c.args.area))
    (subst (λ pages. Checks (fresh_nodes pages images) (Ok tt)) c.pages.ensures.value c.in_ok-check_images.ensures) large

pub returns-clause-formatted : goal.returns-clause-formatted
returns-clause-formatted g c =
    let t = c.args.topology.now in
    let whole = g.met.D.Disk.whole c.args.disk.now in
    let old = g.D.Disk.state c.args.disk.now in
    let new = g.D.Disk.state c.write_all.new.disk in
    let areas = c.areas_of_length-areas.result in
    let large : fits_device c.size.result t areas ≡ true = sym c.fits.ensures ∙ c.if-not-fits.false in
    let are = c.areas_of_length-areas.ensures ∙ ap (λ v. areas_of_length v c.args.area) c.version_for-version.ensures.value in
    subst (λ a. Formatted t (map items c.args.images.now) a old new) are
    (formatted_by items t c.args.images.now c.pages.result.now c.as_slice.result.now areas c.size.result c.lengths_of-lengths.result.cut c.lengths_of-lengths.result.rest old new
    c.pages.ensures.value c.in_ok-check_images.ensures large (ap (λ (a : TwoAreas). a.first) are) (whole ∙ sym c.size.ensures)
    (c.as_slice.ensures.value ∙ c.head_bytes-head.ensures.bytes ∙ ap (λ v. head_bytes v t areas) c.version_for-version.ensures.value)
    (ap length c.as_slice.ensures.value ∙ c.head_bytes-head.ensures.len)
    c.lengths_of-lengths.ensures.cut c.lengths_of-lengths.ensures.rest c.in-Ok.ensures.wrote)

pub returns-in_err-check_images-clause-leaves : goal.returns-in_err-check_images-clause-leaves
returns-in_err-check_images-clause-leaves g c = early_leaves c.args.topology.now (map items c.args.images.now) (areas_of_length (version_for c.args.topology.now) c.args.area) (g.D.Disk.state c.args.disk.now)

pub returns-then-not-fits-clause-leaves : goal.returns-then-not-fits-clause-leaves
returns-then-not-fits-clause-leaves g c = early_leaves c.args.topology.now (map items c.args.images.now) (areas_of_length (version_for c.args.topology.now) c.args.area) (g.D.Disk.state c.args.disk.now)

pub returns-in_default-clause-leaves : goal.returns-in_default-clause-leaves
returns-in_default-clause-leaves g c =
    let t = c.args.topology.now in
    let old = g.D.Disk.state c.args.disk.now in
    let new = g.D.Disk.state c.write_all.new.disk in
    let are = c.areas_of_length-areas.ensures ∙ ap (λ v. areas_of_length v c.args.area) c.version_for-version.ensures.value in
    subst (λ a. LeavesOnly old new (IsOldOrNew t (map items c.args.images.now) a old)) are
    (format_leaves items t c.args.images.now c.pages.result.now c.areas_of_length-areas.result c.lengths_of-lengths.result.cut c.lengths_of-lengths.result.rest old new c.pages.ensures.value c.in_ok-check_images.ensures
    c.lengths_of-lengths.ensures.cut c.lengths_of-lengths.ensures.rest c.write_all.ensures.leaves)

pub returns-clause-leaves : goal.returns-clause-leaves
returns-clause-leaves g c =
    let t = c.args.topology.now in
    let old = g.D.Disk.state c.args.disk.now in
    let new = g.D.Disk.state c.write_all.new.disk in
    let are = c.areas_of_length-areas.ensures ∙ ap (λ v. areas_of_length v c.args.area) c.version_for-version.ensures.value in
    subst (λ a. LeavesOnly old new (IsOldOrNew t (map items c.args.images.now) a old)) are
    (format_leaves items t c.args.images.now c.pages.result.now c.areas_of_length-areas.result c.lengths_of-lengths.result.cut c.lengths_of-lengths.result.rest old new c.pages.ensures.value c.in_ok-check_images.ensures
    c.lengths_of-lengths.ensures.cut c.lengths_of-lengths.ensures.rest c.write_all.ensures.leaves)
