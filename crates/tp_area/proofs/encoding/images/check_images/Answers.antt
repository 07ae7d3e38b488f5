use Rattle.std.proofs.Common.{rules, ◌≡◌, ◌∙◌, ◌<◌, subst, ℕ, List, Vec, Global, length, get_or, map, sym, ap, arith, Err}
use Rattle.tp_area.proofs.Lower.{length-map, get_or-map, get_or_default, fresh_nodes}
use Rattle.tp_area.specs.Formatting.{Checks}
use Rattle.tp_area.proofs.FreshImages.{bad_image, fresh_counts, fresh_none, image_passed, image_refused, some_checks}
use Rattle.tp_area.proofs.encoding.images.check_images.Goals as goal

abbrev items : Vec ℕ Global → List ℕ
items image = image.items

item_at : (images : List (Vec ℕ Global)) (i : ℕ) (image : Vec ℕ Global) (bytes : List ℕ) → i < length images → image ≡ get_or images i image → bytes ≡ image.items
    → bytes ≡ get_or (map items images) i bytes
item_at images i image bytes lt is has = has ∙ ap items is ∙ sym (get_or-map items images i image bytes lt)

pub returns-then-pages-images : goal.returns-then-pages-images
returns-then-pages-images c =
    bad_image (fresh_nodes c.args.pages.now (map items c.args.images.now))
    (fresh_counts c.args.pages.now (map items c.args.images.now) (λ same. c.if-pages-images.true (same ∙ length-map c.args.images.now items)))

pub returns-in_err-check_image : goal.returns-in_err-check_image
returns-in_err-check_image c =
    let i = c.loop-i.i in
    let images = c.args.images.now in
    let size = length-map images items in
    let fault = c.in_err-check_image.field-0.0 in
    let is : c.from_residual.result ≡ Err fault = search rules in
    subst (λ r. Checks (fresh_nodes c.args.pages.now (map items images)) r) (sym is)
    (image_refused c.args.pages.now (map items images) i (get_or c.args.pages.now i 0) c.deref.result.now fault (omega arith) (omega arith)
    (get_or_default c.args.pages.now i 0 (get_or c.args.pages.now i 0) (omega arith))
    (item_at images i c.index-images-i.result c.deref.result.now (omega arith) c.index-images-i.is c.deref.ensures.value)
    c.loop-i.invariant c.in_err-check_image.ensures)

pub loop-i-preserved : goal.loop-i-preserved
loop-i-preserved c =
    let i = c.loop-i.i in
    let images = c.args.images.now in
    let size = length-map images items in
    image_passed c.args.pages.now (map items images) i (get_or c.args.pages.now i 0) c.deref.result.now (omega arith) (omega arith)
    (get_or_default c.args.pages.now i 0 (get_or c.args.pages.now i 0) (omega arith))
    (item_at images i c.index-images-i.result c.deref.result.now (omega arith) c.index-images-i.is c.deref.ensures.value) c.in_ok-check_image.ensures
    ∙ c.loop-i.invariant

pub returns : goal.returns
returns c =
    let size = length-map c.args.images.now items in
    some_checks (fresh_nodes c.args.pages.now (map items c.args.images.now))
    (sym c.loop-i.invariant ∙ fresh_none c.args.pages.now (map items c.args.images.now) c.loop-i.i (omega arith) (omega arith))
