use Rattle.tp_area.proofs.Pages.{first_pages_counted}
use Rattle.tp_area.proofs.layout_place.piece_place.Goals as goal

pub images_bytes-requires-clause-pages : goal.images_bytes-requires-clause-pages
images_bytes-requires-clause-pages c = first_pages_counted c.args.topology.now c.pages.result.now c.args.node c.pages.ensures.rules c.pages.ensures.value
