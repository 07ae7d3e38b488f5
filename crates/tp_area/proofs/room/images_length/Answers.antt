use Rattle.tp_area.proofs.Pages.{pages_counted}
use Rattle.tp_area.proofs.room.images_length.Goals as goal

pub images_bytes-requires-clause-pages : goal.images_bytes-requires-clause-pages
images_bytes-requires-clause-pages c = pages_counted c.args.topology.now c.pages.result.now c.pages.ensures.rules c.pages.ensures.value
