use Rattle.std.proofs.lemmas.List.{drop-drop}
use Rattle.tp_views.proofs.text.image_fields.transfer_in.Goals as goal

pub returns : goal.returns
returns c =
    let bytes = c.args.image.now in
    rw (drop-drop 4 c.args.at bytes, drop-drop 8 c.args.at bytes, drop-drop 12 c.args.at bytes) (cc (c.word_in.ensures, c.word_in-2.ensures, c.word_in-3.ensures))
