use Rattle.tp_stream.proofs.Notices.{tells_nothing, tells_once}
use Rattle.tp_stream.proofs.telling.tell.Goals as goal

pub returns-then-not-pace : goal.returns-then-not-pace
returns-then-not-pace g c =
    tells_nothing c.args.pace.task.tells c.args.pace.rooms.journal c.args.flusher.now c.args.turns c.args.outputs.now (g.L.Listener.told c.args.listener.now) c.if-not-pace.true

pub returns : goal.returns
returns g c =
    tells_once c.args.pace.task.tells c.args.pace.rooms.journal c.args.flusher.now c.args.turns c.args.outputs.now _ _ c.if-not-pace.false
    (record { book = c.book-2.result.now; progress = c.progress_of-progress.result; is = c.progress_of-progress.ensures.numbers; put = c.progress_of-progress.ensures.put; told = c.progress.ensures.told })
