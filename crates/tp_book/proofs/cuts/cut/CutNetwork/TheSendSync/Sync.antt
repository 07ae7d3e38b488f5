-- It owns nothing, so any thread may share it.
use denote.Param.Send.{IsSync, part_keyless}
use Rattle.tp_book.specs.contracts.cuts.cut.CutNetwork.{the_row}
use Rattle.tp_book.proofs.cuts.cut.CutNetwork.TheSendSync.Send.{send}

pub sync : IsSync the_row
sync = record { shared = λ d b o κ q. part_keyless the_row send q d b o }
