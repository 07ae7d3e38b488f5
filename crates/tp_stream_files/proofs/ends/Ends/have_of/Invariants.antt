use Rattle.std.proofs.Common.{◌≡◌, drop}
use Rattle.tp_stream_files.specs.Named.{have_in}
use Rattle.tp_stream_files.proofs.ends.Ends.have_of.Given as goal

-- none so far is of this port
abbrev pub invariant-loop-have : goal.invariant-loop-have
invariant-loop-have l = have_in (drop l.have-index l.self.haves.items) l.port ≡ have_in l.self.haves.items l.port
