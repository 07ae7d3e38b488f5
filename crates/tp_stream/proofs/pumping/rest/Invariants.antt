-- The inputs are those that they were.
use Rattle.std.proofs.Common.{◌≡◌, map}
use Rattle.tp_stream_files.specs.Inputs.{given_input}
use Rattle.tp_stream.proofs.pumping.rest.Given as goal

abbrev pub invariant-loop-next : goal.invariant-loop-next
invariant-loop-next g l = record { same : map (λ i. given_input i.port (g.I.Source.input i.source)) l.inputs ≡ map (λ i. given_input i.port (g.I.Source.input i.source)) l.fn.inputs }
