use Rattle.std.proofs.Common.{◌≡◌, ◌++◌, string_bytes, drop}
use Rattle.tp_stream_files.specs.Lines.{out_parts}
use Rattle.tp_stream_files.proofs.lines.push_outs.Given as goal

abbrev pub invariant-loop-port : goal.invariant-loop-port
invariant-loop-port l =
    string_bytes l.text ++ out_parts l.port l.fn.millis l.fn.before (drop l.port l.put)
    ≡ string_bytes l.fn.text ++ out_parts 0 l.fn.millis l.fn.before l.fn.put
