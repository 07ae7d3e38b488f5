use Rattle.std.proofs.Common.{◌∙◌, ◌∷◌, ◌++◌, [], false, is_ok, ap, rules}
use Rattle.tp_program.specs.Devices.{Holds, Requests}
use Rattle.tp_program.proofs.Requests.{asks_once_more, once_more}
use Rattle.tp_program.proofs.asking.wait_for.Goals as goal

pub loop-times-preserved : goal.loop-times-preserved
loop-times-preserved g c =
    let made = is_ok c.request-made.result in
    let before = g.S.Devices.uses c.loop-times.devices in
    let asked = c.request-made.ensures.uncalled ∙ c.in-Err.ensures.noted in
    let more = c.request-made.ensures.noted ∙ ap (λ calls. calls ++ Requests c.path.result.now made ∷ []) c.in-Err.ensures.unused
    ∙ ap (λ path. before ++ Requests path made ∷ []) (c.path.ensures ∙ c.requires) in
    record {
      few = search rules;
      vain = once_more (Holds c.args.device.now 1 false) c.loop-times.times (g.S.Devices.calls c.args.devices.now) (g.S.Devices.calls c.loop-times.devices)
          (g.S.Devices.calls c.request-made.new.self) c.loop-times.invariant.vain asked;
      again = asks_once_more c.args.device.now (g.S.Devices.uses c.args.devices.now) before (g.S.Devices.uses c.request-made.new.self) made c.loop-times.invariant.again more;
    }
