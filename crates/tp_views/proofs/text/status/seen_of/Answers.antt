use Rattle.std.proofs.Common.{◌∙◌, refl, sym, ap, map}
use Rattle.std.proofs.lemmas.Simd.{map-map}
use Rattle.tp_views.specs.Status.{port_seen}
use Rattle.tp_views.proofs.text.status.seen_of.Goals as goal

pub returns : goal.returns
returns c = record {
  time = refl;
  next = c.next.ensures;
  ports = c.in_ok-ports.ensures ∙ sym (map-map port_seen (λ port. port.port) c.ports.result.now) ∙ ap (map port_seen) (c.ports.ensures ∙ ap (λ now. now.ports) c.network.ensures);
}
