use Rattle.std.proofs.Common.{◌≡◌, ◌+◌, ◌∙◌, length, ap, arith, map, rules, Err}
use Rattle.tp_recover.proofs.Lower.{length_push, map_push, port_made}
use Rattle.tp_recover.proofs.Ports.{ports_in-step, ports_in-error, ports_in-end}
use Rattle.tp_recover.proofs.ReadParts.{reached_more}
use Rattle.tp_recover.proofs.Leaving.{none_leaves, then_leaves}
use Rattle.tp_recover.proofs.area.port.read_ports.Goals as goal

pub returns-in_err-read-clause-is : goal.returns-in_err-read-clause-is
returns-in_err-read-clause-is g c k =
    let told : c.from_residual.result ≡ Err c.in_err-read.field-0.0 = search rules in
    ports_in-error port_made _ c.args.base c.args.at c.loop-port.port c.args.count (g.D.Disk.state c.args.disk.now).now (g.D.Disk.state c.loop-port.disk).now (map port_made c.loop-port.ports.items) c.in_err-read.field-0.0 c.from_residual.result
    (omega arith) (c.loop-port.invariant.read (c.read_port.ensures.premise k)) c.loop-port.invariant.kept (c.in_err-read.ensures.is k) told

pub loop-port-preserved : goal.loop-port-preserved
loop-port-preserved g c = record {
  counts = record {
    size = c.in_ok-read.ensures.counts.size ∙ c.loop-port.invariant.counts.size;
    failures = c.in_ok-read.ensures.counts.failures ∙ c.loop-port.invariant.counts.failures;
  };
  premise = λ k. c.loop-port.invariant.premise (c.read_port.ensures.premise k);
  kept = c.in_ok-read.ensures.kept ∙ c.loop-port.invariant.kept;
  leaves = λ s before. then_leaves _ _ _ (c.loop-port.invariant.leaves s before) c.read_port.ensures.leaves;
  count = ap length c.in-Ok.ensures.items ∙ length_push c.loop-port.ports.items c.in_ok-read.read ∙ ap (λ n. n + 1) c.loop-port.invariant.count;
  ports =
      reached_more c.args.base (map port_made c.loop-port.ports.items) (map port_made c.push.new.self.items) (port_made c.in_ok-read.read) c.loop-port.invariant.ports c.in_ok-read.ensures.port
      (ap (map port_made) c.in-Ok.ensures.items ∙ map_push port_made c.loop-port.ports.items c.in_ok-read.read);
  read = λ k.
      ports_in-step c.args.base c.args.at c.loop-port.port c.args.count (g.D.Disk.state c.args.disk.now).now (g.D.Disk.state c.loop-port.disk).now (map port_made c.loop-port.ports.items) (map port_made c.push.new.self.items) (port_made c.in_ok-read.read)
      (omega arith) (c.loop-port.invariant.read (c.read_port.ensures.premise k)) c.loop-port.invariant.kept (c.in_ok-read.ensures.is k)
      (ap (map port_made) c.in-Ok.ensures.items ∙ map_push port_made c.loop-port.ports.items c.in_ok-read.read);
}

pub returns-clause-is : goal.returns-clause-is
returns-clause-is g c k =
    ports_in-end c.args.base c.args.at c.loop-port.port c.args.count (g.D.Disk.state c.args.disk.now).now.bytes (map port_made c.loop-port.ports.items) (omega arith) (c.loop-port.invariant.read k)

pub returns-in_err-read-clause-leaves : goal.returns-in_err-read-clause-leaves
returns-in_err-read-clause-leaves g c = then_leaves _ _ _ (c.loop-port.invariant.leaves _ (none_leaves _)) c.read_port.ensures.leaves

pub returns-in_default-clause-leaves : goal.returns-in_default-clause-leaves
returns-in_default-clause-leaves g c = then_leaves _ _ _ (c.loop-port.invariant.leaves _ (none_leaves _)) c.read_port.ensures.leaves

pub returns-clause-leaves : goal.returns-clause-leaves
returns-clause-leaves g c = c.loop-port.invariant.leaves _ (none_leaves _)
