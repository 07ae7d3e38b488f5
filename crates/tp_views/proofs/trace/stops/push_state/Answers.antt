use Rattle.std.proofs.Common.{◌∙◌, ap, drop, string_bytes}
use Rattle.tp_views.proofs.Lower.{offset, NodeContents}
use Rattle.tp_views.specs.Maps.{rows_seen}
use Rattle.tp_views.proofs.Traces.{on_ok}
use Rattle.tp_views.proofs.Workspaces.{few_taken, state_said}
use Rattle.tp_views.proofs.trace.stops.push_state.Goals as goal

pub push_workspace-requires : goal.push_workspace-requires
push_workspace-requires c =
    few_taken 32 c.as_slice.result.now (drop (offset c.cpu_now-cpu.result.wptr) c.cpu_now-cpu.new.node.live.memory) (c.as_slice.ensures.value ∙ c.in_ok-bytes.ensures.memory)

pub returns-clause-text : goal.returns-clause-text
returns-clause-text c =
    let then = ap (λ (x : NodeContents). x.live) c.cpu_now-cpu.ensures.same in
    let last = ap (λ (x : NodeContents). x.live) c.in_ok-bytes.ensures.same ∙ then in
    on_ok _ _ c.push_range.result
    (state_said (rows_seen c.args.rows.now) c.args.stops c.args.node.now.live c.cpu_now-cpu.new.node.live c.memory_of.new.node.live c.cpu_now-cpu.result c.as_slice.result.now
    (string_bytes c.args.text.now) (string_bytes c.push_cpu.new.text) (string_bytes c.push_workspace.new.text) (string_bytes c.push_range.new.text) c.cpu_now-cpu.ensures.cpu
    (c.as_slice.ensures.value ∙ c.in_ok-bytes.ensures.memory) then last c.in_ok-push_cpu.ensures c.in_ok-push_workspace.ensures)
    c.push_range.ensures.text
