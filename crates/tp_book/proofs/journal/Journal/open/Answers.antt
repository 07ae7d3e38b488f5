use Rattle.std.proofs.Common.{◌<◌, ◌≤◌, false, sym, refl, ap, subst, ◌∙◌, None, length, map, replicate}
use Rattle.std.specs.Prelude.{vec_len, slice_index_or}
use Rattle.tp_book.specs.PortParts.{port_made}
use Rattle.tp_book.specs.Ports.{opened_port}
use Rattle.tp_book.specs.declared.journal.Journal.TheInside.{Inside}
use Rattle.tp_book.proofs.Opened.{vec_few, opened_fields, opened_value}
use Rattle.tp_book.proofs.journal.Journal.open.Goals as goal

pub lines_with-requires : goal.lines_with-requires
lines_with-requires c =
    record { few = λ k d below. subst (λ given. vec_len (slice_index_or given k d) ≤ 3) (sym c.deref-2.ensures.value) (vec_few c.args.state.now c.requires k d (subst (λ given. k < length given) c.deref-2.ensures.value below)) }

pub invariant_of-result : goal.invariant_of-result
invariant_of-result c =
    let b : Inside = record { start = c.again.result; wires = c.in_ok-from_slice.field-0; lines = c.in_ok-lines_with.field-0; ports = c.in_ok-ports_with.field-0; entries = c.in_ok-from_slice-2.field-0; base = c.args.state.now.base; runs = c.in_ok-from_elem.field-0; reserved = 0; ready = None; broken = false; room = c.args.room; form = c.book_form.result } in
    opened_fields b c.args.state.now c.requires c.again.ensures
    (c.in_ok-from_slice.ensures.items ∙ c.deref.ensures.value)
    (c.in_ok-lines_with.ensures ∙ ap (map (λ line. line.items)) c.deref-2.ensures.value)
    (c.in_ok-ports_with.ensures ∙ ap (map (λ port. opened_port (port_made port))) c.deref-3.ensures.value)
    (c.in_ok-from_elem.ensures.items_if_clones_equal (λ y e. cc) ∙ ap (λ n. replicate n false) c.len.ensures)
    (c.in_ok-from_slice-2.ensures.items ∙ c.deref-4.ensures.value) refl c.book_form.ensures

pub returns : goal.returns
returns c =
    let b : Inside = record { start = c.again.result; wires = c.in_ok-from_slice.field-0; lines = c.in_ok-lines_with.field-0; ports = c.in_ok-ports_with.field-0; entries = c.in_ok-from_slice-2.field-0; base = c.args.state.now.base; runs = c.in_ok-from_elem.field-0; reserved = 0; ready = None; broken = false; room = c.args.room; form = c.book_form.result } in
    opened_value b c.args.state.now c.requires c.again.ensures
    (c.in_ok-from_slice.ensures.items ∙ c.deref.ensures.value)
    (c.in_ok-lines_with.ensures ∙ ap (map (λ line. line.items)) c.deref-2.ensures.value)
    (c.in_ok-ports_with.ensures ∙ ap (map (λ port. opened_port (port_made port))) c.deref-3.ensures.value)
    (c.in_ok-from_elem.ensures.items_if_clones_equal (λ y e. cc) ∙ ap (λ n. replicate n false) c.len.ensures)
    (c.in_ok-from_slice-2.ensures.items ∙ c.deref-4.ensures.value) refl c.book_form.ensures
