use Rattle.std.proofs.Common.{◌≡◌, ◌∙◌, true, ◌++◌, List, ℕ, ap, append_assoc, length, string_bytes}
use Rattle.tp_model.specs.Opening.{next_of}
use Rattle.tp_views.specs.Fields.{fields_text}
use Rattle.tp_views.specs.TimeOfDay.{time_field}
use Rattle.tp_views.specs.Status.{done_json, entries_room, front_fields, halts_json, journal_fields, next_before, ports_text}
use Rattle.tp_views.proofs.text.status_text.status_json.Goals as goal

pub returns : goal.returns
returns c =
    let o = c.args.opened.now in
    let held = c.args.held in
    let at = c.args.at in
    let before = c.args.before.now in
    let front : List ℕ = fields_text true (front_fields held o.generation o.form (next_of o) (next_before at before)) in
    let journal : List ℕ = fields_text true (journal_fields (length o.kept) (entries_room o)) in
    let ports : List ℕ = ports_text true 0 at before o.now.ports in
    let halts : List ℕ = halts_json o.now.nodes in
    let done : List ℕ = done_json o in
    let time : List ℕ = time_field c.args.clock in
    let fronted : string_bytes c.push_front.new.text ≡ front =
    c.in_ok-push_front.ensures
    ∙ (λ i. c.new-text.ensures.bytes i ++ fields_text true (front_fields held (c.generation-generation.ensures i) (c.form-form.ensures i) (c.next-next.ensures i) (c.next_before-since.ensures i))) in
    let journalled : string_bytes c.push_journal.new.text ≡ front ++ journal =
    c.in_ok-push_journal.ensures ∙ (λ i. fronted i ++ fields_text true (journal_fields (length (c.kept.ensures i)) (c.room_of.ensures i))) in
    let ported : string_bytes c.push_ports.new.text ≡ (front ++ journal) ++ ports =
    c.in_ok-push_ports.ensures ∙ (λ i. journalled i ++ ports_text true 0 at before ((c.ports.ensures ∙ ap (λ now. now.ports) c.network-now.ensures) i)) in
    let halted : string_bytes c.push_halts.new.text ≡ ((front ++ journal) ++ ports) ++ halts =
    c.in_ok-push_halts.ensures ∙ (λ i. ported i ++ halts_json ((c.nodes.ensures ∙ ap (λ now. now.nodes) c.network-now.ensures) i)) in
    let told : string_bytes c.push_done.new.text ≡ (((front ++ journal) ++ ports) ++ halts) ++ done = c.in_ok-push_done.ensures ∙ (λ i. halted i ++ done) in
    c.in_ok-push_time_field.ensures
    ∙ (λ i. told i ++ time)
    ∙ append_assoc (((front ++ journal) ++ ports) ++ halts) done time
    ∙ append_assoc ((front ++ journal) ++ ports) halts (done ++ time)
    ∙ append_assoc (front ++ journal) ports (halts ++ (done ++ time))
    ∙ append_assoc front journal (ports ++ (halts ++ (done ++ time)))
