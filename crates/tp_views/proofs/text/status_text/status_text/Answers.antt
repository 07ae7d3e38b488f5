use Rattle.std.proofs.Common.{◌≡◌, ◌∙◌, false, ◌++◌, ◌∷◌, [], List, ℕ, ap, append_assoc, length, string_bytes}
use Rattle.tp_model.specs.Opening.{next_of}
use Rattle.tp_views.specs.Done.{steps_made}
use Rattle.tp_views.specs.Fields.{fields_text}
use Rattle.tp_views.specs.TimeOfDay.{time_part}
use Rattle.tp_views.specs.Status.{entries_room, front_fields, halted_or_none, halts_text, journal_fields, next_before, ports_text, steps_part}
use Rattle.tp_views.proofs.text.status_text.status_text.Goals as goal

pub returns : goal.returns
returns c =
    let o = c.args.opened.now in
    let held = c.args.held in
    let at = c.args.at in
    let before = c.args.before.now in
    let time : List ℕ = time_part c.args.clock in
    let front : List ℕ = fields_text false (front_fields held o.generation o.form (next_of o) (next_before at before)) in
    let journal : List ℕ = fields_text false (journal_fields (length o.kept) (entries_room o)) in
    let steps : List ℕ = steps_part (steps_made o) in
    let ports : List ℕ = ports_text false 0 at before o.now.ports in
    let halts : List ℕ = halted_or_none (halts_text false 0 0 o.now.nodes) ++ 10 ∷ [] in
    let timed : string_bytes c.push_time.new.text ≡ time = c.in_ok-push_time.ensures ∙ (λ i. c.new-text.ensures.bytes i ++ time) in
    let fronted : string_bytes c.push_front.new.text ≡ time ++ front =
    c.in_ok-push_front.ensures
    ∙ (λ i. timed i ++ fields_text false (front_fields held (c.generation-generation.ensures i) (c.form-form.ensures i) (c.next-next.ensures i) (c.next_before-since.ensures i))) in
    let journalled : string_bytes c.push_journal.new.text ≡ (time ++ front) ++ journal =
    c.in_ok-push_journal.ensures ∙ (λ i. fronted i ++ fields_text false (journal_fields (length (c.kept.ensures i)) (c.room_of.ensures i))) in
    let stepped : string_bytes c.push_steps_line.new.text ≡ ((time ++ front) ++ journal) ++ steps = c.in_ok-push_steps_line.ensures ∙ (λ i. journalled i ++ steps) in
    let ported : string_bytes c.push_ports.new.text ≡ (((time ++ front) ++ journal) ++ steps) ++ ports =
    c.in_ok-push_ports.ensures ∙ (λ i. stepped i ++ ports_text false 0 at before ((c.ports.ensures ∙ ap (λ now. now.ports) c.network-now.ensures) i)) in
    c.in_ok-push_halts_line.ensures
    ∙ (λ i. ported i ++ (halted_or_none (halts_text false 0 0 ((c.nodes.ensures ∙ ap (λ now. now.nodes) c.network-now.ensures) i)) ++ 10 ∷ []))
    ∙ append_assoc (((time ++ front) ++ journal) ++ steps) ports halts
    ∙ append_assoc ((time ++ front) ++ journal) steps (ports ++ halts)
    ∙ append_assoc (time ++ front) journal (steps ++ (ports ++ halts))
    ∙ append_assoc time front (journal ++ (steps ++ (ports ++ halts)))
