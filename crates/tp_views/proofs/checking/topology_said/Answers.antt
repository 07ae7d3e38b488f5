use Rattle.std.proofs.Common.{◌≡◌, ◌∙◌, ◌++◌, ◌∷◌, [], List, ℕ, ap, append_assoc, codes, length, string_bytes}
use Rattle.tp_model.specs.Head.{version_byte, version_for}
use Rattle.tp_views.specs.Checked.{area_for, areas_text, default_area, shape_fields, size_fields}
use Rattle.tp_views.specs.Fields.{Words, fields_text}
use Rattle.tp_views.proofs.checking.topology_said.Goals as goal

pub returns : goal.returns
returns c =
    let t = c.args.topology.now in
    let json = c.args.json in
    let version = c.version_number-version.ensures ∙ ap version_byte c.version_for.ensures.value in
    let shape : List ℕ = fields_text json (shape_fields (length t.pages) t.ports (version_byte (version_for t))) in
    let sizes : List ℕ = fields_text json (size_fields (area_for t 1) (default_area t)) in
    let areas : List ℕ = areas_text json t 0 (4096 ∷ 65536 ∷ 1048576 ∷ []) in
    let end : List ℕ = fields_text json (Words [] (codes "]}\n") ∷ []) in
    let shaped : string_bytes c.push_shape.new.text ≡ shape =
    c.in_ok-push_shape.ensures
    ∙ (λ i. c.new-text.ensures.bytes i ++ fields_text json (shape_fields (length (c.pages.ensures.value i)) (c.port_count-ports.ensures.value i) (version i))) in
    c.in_ok-push_fields.ensures
    ∙ ap (λ bytes. bytes ++ end) (c.in_ok-push_areas.ensures
    ∙ ap (λ bytes. bytes ++ areas) (c.in_ok-push_sizes.ensures ∙ ap (λ bytes. bytes ++ sizes) shaped))
    ∙ append_assoc (shape ++ sizes) areas end
    ∙ append_assoc shape sizes (areas ++ end)
