-- Outputs with paths of their own, one after the other.
use Rattle.std.proofs.Common.{◌≡◌, ◌∙◌, ◌<◌, ◌≤◌, ◌+◌, ℕ, false, List, [], ◌∷◌, ◌++◌, length, take, get_or, sym, ap, subst}
use Rattle.std.specs.Prelude.{All, string_bytes}
use Rattle.tp_stream_files.proofs.Lower.{take_more, take_all, All-push, all_pairs_push}
use Rattle.tp_stream_files.specs.Named.{HaveOnePath, HaveOwnPaths, is_standard}
use Rattle.tp_stream_files.specs.declared.ends.PortFile.{PortFile}

-- one more has a path of its own
pub own_more : (device : List ℕ) (outs ins : List PortFile) (i : ℕ) (end : PortFile) → i < length outs → end ≡ get_or outs i end → HaveOwnPaths device (take i outs) ins
    → (is_standard end ≡ false → string_bytes end.path ≡ device → ⊥) → All (λ (other : PortFile). HaveOnePath end other → ⊥) (take i outs)
    → All (λ (other : PortFile). HaveOnePath end other → ⊥) ins → HaveOwnPaths device (take (i + 1) outs) ins
own_more device outs ins i end low is own beside before inputs =
    let front = take i outs in
    subst (λ (ends : List PortFile). HaveOwnPaths device ends ins) (sym (take_more outs i end low ∙ ap (λ (last : PortFile). front ++ last ∷ []) (sym is))) (record {
      beside = All-push (λ (end : PortFile). is_standard end ≡ false → string_bytes end.path ≡ device → ⊥) front end own.beside beside;
      inputs = All-push (λ (end : PortFile). All (λ (input : PortFile). HaveOnePath end input → ⊥) ins) front end own.inputs inputs;
      outputs = all_pairs_push (λ (before end : PortFile). HaveOnePath end before → ⊥) front end own.outputs before;
    })

-- all have
pub own_all : (device : List ℕ) (outs ins : List PortFile) (i : ℕ) → length outs ≤ i → HaveOwnPaths device (take i outs) ins → HaveOwnPaths device outs ins
own_all device outs ins i all own = subst (λ (ends : List PortFile). HaveOwnPaths device ends ins) (take_all i outs all) own
