-- What `try` does.
use Rattle.std.specs.Prelude.{◌≡◌, ℕ, List, Option, Some, None, IsSome, Result, Ok, Err}
use Rattle.tp_views.specs.Lower.{Appends, NodeState, IsOutput, fresh_image, BadImage, Memory}
use Rattle.tp_views.specs.declared.refusal.Refusal.{Refusal}
use Rattle.tp_views.specs.declared.refusal.Refusal.TheVariants.{Trial, DeviceFailed}
use Rattle.tp_views.specs.declared.commands.TheConstants.{TRY_QUANTUM}

-- The node of the image was tried for `turns` turns, and exactly what its port put out was appended.
pub record PrintsTrial (image : List ℕ) (turns : ℕ) (was now : Option (List ℕ)) : Type 0 where
  pub node : NodeState
  pub is : fresh_image image ≡ Some node
  pub output : List ℕ
  pub tried : IsOutput node turns TRY_QUANTUM output
  pub shown : Appends was now output

-- What `try` answers. It refuses bytes that are no image. Nothing was written then, nor if memory ran out.
abbrev pub TryAnswer : List ℕ → ℕ → Option (List ℕ) → Option (List ℕ) → Result (Unit {0}) Refusal → Type 0
TryAnswer image turns was now (Ok done) = PrintsTrial image turns was now
TryAnswer image turns was now (Err (Trial BadImage)) = (fresh_image image ≡ None) × (now ≡ was)
TryAnswer image turns was now (Err DeviceFailed) = IsSome (fresh_image image)
TryAnswer image turns was now (Err (Trial Memory)) = IsSome (fresh_image image) × (now ≡ was)
TryAnswer image turns was now (Err other) = ⊥
