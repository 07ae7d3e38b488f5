-- What contracts see of a receipt.
use Rattle.std.specs.Prelude.{ℕ, List, Option}
use Rattle.tp_model.specs.declared.entry.Entry.{Entry}

-- The entries of a receipt and, for bytes that were handed in, the position of the first one. Only contracts see them.
pub record Covering : Type 0 where
  pub entries : List Entry
  pub position : Option ℕ

-- They come with the number that the mark has to reach.
pub record ReceiptValue : Type 0 where
  pub number : ℕ
  pub entries : List Entry
  pub position : Option ℕ
