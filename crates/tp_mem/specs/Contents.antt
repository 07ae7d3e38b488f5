-- What a memory holds.
use Rattle.std.specs.Prelude.{ℕ, ◌+◌, ◌*◌, List, Option, slice_range}
use Rattle.tp_model.specs.declared.limits.TheConstants.{PAGE_BYTES}

-- the live bytes, and while memory is frozen the bytes as they were at the freeze
pub record Contents : Type 0 where
  pub live : List ℕ
  pub frozen : Option (List ℕ)

-- the page of a number
abbrev pub page_of : List ℕ → ℕ → List ℕ
page_of bytes page = slice_range bytes (PAGE_BYTES * page) (PAGE_BYTES * page + PAGE_BYTES)
