-- Rows of four cells.
use Rattle.std.specs.Prelude.{◌≡◌, ℕ, ◌%◌}
use Rattle.tp_shared.specs.declared.nodes.cells.TheConstants.{CELLS, ROW}

-- In a row, whose cells have these numbers, the place of a node's cell follows from the node's number.
pub record IsInRow (a b c d number : ℕ) : Type 0 where
  pub zeroth : number % ROW ≡ 0 → number % CELLS ≡ a
  pub first : number % ROW ≡ 1 → number % CELLS ≡ b
  pub second : number % ROW ≡ 2 → number % CELLS ≡ c
  pub third : number % ROW ≡ 3 → number % CELLS ≡ d
