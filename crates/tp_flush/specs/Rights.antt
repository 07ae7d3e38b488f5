-- The right to write a device by its store. Contracts name it, and only this crate can make one: `src/rights` says why.
use Rattle.tp_flush.specs.declared.rights.Stepper.{Stepper}

-- The right to the steps of a store: to append groups, and to fill and open the other area.
pub record Steps : Type 0 where
  pub by : Stepper
