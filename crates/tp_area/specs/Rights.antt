-- The rights to format a device, and to write a copy. Contracts name them, and only this crate can make one: `src/rights` says why.
use Rattle.tp_area.specs.declared.rights.Copier.{Copier}
use Rattle.tp_area.specs.declared.rights.Formatter.{Formatter}

-- The right to format a device.
pub record Formats : Type 0 where
  pub by : Formatter

-- The right to write the copy of a device.
pub record Copies : Type 0 where
  pub by : Copier
