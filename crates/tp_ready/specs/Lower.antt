-- What definitions and contracts here name of the crates below.
pub use base.Algebra.{Algebra}
pub use base.Algebras.{agreed, both, shares}
pub use base.Fml.{Fml, Share, fauth, fobs, fsep, ftrue}
pub use base.Fraction.{full_share}
pub use base.SetCodes.{coded}
pub use base.Share.{quarter, three_quarters}
pub use base.Stored.{Coded, Gv, gnil}
