-- What definitions and contracts here name of the crates below.
pub use Rattle.tp_model.specs.declared.limits.TheConstants.{MAX_STEPS}
pub use Rattle.tp_work.specs.declared.start.TheConstants.{MAX_WORKERS}
pub use Rattle.tp_flush.specs.Rights.{Steps}
