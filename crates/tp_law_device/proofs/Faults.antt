-- Answers that are a value or a fault, taken apart. The lemmas are in `tp_law_machine`; the crates above find them here, too.
pub use Rattle.tp_law_machine.proofs.Faults.{bind_ok, or_damaged_ok, fault_or, or_fault, result_ok_some, tested}
