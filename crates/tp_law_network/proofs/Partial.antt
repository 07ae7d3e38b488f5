-- Partial functions taken apart. The lemmas are in `tp_law_machine`; the crates above find them here, too.
pub use Rattle.tp_law_machine.proofs.Partial.{all_append, bind_some, map_some, cond_some, slice_get-set_same, slice_get-set_other}
