-- The raw places and the right to free them may cross threads as their items may.
use Rattle.std.proofs.Common.{List, [], ◌∷◌}
use Rattle.std.specs.Prelude.{Bool, true, false}
use Rattle.tp_mem.proofs.Lower.{Fml, Keyless, slots, Ghosts}
use Rattle.core.specs.Mem.Slots.Ownership.{bytes_of}
use mir.Raw.{raw}
use mir.Syntax.{ty_array}
use denote.Memory.{lone}
use denote.RattleType.{RattleType}
use denote.RawPtr.{Ptr, block_ptr, null_ptr, in_block, room_for, ◌+ₚ◌}
use denote.Struct.Struct.{exits_of}
use denote.Struct.Owning.{shape, fields, to}
use denote.Param.Send.{IsSend, AllSend, owning_send, struct_send, sendable}
use Rattle.core.specs.contracts.slots.Slots as Slots
use Rattle.core.specs.contracts.slots.Lease as Lease
use Rattle.std_alloc.proofs.SendSync.{FreesAnywhere, quiet, lies}

room_for-Keyless : (τ : _) (p : Ptr) → Keyless (room_for τ p)
room_for-Keyless τ (block_ptr b o) = tt
room_for-Keyless τ null_ptr = tt

in_block-Keyless : (p : Ptr) (F : Fml) → Keyless F → Keyless (in_block p F)
in_block-Keyless (block_ptr b o) F k = k
in_block-Keyless null_ptr F k = tt

module _ (R : RattleType) where
  slots-Keyless : IsSend R → (p : Ptr) (xs : List R.Denot) (fs : List Bool) → Keyless (slots R p xs fs)
  slots-Keyless s p [] fs = tt
  slots-Keyless s p (x ∷ xs) [] = tt
  slots-Keyless s p (x ∷ xs) (true ∷ fs) = (lies R s p x, slots-Keyless s (p +ₚ bytes_of R) xs fs)
  slots-Keyless s p (x ∷ xs) (false ∷ fs) = (room_for-Keyless (raw (lone R.mir)) p, slots-Keyless s (p +ₚ bytes_of R) xs fs)

  pub Slots-send : IsSend R → IsSend (Slots.the_row R)
  Slots-send s =
      let O = Slots.the_type R in let all : AllSend (fields O) = (search sendable, (search sendable, tt)) in
      owning_send O all (λ d. (tt, in_block-Keyless d.ptr _ (slots-Keyless s d.ptr d.items d.filled))) (λ k. quiet (to O) (exits_of k (fields O)) ((struct_send (shape O) all).leaving k))

  module _ (A : RattleType) (g : Ghosts A.Denot) where
    pub Lease-send : FreesAnywhere A.Denot g → IsSend (Lease.the_row R A g)
    Lease-send f =
        let O = Lease.the_type R A g in let all : AllSend (fields O) = (search sendable, (search sendable, (search sendable, tt))) in
        owning_send O all (λ d. f.frees d.alloc (raw (ty_array (lone R.mir) d.len)) d.ptr) (λ k. quiet (to O) (exits_of k (fields O)) ((struct_send (shape O) all).leaving k))
