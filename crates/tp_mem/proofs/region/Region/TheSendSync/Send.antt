-- Its frames are bytes, and its right to free their block is of no thread.
use denote.Builtin.{Array, u8}
use denote.Param.Send.{IsSend, AllSend, owning_send, struct_send, view_send, sendable}
use denote.Struct.Struct.{exits_of}
use denote.Struct.Owning.{shape, fields, to}
use Rattle.std.proofs.Crossing as heap
use Rattle.std_alloc.proofs.SendSync.{quiet}
use Rattle.std_heap.specs.contracts.Global as Heap
use Rattle.std_heap.proofs.Global.TheSendSync as handle
use Rattle.std_heap.specs.contracts.GlobalAllocator.TheImpl.{ghosts}
use Rattle.tp_mem.proofs.Crosses.{Slots-send, Lease-send}
use Rattle.tp_mem.specs.contracts.region.Region as Region
use Rattle.tp_mem.specs.contracts.region.Region.TheInside.{the_row, the_type}

inside : IsSend the_row
inside =
    let all : AllSend (fields the_type) = (Slots-send (Array u8 tt 1024) (search sendable), (Lease-send (Array u8 tt 1024) Heap.the_row ghosts heap.frees, (handle.the_field_send, tt))) in
    owning_send the_type all (λ d. tt) (λ k. quiet (to the_type) (exits_of k (fields the_type)) ((struct_send (shape the_type) all).leaving k))

pub send : IsSend Region.the_row
send = view_send the_row _ _ _ _ inside
