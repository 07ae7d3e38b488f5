-- A `&` to a region holds nothing but its fields.
use mathlib.Core.Path.{refl}
use denote.RattleType.{RattleType}
use denote.Builtin.{Array, u8}
use denote.SharingLaws.{nothing_shr_laws}
use denote.Param.Laws.{Laws, array_laws, of_field}
use denote.Param.Shared.{copy_shared}
use denote.Struct.Field.{u8-field}
use denote.Struct.Laws.{u8-laws, u8-copy}
use denote.Struct.Lending.{of_Lends, Lends-nothing}
use Rattle.core.proofs.slots.Slots.TheLaws as slots
use Rattle.core.proofs.slots.Lease.TheLaws as lease
use Rattle.std_heap.specs.contracts.Global as Heap
use Rattle.std_heap.specs.contracts.GlobalAllocator.TheImpl.{ghosts}
use Rattle.std_heap.proofs.Global.TheLaws as heap
use Rattle.tp_mem.specs.contracts.region.Region.TheInside as C
use Rattle.tp_mem.proofs.region.Region.TheLaw.Statement.{statement}

abbrev Bytes : RattleType
Bytes = Array u8 tt 1024

abbrev laws : Laws Bytes
laws = array_laws u8 (of_field u8-field u8-laws refl (copy_shared u8-field u8-copy)) 1024

pub shares : statement
shares = of_Lends C.struct C.the_codes C.the_heap C.the_lent (λ d p. nothing_shr_laws)
    (slots.the_field_shared Bytes laws, (lease.the_field_shared Bytes Heap.the_row ghosts laws heap.the_row_laws, (heap.the_field_shared, tt)))
    (λ M 𝓤 𝓛 d p. Lends-nothing 𝓛 (C.the_heap d) C.the_row.lives)
