-- What each moment of a run keeps: its book's kept cut has an image, its entries are spelt, and they find room.
use Rattle.std.proofs.Common.{ℕ, List, [], ◌∷◌, length, sym, ap, subst, refl, arith, inl}
use Rattle.tp_law_device.proofs.Lower.{NodeState, t414, t414_ends, Network, IsOpened, MarkedNetwork, HasTailRoom, device_areas, World, Event, fresh, BeginsFormatted, KeptRun, has_four_links, never_marks, AreBytes, Inv, step_keeps, formatted_holds}
use Rattle.tp_law_device.proofs.Holds.{areas_keep}
use Rattle.tp_law_device.proofs.Held.{HeldSpelt, held_by, held_read, step_spelt}
use Rattle.tp_law_device.proofs.TailRoom.{tail_room_opened}
use Rattle.tp_law_device.proofs.RunRoom.{RunRoom, step_room}

pub record KeptAt (most : ℕ) (start : Network NodeState) (w : World NodeState) : Type 0 where
  pub inv : Inv t414 device_areas start w
  pub spelt : HeldSpelt (held_by w)
  pub room : RunRoom most w

pub run_kept : (most : ℕ) (start : Network NodeState) → IsOpened t414 (fresh start) → (events : List (Event NodeState)) (w v : World NodeState) → KeptAt most start w → KeptRun most w events v → KeptAt most start v
run_kept most start opened [] w v K run = subst (KeptAt most start) (sym run) K
run_kept most start opened (event ∷ events) w v K run =
    run_kept most start opened events run.0 v (record {
      inv = step_keeps t414 has_four_links never_marks device_areas (areas_keep t414 t414_ends) start opened w run.0 event K.inv run.1;
      spelt = step_spelt most start opened w run.0 event K.inv K.spelt run.2 run.1;
      room = step_room most start w run.0 event K.inv K.room run.2 run.1;
    }) run.3

-- From a formatted device on.
pub formatted_kept : (most : ℕ) (start : Network NodeState) (events : List (Event NodeState)) (first last : World NodeState) → BeginsFormatted t414 device_areas start first → AreBytes first.disk.bytes
    → KeptRun most first events last → KeptAt most start last
formatted_kept most start events first last F bytes run =
    let G : HeldSpelt (record { network = start; entries = []; base = 0 }) = held_read first.disk.bytes (record { network = start; entries = []; base = 0 }) bytes F.reads in
    let net = F.net in
    let none = F.none in
    let base = none.0 in
    run_kept most start F.opened events first last (record {
      inv = formatted_holds t414 has_four_links never_marks device_areas (areas_keep t414 t414_ends) start F.opened first F;
      spelt = subst HeldSpelt (λ i. record { network = (sym net i).start; entries = (sym net i).entries; base = sym base i }) G;
      room = record {
        tail = subst (HasTailRoom most) (sym net) (tail_room_opened t414 has_four_links most (fresh start) refl);
        group = inl (omega (arith, ap (λ (n : MarkedNetwork NodeState). length n.entries) net));
      };
    }) run
