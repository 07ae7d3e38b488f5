-- What was handed in of a port's input.
use Rattle.std.specs.Prelude.{◌≡◌, ◌≤◌, ℕ, List, ◌++◌, length, map, Option}
use Rattle.tp_stream.specs.Lower.{Entry, HostIn, accepted_of, after_inputs, port_in, HoldNoted, Stage, AreFrom}

-- A port was handed the next bytes of its input after those that it had accepted, at most `most` of them, each with an entry. A seat got exactly
-- their slips, and the host's key shows exactly these entries more.
pub record Offered (input : Option (List ℕ)) (port most first : ℕ) (old new : Stage) (seat_old seat_new : List (ℕ × Entry)) (host_old host_new : List Entry) : Type 0 where
  pub bytes : List ℕ
  pub few : length bytes ≤ most
  pub from : AreFrom input (accepted_of (port_in old.book port)) bytes
  pub book : new.book ≡ after_inputs old.book port bytes
  pub noted : HoldNoted (λ entries. entries ≡ map (HostIn port) bytes) first old new seat_old seat_new
  pub handed : host_new ≡ host_old ++ map (HostIn port) bytes
