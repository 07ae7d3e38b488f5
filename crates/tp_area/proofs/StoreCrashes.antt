-- What a crash leaves within each of the calls that the store makes, and how the device rests after them.
use Rattle.std.proofs.Common.{◌≡◌, ℕ, ◌+◌, ◌⊎◌, inl, inr, List, [], Some, None, Result, Ok, Err, refl}
use Rattle.std.specs.Prelude.{Option}
use Rattle.tp_area.proofs.Lower.{option_map, result_ok, Entry, OpenFault, NodeState, Machine, t414, t414_ends, Moment, Write, Sync, done, State, LeavesOnly, all_done, group_calls, clear_calls, switch_calls, Areas, AreasHold, Held, ArePossible, with_more, gate_open, gate_closed, Opened, held_of, device_areas, RestsBetweenGroups, rests_may, clear_within, clear_written, clear_may, clear_synced, body_within, body_written, body_may, body_synced, gate_within, gate_written, gate_may, gate_synced, switch_within, switch_written, switch_may, switch_synced, areas_keep, AllWithin, started}
use Rattle.tp_area.specs.Crashes.{StandsOpened, OpensToEither, RestsAs}

-- the areas of the device keep what crashes need
pub keep : AreasHold t414 device_areas
keep = areas_keep t414 t414_ends

-- what opens to something, opens
pub held_ok : (r : Result Opened OpenFault) (h : Held NodeState) → option_map held_of (result_ok r) ≡ Some h → (o : Opened) × (r ≡ Ok o)
held_ok (Ok o) h is = (o, refl)
held_ok (Err fault) h is = cc

module _ (M : Machine NodeState) (A : Areas NodeState) (law : AreasHold M A) (h : Held NodeState) where
  -- a group is appended
  pub within_group : (disk : Moment) → RestsBetweenGroups A h disk → (gate : ℕ) (body : List ℕ) (es : List Entry) → A.group disk.bytes es ≡ Some (gate, body) → ArePossible M h es
      → AllWithin (group_calls gate body) disk (λ left. (A.verdict left ≡ Some h) ⊎ (A.verdict left ≡ Some (with_more h es)))
  within_group disk rests gate body es asked possible =
      let bodied = body_written M A law h disk rests gate es body asked in
      let put = done (Write (gate + 1) body) disk in
      let ready = body_synced M A law h put gate es bodied in
      let synced = done Sync put in
      let gated = gate_written M A law h synced gate es ready in
      let opened = done (Write gate gate_open) synced in (
        λ left may. inl (body_within M A law h disk rests gate es body asked left may),
        (
          λ left may. inl (body_may M A law h put gate es bodied left may),
          (
            λ left may. gate_within M A law h synced gate es ready possible left may,
            (
              λ left may. gate_may M A law h opened gate es gated possible left may,
              λ left may. inr (rests_may M A law (with_more h es) (done Sync opened) (gate_synced M A law h opened gate es gated possible) left may),
            ),
          ),
        ),
      )

  -- the other area's gate is closed if it is open
  pub within_clear : (disk : Moment) → RestsBetweenGroups A h disk → (found : Option ℕ) → A.open_other disk.bytes ≡ found
      → AllWithin (clear_calls found) disk (λ left. A.verdict left ≡ Some h)
  within_clear disk rests None is = (λ left may. rests_may M A law h disk rests left may, λ left may. rests_may M A law h disk rests left may)
  within_clear disk rests (Some gate) is =
      let cleared = clear_written M A law h disk rests gate is in
      let closed = done (Write gate gate_closed) disk in (
        λ left may. rests_may M A law h disk rests left may,
        (
          λ left may. clear_within M A law h disk rests gate is left may,
          (
            λ left may. clear_may M A law h closed cleared left may,
            λ left may. rests_may M A law h (done Sync closed) (clear_synced M A law h closed cleared) left may,
          ),
        ),
      )

  pub rests_cleared : (disk : Moment) → RestsBetweenGroups A h disk → (found : Option ℕ) → A.open_other disk.bytes ≡ found → RestsBetweenGroups A h (all_done (clear_calls found) disk)
  rests_cleared disk rests None is = rests
  rests_cleared disk rests (Some gate) is = clear_synced M A law h (done (Write gate gate_closed) disk) (clear_written M A law h disk rests gate is)

  -- the other area's gate is opened
  pub within_switch : (disk : Moment) (k : Held NodeState) → RestsBetweenGroups A h disk → (gate : ℕ) → disk.unsynced ≡ [] → A.other disk.bytes ≡ Some (gate, k)
      → AllWithin (switch_calls gate) disk (λ left. (A.verdict left ≡ Some h) ⊎ (A.verdict left ≡ Some k))
  within_switch disk k rests gate synced other =
      let switching = switch_written M A law h disk k rests gate synced other in
      let opened = done (Write gate gate_open) disk in (
        λ left may. switch_within M A law h disk k rests gate synced other left may,
        (
          λ left may. switch_may M A law h opened k switching left may,
          λ left may. inr (rests_may M A law k (done Sync opened) (record { reads = switch_synced M A law h opened k switching; loose = tt }) left may),
        ),
      )

-- no call yet
pub rests_leaves : (h : Held NodeState) (s : State) → RestsAs h s → LeavesOnly s s (StandsOpened h)
rests_leaves h s rests = started s (StandsOpened h) (λ left may. rests_may t414 device_areas keep h s.now rests left may)

pub rests_leaves_either : (h k : Held NodeState) (s : State) → RestsAs h s → LeavesOnly s s (OpensToEither h k)
rests_leaves_either h k s rests = started s (OpensToEither h k) (λ left may. inl (rests_may t414 device_areas keep h s.now rests left may))
