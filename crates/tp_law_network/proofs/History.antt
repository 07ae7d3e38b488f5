-- What a run's journal is at each moment, and which orders of it the cuts mean.
use Rattle.std.proofs.Common.{◌≡◌, ℕ, ◌+◌, ◌≤◌, List, length, take, sym, subst, ◌∙◌, arith, Some}
use Rattle.tp_law_network.proofs.Lower.{Machine, Network, on_line, process, HasFourLinks, after, pre, post, EndsSeen, KeepsFlight, Sound, NeverMarks, markers, plain_network, WholeCut, count_in, whole, IsWhole, CutHolds, HasOrder, MayBe, Areas, AreasHold, next_number, World, Event, BeginsFormatted, Recovers}
use Rattle.tp_model.specs.Runs.{Run}
use Rattle.tp_law_network.proofs.Sound.{sound_after}
use Rattle.tp_law_network.proofs.Room.{sound_marked}
use Rattle.tp_law_network.proofs.CutsRoom.{few_markers, line_room}
use Rattle.tp_law_network.proofs.Whole.{whole_only, whole_there}
use Rattle.tp_law_network.proofs.Orders.{order_cut}
use Rattle.tp_law_network.proofs.Prefix.{Stands, stands_taken}
use Rattle.tp_law_network.proofs.Invariant.{Inv}
use Rattle.tp_law_network.proofs.Runs.{reads_now, formatted_run}

module _ {Node : Type 0} (M : Machine Node) (four : HasFourLinks M) (never : NeverMarks M) (A : Areas Node) (law : AreasHold M A) (start : Network Node)
    (events : List (Event Node)) (first last : World Node) (formatted : BeginsFormatted M A start first) (run : Run M A first events last) where
  holds : Inv M A start last
  holds = formatted_run M four never A law start events first last formatted run

  -- ## The journal

  -- the entries since the kept cut lead to the network as it is,
  pub kept_leads : after M last.net.start last.net.entries ≡ Some (plain_network last.net.live)
  kept_leads = holds.net.base.now

  -- and so does the journal
  pub journal_leads : after M start last.journal ≡ Some (plain_network last.net.live)
  journal_leads = sym holds.agree ∙ kept_leads

  pub one_marker : (line : ℕ) → markers (on_line last.net.live.lines line) ≤ 1
  one_marker line = few_markers M last.net holds.net line

  pub stays_sound : (E : EndsSeen Node) → KeepsFlight M E → Sound E start → Sound E last.net.live
  stays_sound E keeps sound = sound_marked last.net.live (sound_after four keeps start (plain_network last.net.live) last.journal sound journal_leads) holds.net.base.unwired

  pub three_tokens : (E : EndsSeen Node) → KeepsFlight M E → Sound E start → (line : ℕ) → length (on_line last.net.live.lines line) ≤ 3
  three_tokens E keeps sound line =
      let most = line_room M last.net holds.net E (sound_after four keeps start (plain_network last.net.live) last.journal sound journal_leads) line in
      let one = one_marker line in
      omega arith

  -- ## Whole cuts

  pub whole_now : ((cut : WholeCut) → whole last.net ≡ Some cut → IsWhole last.net) × (IsWhole last.net → (cut : WholeCut) × (whole last.net ≡ Some cut))
  whole_now = (whole_only M last.net holds.net, whole_there M last.net holds.net)

  -- ## Orders of the journal

  pub kept_order : HasOrder M start last.journal last.net.start last.net.entries last.base
  kept_order = holds.order

  pub whole_order : (cut : WholeCut) → (C : CutHolds M last.net cut)
      → HasOrder M start last.journal C.consistent.state (post (process last.net.start.wires (length last.net.start.nodes)) (count_in cut) last.net.entries) (last.base + cut.size)
  whole_order cut C =
      let inside = pre (process last.net.start.wires (length last.net.start.nodes)) (count_in cut) last.net.entries in
      let outside = post (process last.net.start.wires (length last.net.start.nodes)) (count_in cut) last.net.entries in
      subst (λ n. HasOrder M start last.journal C.consistent.state outside (last.base + n)) (sym C.size)
      (order_cut M start last.journal last.net.entries last.net.start C.consistent.state last.base inside outside holds.order C.consistent.is C.order)

  pub crash_order : (bytes : List ℕ) → MayBe last.disk bytes → (r : Recovers M A start last bytes)
      → HasOrder M start (take (next_number r.held) last.journal) r.held.network r.held.entries r.held.base
  crash_order bytes may r =
      let R = reads_now M four never A law start formatted.opened last holds bytes may in
      let same : R.held ≡ r.held = let both = sym R.is ∙ r.reads in cc in
      let S = subst (Stands M start last.journal last.stored) same R.stands in
      let cut = stands_taken M start last.journal last.stored r.held S in
      subst (λ journal. HasOrder M start journal r.held.network r.held.entries r.held.base) (sym cut) S.order
