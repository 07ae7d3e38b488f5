-- What is replayed after a cut.
use Rattle.std.specs.Prelude.{◌≡◌, ℕ, ◌+◌, length, map, Some}
use Rattle.tp_replay.specs.Lower.{Form, AreOf, Machine, Network, after, AreNumbered, Replay}

-- The kept entries lead from the cut's network to the one that is there. Their numbers rise, and none is above its number in the journal.
-- The next entry's number in the journal counts them all. An area of this form may hold each.
pub record IsHistory {Node : Type 0} (M : Machine Node) (form : Form) (start : Network Node) (base : ℕ) (r : Replay Node) : Type 0 where
  pub leads : after M start (map (λ e. e.0) r.kept) ≡ Some r.now
  pub numbered : AreNumbered 0 base (map (λ e. e.1) r.kept)
  pub next : r.next ≡ base + length r.kept
  pub form_is : r.form ≡ form
  pub of_form : AreOf form r.kept
