use Rattle.std.proofs.Common.{◌≡◌, ◌-◌, true, [], vec_len, All, Some}
use Rattle.crossbeam_queue.specs.Passes.{view, IsPassOf, ruled_capacity}
use Rattle.tp_ready.specs.Past.{IsNew, first_claims}
use Rattle.tp_ready.proofs.queue.ReadyQueue.start.Given as goal

-- the numbers and the hands are made, and each hand so far is a free one that called nothing
abbrev pub invariant-loop : goal.invariant-loop
invariant-loop g l = record {
  line : IsPassOf l.line l.port;
  knows : (view l.port).knows ≡ true;
  held : (view l.port).held ≡ [];
  seen : (view l.port).seen ≡ [];
  count : (view l.port).count ≡ ruled_capacity l.line;
  counted : (view l.port).hands ≡ l.fn.hands;
  claims : (view l.port).claims ≡ first_claims (l.fn.hands - l.counter);
  given : vec_len l.all ≡ l.counter;
  free : All (λ hand. hand.of ≡ Some (record { queue = l.line.table.shared.table_id; count = ruled_capacity l.line; hands = l.fn.hands })) l.all.items;
  new : All (λ hand. IsNew hand.past) l.all.items;
}
