use Rattle.std.proofs.Common.{◌≡◌, ◌+◌, ◌≤◌, ℕ, List, [], length, sym, ap, subst, ◌∙◌, arith}
use Rattle.tp_shared.proofs.Lower.{Entry, next_in_book}
use Rattle.tp_shared.specs.BytesIn.{bytes_in}
use Rattle.tp_shared.specs.Frozen.{frozen_in}
use Rattle.tp_shared.specs.HandedIn.{handed}
use Rattle.tp_shared.specs.Positions.{IsNumberedFrom}
use Rattle.tp_shared.specs.Told.{ToldSince, told_of}
use Rattle.tp_shared.specs.declared.flusher.told.Told.{Told}
use Rattle.tp_shared.proofs.BrokenSeen.{seen_none}
use Rattle.tp_shared.proofs.Thawing.{thaws_none}
use Rattle.tp_shared.proofs.Positioned.{positions_below}
use Rattle.tp_shared.proofs.Telling.{since_none}
use Rattle.tp_shared.proofs.Writing.{paired}
use Rattle.tp_shared.proofs.book.locked.Locked.new.Goals as goal

-- a port to which no entry has handed anything
none_in : (accepted : ℕ → ℕ) (p : ℕ) (es : List Entry) → es ≡ [] → accepted p ≡ accepted p + length (bytes_in p es)
none_in accepted p es none = let short = ap (λ xs. length (bytes_in p xs)) none in omega (arith, short)

pub invariant_of-result : goal.invariant_of-result
invariant_of-result g c =
    let now = told_of g.J.Naming.before g.J.Naming.first (record { book = c.args.book; all = c.args.roll.items; numbered_from = g.J.Naming.first; frozen = frozen_in c.args.seals.items }) in
    let is : c.args.told.value ≡ now = c.requires.told.1 ∙ ap (λ (es : List Entry). told_of g.J.Naming.before g.J.Naming.first (record { book = c.args.book; all = es; numbered_from = g.J.Naming.first; frozen = frozen_in c.args.seals.items })) (sym c.requires.roll.2) in
    let many = paired c.entries-count.result.now c.args.book.state.entries c.args.book.numbers c.entries-count.ensures.entries c.entries-count.ensures.numbers in
    let last : g.J.Naming.first ≡ next_in_book c.args.book = let next = c.requires.tied.next in let none = ap length c.requires.roll.2 in omega (arith, next, none) in
    record {
      idle = c.requires.idle;
      seal_count = c.requires.count.0;
      run_count = c.requires.count.1;
      sealed = c.requires.sealed;
      roll_is = c.requires.roll.0;
      first_is = c.requires.roll.1;
      tied = c.requires.tied;
      wires_are = c.requires.wires.0;
      count_is = c.requires.count.2;
      flusher_is = c.requires.told.0;
      since = subst (λ (t : Told). ToldSince t (told_of g.J.Naming.before g.J.Naming.first (record { book = c.args.book; all = c.args.roll.items; numbered_from = t.numbered_from; frozen = frozen_in c.args.seals.items }))) (sym is) (since_none now);
      wire_count = c.requires.wires.1;
      room_is = c.requires.room.0;
      floor = c.requires.room.1;
      thawed = thaws_none c.args.told.value c.args.seals.items (ap (λ (t : Told). t.thawed) is);
      numbered = subst (λ (t : Told). IsNumberedFrom t.numbered_from c.args.book) (sym is) (positions_below g.J.Naming.first c.args.book.base c.args.book.numbers (omega (arith, many, last)));
      reaches = subst (λ (t : Told). t.numbered_from ≤ t.base + length t.net.entries) (sym is) (omega (arith, last));
      host_is = c.requires.given.0;
      given_is = c.requires.given.1 ∙ ap handed (sym c.requires.roll.2);
      fed = λ p below. c.requires.accepted p ∙ none_in g.J.Naming.accepted p c.args.roll.items c.requires.roll.2;
      seen = seen_none _ _ _ c.requires.unseen;
    }
