-- What is under the book's lock stays together.
use Rattle.std.proofs.Common.{◌≡◌, ℕ, ◌+◌, ◌<◌, ◌≤◌, Bool, true, List, [], ◌∷◌, ◌++◌, length, map, drop, refl, sym, ap, subst, ◌∙◌, arith, Option, Some, get_or, slice_get}
use Rattle.tp_shared.proofs.Lower.{append-nil, slice_get_read, Roll, Seal, Entry, NodeState, Network, World, BookValue, next_in_book, world_of, entries_among}
use Rattle.tp_shared.specs.BookActs.{Grown, HostActed}
use Rattle.tp_shared.specs.BrokenSeen.{BrokenSince}
use Rattle.tp_shared.specs.Frozen.{frozen_in, StayGone}
use Rattle.tp_shared.specs.HandedIn.{handed}
use Rattle.tp_shared.specs.Positions.{IsNumberedFrom}
use Rattle.tp_shared.specs.Seals.{Stage, Sealed}
use Rattle.tp_shared.specs.Thawed.{ThawedAsTold}
use Rattle.tp_shared.specs.Together.{AreTogether}
use Rattle.tp_shared.specs.Told.{ToldSince, told_of}
use Rattle.tp_shared.specs.declared.flusher.handed.Handed.{Handed}
use Rattle.tp_shared.specs.declared.nodes.seal.NodeSeal.{NodeSeal}
use Rattle.tp_shared.specs.declared.flusher.told.Told.{Told}
use Rattle.tp_shared.proofs.Accepting.{accepted_more}
use Rattle.tp_shared.proofs.BrokenSeen.{ever_since, seen_now}
use Rattle.tp_shared.proofs.Copying.{since_flag}
use Rattle.tp_shared.proofs.HandedIn.{handed-append}
use Rattle.tp_shared.proofs.Positioned.{numbered_grown, numbered_still}
use Rattle.tp_shared.proofs.Sealing.{all_after, floor_after, sealed_broken, sealed_still, tied_after, tied_still}
use Rattle.tp_shared.proofs.Telling.{since_broken, since_gone, since_more, since_still, told_fewer}
use Rattle.tp_shared.proofs.Writing.{as_many, paired}

module _ {roll_name first : ℕ} {start : Network NodeState} {node : ℕ → ℕ} {flusher host : ℕ} {room : Option ℕ} {accepted : ℕ → ℕ} {before : World NodeState} {b : BookValue} {seals : List NodeSeal} {roll : Roll Entry} {told : Seal Told} {given : Seal Handed} {sights : List BookValue}
    (T : AreTogether roll_name first start node flusher host room accepted before b seals roll told given sights) where
  -- the seal at a node's number
  pub seal_at : (i : ℕ) (s : NodeSeal) → i < length start.nodes → s ≡ get_or seals i s → slice_get seals i ≡ Some s
  seal_at i s there is = slice_get_read seals (length seals) i s refl (let count = T.seal_count in omega (arith, count, there)) is

  told_so : {now : Seal Told} → now.name ≡ told.name → ToldSince now.value (told_of before first (record { book = b; all = roll.items; numbered_from = now.value.numbered_from; frozen = frozen_in seals })) → ThawedAsTold now.value seals
      → IsNumberedFrom now.value.numbered_from b → now.value.numbered_from ≤ now.value.base + length now.value.net.entries → AreTogether roll_name first start node flusher host room accepted before b seals roll now given sights
  told_so name since thawed numbered reaches = record {
    idle = T.idle;
    seal_count = T.seal_count;
    run_count = T.run_count;
    sealed = T.sealed;
    roll_is = T.roll_is;
    first_is = T.first_is;
    tied = T.tied;
    wires_are = T.wires_are;
    count_is = T.count_is;
    flusher_is = name ∙ T.flusher_is;
    since = since;
    wire_count = T.wire_count;
    room_is = T.room_is;
    floor = T.floor;
    thawed = thawed;
    numbered = numbered;
    reaches = reaches;
    host_is = T.host_is;
    given_is = T.given_is;
    fed = T.fed;
    seen = T.seen;
  }

  -- the flusher is told nothing new
  pub told_still : {now : Seal Told} → now.name ≡ told.name → now.value ≡ told.value → AreTogether roll_name first start node flusher host room accepted before b seals roll now given sights
  told_still name is =
      told_so name (subst (λ (t : Told). ToldSince t (told_of before first (record { book = b; all = roll.items; numbered_from = t.numbered_from; frozen = frozen_in seals }))) (sym is) T.since) (subst (λ t. ThawedAsTold t seals) (sym is) T.thawed)
      (subst (λ (t : Told). IsNumberedFrom t.numbered_from b) (sym is) T.numbered) (subst (λ (t : Told). t.numbered_from ≤ t.base + length t.net.entries) (sym is) T.reaches)

  -- it is told of the book as it is
  pub told_anew : {now : Seal Told} (flag : Bool) → now.name ≡ told.name → now.value ≡ record (told_of before first (record { book = b; all = roll.items; numbered_from = told.value.numbered_from; frozen = frozen_in seals })) { thawed = flag }
      → ThawedAsTold now.value seals → AreTogether roll_name first start node flusher host room accepted before b seals roll now given sights
  told_anew flag name is thawed =
      let stage : Stage = record { book = b; all = roll.items; numbered_from = told.value.numbered_from; frozen = frozen_in seals } in
      let low : told.value.numbered_from ≤ next_in_book b = let more = told_fewer before first told.value stage T.since in let reaches = T.reaches in omega (arith, more, reaches) in
      told_so name (subst (λ (t : Told). ToldSince t (told_of before first (record { book = b; all = roll.items; numbered_from = t.numbered_from; frozen = frozen_in seals }))) (sym is) (since_flag (told_of before first stage) flag)) thawed
      (subst (λ (t : Told). IsNumberedFrom t.numbered_from b) (sym is) T.numbered) (subst (λ (t : Told). t.numbered_from ≤ t.base + length t.net.entries) (sym is) low)

  -- the book is as it was, beside other seals
  pub sealed_anew : {others : List NodeSeal} → length others ≡ length seals → Sealed node others b → ThawedAsTold told.value others → StayGone (world_of b) (frozen_in seals) (frozen_in others)
      → AreTogether roll_name first start node flusher host room accepted before b others roll told given sights
  sealed_anew {others} many sealed thawed gone = record {
    idle = T.idle;
    seal_count = many ∙ T.seal_count;
    run_count = T.run_count;
    sealed = sealed;
    roll_is = T.roll_is;
    first_is = T.first_is;
    tied = T.tied;
    wires_are = T.wires_are;
    count_is = T.count_is;
    flusher_is = T.flusher_is;
    since = since_gone before first told.value b roll.items told.value.numbered_from (frozen_in seals) (frozen_in others) gone T.since;
    wire_count = T.wire_count;
    room_is = T.room_is;
    floor = T.floor;
    thawed = thawed;
    numbered = T.numbered;
    reaches = T.reaches;
    host_is = T.host_is;
    given_is = T.given_is;
    fed = T.fed;
    seen = T.seen;
  }

  -- nothing was journalled
  pub acted_still : {new : BookValue} {others : List NodeSeal} → Grown (λ entries. entries ≡ []) b new → length new.runs ≡ length b.runs → length others ≡ length seals → Sealed node others new → ThawedAsTold told.value others
      → StayGone (world_of b) (frozen_in seals) (frozen_in others) → AreTogether roll_name first start node flusher host room accepted before new others roll told given sights
  acted_still {new} {others} G runs many sealed thawed gone = record {
    idle = G.ready ∙ T.idle;
    seal_count = many ∙ T.seal_count;
    run_count = runs ∙ T.run_count;
    sealed = sealed;
    roll_is = T.roll_is;
    first_is = T.first_is;
    tied = tied_still b new first roll.items G T.tied;
    wires_are = ap (λ s. s.wires) G.start ∙ T.wires_are;
    count_is = ap (λ s. length s.nodes) G.start ∙ T.count_is;
    flusher_is = T.flusher_is;
    since = since_still before first told.value b new roll.items told.value.numbered_from (frozen_in seals) (frozen_in others) G gone T.since;
    wire_count = T.wire_count;
    room_is = G.room ∙ T.room_is;
    floor = floor_after (λ (entries : List Entry). entries ≡ []) b new G first T.floor;
    thawed = thawed;
    numbered = numbered_still told.value.numbered_from b new G T.numbered;
    reaches = T.reaches;
    host_is = T.host_is;
    given_is = T.given_is;
    fed = accepted_more (λ (entries : List Entry). entries ≡ []) b new G accepted roll.items roll.items (sym (append-nil roll.items) ∙ ap (λ es. roll.items ++ es) (sym G.are)) T.fed;
    seen = subst (λ now. BrokenSince now sights) (sym G.broken) T.seen;
  }

  -- ## What the host handed in

  -- nothing more
  pub given_same : {now : Seal Handed} → now.name ≡ given.name → now.value ≡ given.value → AreTogether roll_name first start node flusher host room accepted before b seals roll told now sights
  given_same name is = record {
    idle = T.idle;
    seal_count = T.seal_count;
    run_count = T.run_count;
    sealed = T.sealed;
    roll_is = T.roll_is;
    first_is = T.first_is;
    tied = T.tied;
    wires_are = T.wires_are;
    count_is = T.count_is;
    flusher_is = T.flusher_is;
    since = T.since;
    wire_count = T.wire_count;
    room_is = T.room_is;
    floor = T.floor;
    thawed = T.thawed;
    numbered = T.numbered;
    reaches = T.reaches;
    host_is = name ∙ T.host_is;
    given_is = ap (λ (x : Handed). x.entries) is ∙ T.given_is;
    fed = T.fed;
    seen = T.seen;
  }

  -- nothing among what turns wrote onto the roll
  pub given_still : {Are : List Entry → Type 0} {new : BookValue} (G : Grown Are b new) (n : ℕ) → n ≡ length b.state.entries → {all : List Entry} → all ≡ roll.items ++ drop n new.state.entries → handed (entries_among G.acts) ≡ []
      → given.value.entries ≡ handed all
  given_still {Are} {new} G n many {all} is none =
      T.given_is ∙ sym (append-nil (handed roll.items)) ∙ ap (λ es. handed roll.items ++ es) (sym none) ∙ sym (handed-append roll.items (entries_among G.acts))
      ∙ ap handed (sym (all_after Are b new G n many roll.items all is))

  -- what is among the entries that were written onto the roll
  pub given_more : (new : BookValue) (n : ℕ) {all : List Entry} → all ≡ roll.items ++ drop n new.state.entries → {was more : Handed} → given.value ≡ was → more.entries ≡ was.entries ++ handed (drop n new.state.entries)
      → {now : Handed} → now ≡ more → now.entries ≡ handed all
  given_more new n is agreed more_is shows =
      let added = drop n new.state.entries in
      ap (λ (x : Handed). x.entries) shows ∙ more_is ∙ ap (λ (x : Handed). x.entries ++ handed added) (sym agreed) ∙ ap (λ es. es ++ handed added) T.given_is ∙ sym (handed-append roll.items added) ∙ ap handed (sym is)

  -- ## What is journalled

  -- what was journalled was written onto the roll
  pub acted_written : {Are : List Entry → Type 0} {new : BookValue} {others : List NodeSeal} {now : Roll Entry} {hand : Seal Handed} (es : List (Entry × ℕ)) → map (λ (e : Entry × ℕ). e.0) es ≡ b.state.entries → map (λ (e : Entry × ℕ). e.1) es ≡ b.numbers
      → Grown Are b new → length new.runs ≡ length b.runs → length others ≡ length seals → Sealed node others new → ThawedAsTold told.value others → StayGone (world_of b) (frozen_in seals) (frozen_in others)
      → now.name ≡ roll.name → now.first ≡ roll.first → now.items ≡ roll.items ++ drop (length es) new.state.entries → hand.name ≡ given.name → hand.value.entries ≡ handed now.items
      → AreTogether roll_name first start node flusher host room accepted before new others now told hand sights
  acted_written {Are} {new} {others} {now} es entries_are numbers_are G runs many sealed thawed gone name same is label shows =
      let counted = as_many es b.state.entries entries_are in
      record {
        idle = G.ready ∙ T.idle;
        seal_count = many ∙ T.seal_count;
        run_count = runs ∙ T.run_count;
        sealed = sealed;
        roll_is = name ∙ T.roll_is;
        first_is = same ∙ T.first_is;
        tied = tied_after Are b new G (length es) counted first roll.items now.items T.tied is;
        wires_are = ap (λ s. s.wires) G.start ∙ T.wires_are;
        count_is = ap (λ s. length s.nodes) G.start ∙ T.count_is;
        flusher_is = T.flusher_is;
        since = since_more Are before first told.value b new roll.items now.items told.value.numbered_from (frozen_in seals) (frozen_in others) G (all_after Are b new G (length es) counted roll.items now.items is) gone T.since;
        wire_count = T.wire_count;
        room_is = G.room ∙ T.room_is;
        floor = floor_after Are b new G first T.floor;
        thawed = thawed;
        numbered = numbered_grown Are told.value.numbered_from b new G (paired es b.state.entries b.numbers entries_are numbers_are) T.numbered;
        reaches = T.reaches;
        host_is = label ∙ T.host_is;
        given_is = shows;
        fed = accepted_more Are b new G accepted roll.items now.items (all_after Are b new G (length es) counted roll.items now.items is) T.fed;
        seen = subst (λ now. BrokenSince now sights) (sym G.broken) T.seen;
      }

  -- acts of the host that journalled nothing
  pub hosted_still : {new : BookValue} → HostActed (λ entries. entries ≡ []) b new → AreTogether roll_name first start node flusher host room accepted before new seals roll told given sights
  hosted_still {new} H = acted_still H.grown (ap length H.runs) refl (sealed_still (λ (entries : List Entry). entries ≡ []) node seals b new T.sealed H) T.thawed (λ i n F none. none)

  -- acts of the host, and what was journalled was written onto the roll
  pub hosted_written : {Are : List Entry → Type 0} {new : BookValue} {now : Roll Entry} {hand : Seal Handed} (es : List (Entry × ℕ)) → map (λ (e : Entry × ℕ). e.0) es ≡ b.state.entries → map (λ (e : Entry × ℕ). e.1) es ≡ b.numbers
      → HostActed Are b new → now.name ≡ roll.name → now.first ≡ roll.first → now.items ≡ roll.items ++ drop (length es) new.state.entries → hand.name ≡ given.name → hand.value.entries ≡ handed now.items
      → AreTogether roll_name first start node flusher host room accepted before new seals now told hand sights
  hosted_written {Are} {new} es entries_are numbers_are H name same is label shows =
      acted_written es entries_are numbers_are H.grown (ap length H.runs) refl (sealed_still Are node seals b new T.sealed H) T.thawed (λ i n F none. none) name same is label shows

  -- the store breaks, and that is told
  pub broken_told : {new : BookValue} {now : Seal Told} → new ≡ record b { broken = true } → now.name ≡ told.name → now.value ≡ record told.value { broken = true }
      → AreTogether roll_name first start node flusher host room accepted before new seals roll now given sights
  broken_told {new} {now} is name shows =
      let broke : BookValue = record b { broken = true } in
      let t : Told = record told.value { broken = true } in
      subst (λ book. AreTogether roll_name first start node flusher host room accepted before book seals roll now given sights) (sym is)
      (record {
        idle = T.idle;
        seal_count = T.seal_count;
        run_count = T.run_count;
        sealed = sealed_broken node seals b T.sealed;
        roll_is = T.roll_is;
        first_is = T.first_is;
        tied = record { are = T.tied.are; next = T.tied.next };
        wires_are = T.wires_are;
        count_is = T.count_is;
        flusher_is = name ∙ T.flusher_is;
        since = subst (λ (x : Told). ToldSince x (told_of before first (record { book = broke; all = roll.items; numbered_from = x.numbered_from; frozen = frozen_in seals }))) (sym shows)
            (since_broken before first told.value b roll.items told.value.numbered_from (frozen_in seals) T.since);
        wire_count = T.wire_count;
        room_is = T.room_is;
        floor = T.floor;
        thawed = subst (λ x. ThawedAsTold x seals) (sym shows) (λ h. let H = T.thawed h in record { cut = H.cut; nodes = H.nodes; has = H.has; holds = H.holds; none = H.none });
        numbered = subst (λ (x : Told). IsNumberedFrom x.numbered_from broke) (sym shows) T.numbered;
        reaches = subst (λ (x : Told). x.numbered_from ≤ x.base + length x.net.entries) (sym shows) T.reaches;
        host_is = T.host_is;
        given_is = T.given_is;
        fed = T.fed;
        seen = ever_since sights;
      })

  -- the book was seen as it is
  pub seen_more : {now : List BookValue} → now ≡ sights ++ b ∷ [] → AreTogether roll_name first start node flusher host room accepted before b seals roll told given now
  seen_more {now} is = record {
    idle = T.idle;
    seal_count = T.seal_count;
    run_count = T.run_count;
    sealed = T.sealed;
    roll_is = T.roll_is;
    first_is = T.first_is;
    tied = T.tied;
    wires_are = T.wires_are;
    count_is = T.count_is;
    flusher_is = T.flusher_is;
    since = T.since;
    wire_count = T.wire_count;
    room_is = T.room_is;
    floor = T.floor;
    thawed = T.thawed;
    numbered = T.numbered;
    reaches = T.reaches;
    host_is = T.host_is;
    given_is = T.given_is;
    fed = T.fed;
    seen = seen_now b sights now is T.seen;
  }
