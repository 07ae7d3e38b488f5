-- What is done at a line, at a link, and at links in order.
use Rattle.std.proofs.Common.{◌≡◌, ℕ, ◌+◌, ◌*◌, ◌<◌, [], ◌++◌, refl, sym, ap, subst, ◌∙◌, arith, add-one, append_assoc, Option, Some, None, slice_get}
use Rattle.std.specs.Prelude.{◌-◌, Result, Ok, Err}
use Rattle.tp_turn.proofs.Lower.{back, Refusal, agreed, next_in_book}
use Rattle.tp_turn.specs.declared.take.TheConstants.{TAKES}
use Rattle.tp_turn.specs.declared.left.Left.{Left}
use Rattle.tp_turn.specs.declared.left.Left.TheVariants.{NoWire, Enough, Empty, Marked, NoFrame, PortFull, JournalFull}
use Rattle.tp_turn.specs.Turns.{Then, InOrder}
use Rattle.tp_turn.specs.Moments.{TurnMoment, entries_among, Done}
use Rattle.tp_turn.specs.Fronts.{AtFront, IsLeft, EndsTurn, FrontAnswers, LineEnds, OnLine, OnWire, OnLink}
use Rattle.tp_turn.specs.Settled.{Records, LeavesLink, Settles, EndsAtLink, SettledAs}
use Rattle.tp_turn.proofs.Grown.{grew_next}
use Rattle.tp_turn.proofs.Adding.{added_none, added_more}

-- ## A line

ends_left : (number line count : ℕ) (why : Left) (m : TurnMoment) → count < TAKES → IsLeft number line why m → LineEnds number line count (Ok why) m
ends_left number line count NoWire m few h = absurd h
ends_left number line count Enough m few h = absurd h
ends_left number line count Empty m few h = (few, h)
ends_left number line count Marked m few h = (few, h)
ends_left number line count NoFrame m few h = (few, h)
ends_left number line count PortFull m few h = absurd h
ends_left number line count JournalFull m few h = (few, h)

module _ (number line count : ℕ) (a b : TurnMoment) (D : Done number (InOrder (λ at. AtFront number line) count) a b) where
  pub line_left : (why : Left) (c : TurnMoment) → c ≡ b → count < TAKES → IsLeft number line why b → Done number (OnLine number line (Ok why)) a c
  line_left why c same few h =
      subst (Done number (OnLine number line (Ok why)) a) (sym same)
      (record { acts = D.acts; added = D.added; did = record { count = count; did = D.did; ends = ends_left number line count why b few h } })

  pub line_stops : (e : Refusal) (c : TurnMoment) → c ≡ b → count < TAKES → EndsTurn line e b.book → Done number (OnLine number line (Err e)) a c
  line_stops e c same few h =
      subst (Done number (OnLine number line (Err e)) a) (sym same)
      (record { acts = D.acts; added = D.added; did = record { count = count; did = D.did; ends = (few, h) } })

  pub line_enough : count ≡ TAKES → Done number (OnLine number line (Ok Enough)) a b
  line_enough all = record { acts = D.acts; added = D.added; did = record { count = count; did = D.did; ends = all } }

-- ## The answer at the front

pub front_none : (number line : ℕ) (o : Option Left) (s t : TurnMoment) → o ≡ None → FrontAnswers number line (Ok o) s t → Done number (AtFront number line) s t
front_none number line o s t e h = subst (λ o. FrontAnswers number line (Ok o) s t) e h

pub front_some : (number line : ℕ) (o : Option Left) (why : Left) (s t : TurnMoment) → o ≡ Some why → FrontAnswers number line (Ok o) s t → (t ≡ s) × IsLeft number line why s
front_some number line o why s t e h = subst (λ o. FrontAnswers number line (Ok o) s t) e h

-- ## A link

pub link_wired : (number link line : ℕ) (answer : Result Left Refusal) (a b : TurnMoment) → back a.book.state.start (4 * number + link) ≡ Some line → Done number (OnLine number line answer) a b
    → Done number (OnLink number link answer) a b
link_wired number link line answer a b to D = record { acts = D.acts; added = D.added; did = subst (λ o. OnWire number o answer a D.acts b) (sym to) D.did }

pub link_unwired : (number link : ℕ) (a : TurnMoment) → back a.book.state.start (4 * number + link) ≡ None → slice_get (agreed a.book.state) number ≡ Some a.node.live → Done number (OnLink number link (Ok NoWire)) a a
link_unwired number link a to there = record {
  acts = [];
  added = added_none number a.node.live a.book there;
  did = subst (λ o. OnWire number o (Ok NoWire) a [] a) (sym to) (refl, refl, refl);
}

-- ## Links in order

module _ (number : ℕ) (a b c : TurnMoment) (link : ℕ) (D : Done number (Then (Records number) (InOrder (λ k. LeavesLink number k) link)) a b) where
  pub links_more : (why : Left) → Done number (OnLink number link (Ok why)) b c → Done number (Then (Records number) (InOrder (λ k. LeavesLink number k) (link + 1))) a c
  unfolding InOrder
  links_more why E =
      subst (λ n. Done number (Then (Records number) (InOrder (λ k. LeavesLink number k) n)) a c) (sym (add-one link))
      (record {
        acts = D.acts ++ E.acts;
        added = added_more number b.node.live c.node.live D.acts E.acts a.book b.book c.book D.added E.added;
        did = record {
          between = D.did.between;
          first = D.did.first;
          second = D.did.second ++ E.acts;
          are = ap (λ xs. xs ++ E.acts) D.did.are ∙ append_assoc D.did.first D.did.second E.acts;
          one_did = D.did.one_did;
          other_did = record { between = b; first = D.did.second; second = E.acts; are = refl; one_did = D.did.other_did; other_did = record { why = why; did = E.did } };
        };
      })

  pub links_stop : (e : Refusal) → link < 4 → Done number (OnLink number link (Err e)) b c → Done number (EndsAtLink number e) a c
  links_stop e there E = record {
    acts = D.acts ++ E.acts;
    added = added_more number b.node.live c.node.live D.acts E.acts a.book b.book c.book D.added E.added;
    did = record {
      link = link;
      there = there;
      did = record {
        between = D.did.between;
        first = D.did.first;
        second = D.did.second ++ E.acts;
        are = ap (λ xs. xs ++ E.acts) D.did.are ∙ append_assoc D.did.first D.did.second E.acts;
        one_did = D.did.one_did;
        other_did = record { between = b; first = D.did.second; second = E.acts; are = refl; one_did = D.did.other_did; other_did = E.did };
      };
    };
  }

-- ## How many takes

pub settles_with : (number takes : ℕ) (a b : TurnMoment) → (D : Done number (Settles number) a b) → takes ≡ next_in_book b.book - next_in_book a.book → Done number (SettledAs number (Ok takes)) a b
settles_with number takes a b D many =
    let more = grew_next (entries_among D.acts) a.book b.book D.added.grew in
    record { acts = D.acts; added = D.added; did = record { many = omega (arith, many, more); did = D.did } }
